-- What lies in the wall, and the answer by its tests. Assumes nothing.
use mathlib.Core.Path.{◌≡◌, sym, ◌∙◌}
use mathlib.Core.Bool.{true, false, true≢false}
use Prim.Native.Nat.{ℕ, ◌≤◌, ◌<◌}
use lib.Dec.{ltb}
use native.Mathlib.Omega.{arith}
use borrow.Author.Tests.{eq-eqb, ne_eqb, lt-ltb, le-ltb, ltb-false}
use Rattle.rule.specs.Stamp.{latest_stamp}
use Rattle.settings.specs.declared.Settings.{Settings}
use Rattle.settings.proofs.Laws.Cases.{by_equal, by_order}
use Rattle.reach.specs.Search.{outside_wall}

module _ (s : Settings) (b n k : ℕ) where
  pub no_row : n ≡ 0 → outside_wall s b n k ≡ true
  unfolding outside_wall
  no_row e = rw (eq-eqb n 0 e)

  pub past_rows : (n ≡ 0 → ⊥) → s.rows < n → outside_wall s b n k ≡ true
  unfolding outside_wall
  past_rows e i = rw (ne_eqb n 0 e, lt-ltb s.rows n i)

  module _ (e : n ≡ 0 → ⊥) (i : n ≤ s.rows) where
    pub no_column : s.width ≤ k → outside_wall s b n k ≡ true
    unfolding outside_wall
    no_column j = rw (ne_eqb n 0 e, le-ltb s.rows n i, le-ltb k s.width j)

    pub by_gap : k < s.width → outside_wall s b n k ≡ ltb latest_stamp b
    unfolding outside_wall
    by_gap j = rw (ne_eqb n 0 e, le-ltb s.rows n i, lt-ltb k s.width j)

  pub record Inside : Type 0 where
    pub some : 0 < n
    pub rows : n ≤ s.rows
    pub column : k < s.width
    pub gap : b ≤ latest_stamp

  pub in_wall : outside_wall s b n k ≡ false → Inside
  in_wall e =
      by_equal n 0
      (λ z. absurd (true≢false (sym (no_row z) ∙ e)))
      (λ z. by_order n s.rows
      (λ i. by_order s.width k
      (λ j. absurd (true≢false (sym (no_column z i j) ∙ e)))
      (λ j. record { some = omega arith; rows = i; column = j; gap = ltb-false latest_stamp b (sym (by_gap z i j) ∙ e) }))
      (λ i. absurd (true≢false (sym (past_rows z i) ∙ e))))
