-- A tile's stamps along the window of its predecessors, as the code reads them, and the pulse that they give. Assumes nothing.
use mathlib.Core.Path.{◌≡◌, refl, ◌∙◌, ap}
use mathlib.Core.Bool.{true, false, cond}
use mathlib.Core.List.{List, [], ◌∷◌}
use Prim.Native.Nat.{ℕ, ◌+◌, ◌-◌, ◌≤◌, ◌<◌, min, max}
use native.Mathlib.Omega.{arith}
use Rattle.settings.specs.Settings.{step_of}
use Rattle.settings.specs.declared.Settings.{Settings}
use Rattle.settings.proofs.Laws.Settings.{limits}
use Rattle.rule.specs.Stamp.{code_of}
use Rattle.columns.specs.Columns.{neighbours, links_before}
use Rattle.columns.specs.Window.{first_sender, four_senders}
use Rattle.admission.specs.Call.{Call}
use Rattle.admission.proofs.Laws.Accepted.{Accepted}
use Rattle.pulse.specs.Pulse.{clock_of, stamp}
use Rattle.pulse.specs.Pulsed.{pulsed}
use Rattle.pulse.specs.declared.Pulsed.{Pulsed}
use Rattle.pulse.specs.Stampable.{Stampable, stamped}
use Rattle.pulse.specs.Arranged.{arranged}
use Rattle.pulse.proofs.Laws.Arranged.{arranged_map, taken}
use Rattle.pulse.proofs.Laws.Senders.{Sender, sender, fourth, placed, own_in}
use Rattle.pulse.proofs.Laws.Stampable.{stampable, code, Pulsing, pulse_two, pulse_three}

-- a tile of an accepted row, and the first column and first link of its window
pub record Found (s : Settings) (ts : List ℕ) (x : Call) (c k p : ℕ) : Type 0 where
  pub row : Accepted s ts x
  pub here : c < s.width
  pub from : k ≡ first_sender s.width c
  pub at : p ≡ links_before s.width c

module _ {s : Settings} {ts : List ℕ} {x : Call} {c k p : ℕ} (t : Found s ts x c k p) where
  wide : 6 ≤ s.width
  wide = (limits s t.row.settings).width.0

  -- the sender at a place, and a fourth
  at_place : (n : ℕ) → n < 3 → Sender s.width c (k + n) (p + n)
  at_place n i = sender s.width c wide t.here n i (ap (λ (m : ℕ). m + n) t.from) (ap (λ (m : ℕ). m + n) t.at)

  at_fourth : four_senders s.width c ≡ true → Sender s.width c (k + 3) (p + 3)
  at_fourth f = fourth s.width c wide t.here f (ap (λ (m : ℕ). m + 3) t.from) (ap (λ (m : ℕ). m + 3) t.at)

  -- its link may be read
  abbrev Readable : ℕ → Type 0
  Readable n = Stampable (clock_of x.drifts x.phases c) ts x.marks x.links (k + n) (p + n)

  pub readable : (n : ℕ) → n < 3 → Readable n
  readable n i = stampable t.row c t.here (at_place n i)

  pub fourth_readable : four_senders s.width c ≡ true → Readable 3
  fourth_readable f = stampable t.row c t.here (at_fourth f)

  -- and what is read there is its stamp
  abbrev read : ℕ → ℕ
  read n = stamped (clock_of x.drifts x.phases c) ts x.marks x.links (k + n) (p + n)

  abbrev heard : ℕ → ℕ
  heard j = code_of (stamp s.width ts x c j)

  is_heard : {v : ℕ} (n : ℕ) → n < 3 → v ≡ read n → v ≡ heard (k + n)
  is_heard n i e = e ∙ code t.row c t.here (at_place n i)

  abbrev fixed : (j own l m : ℕ) → Pulsed
  fixed j own l m = pulsed s j (clock_of x.drifts x.phases c) own l m

  -- own's place
  pub own_after : k ≤ c
  own_after = omega (arith, t.from, own_in s.width c wide t.here)

  own_placed : arranged (c - k) (λ own a b. (own ≡ c) × (neighbours s.width c ≡ a ∷ b ∷ cond (four_senders s.width c) ((k + 3) ∷ []) [])) (k + 0) (k + 1) (k + 2)
  own_placed = rw t.from (placed s.width c wide t.here)

  -- the first three stamps, and the step
  pub record Stamps (j u v z : ℕ) : Type 0 where
    pub step : j ≡ step_of s
    pub first : u ≡ read 0
    pub second : v ≡ read 1
    pub third : z ≡ read 2

  -- own's stamp and the two others', as they are taken out of the three
  module _ {j u v z o : ℕ} (a b : ℕ) (h : Stamps j u v z) (got : arranged (c - k) (λ own d e. (o ≡ own) × (a ≡ d) × (b ≡ e)) u v z) where
    -- what holds of the stamps of own and of the neighbours holds of these
    by_place : (Q : (own a b : ℕ) → Type 0) →
        ((d e : ℕ) → neighbours s.width c ≡ d ∷ e ∷ cond (four_senders s.width c) ((k + 3) ∷ []) [] → Q (heard c) (heard d) (heard e)) →
        Q o a b
    by_place Q q =
        taken Q (c - k) u v z got
        (rw (is_heard 0 (omega arith) h.first, is_heard 1 (omega arith) h.second, is_heard 2 (omega arith) h.third)
        (arranged_map Q (c - k) (k + 0) (k + 1) (k + 2) heard (λ own d e n. rw n.0 (q d e n.1)) own_placed))

    -- with two neighbours, and with three
    pub of_two : four_senders s.width c ≡ false → Pulsing s ts x c o (min a b) (max a b)
    of_two f = by_place (λ own a b. Pulsing s ts x c own (min a b) (max a b)) (λ d e n. pulse_two t.row c t.here (rw f at n) refl refl refl)

    pub of_three : {d : ℕ} → four_senders s.width c ≡ true → d ≡ read 3 → Pulsing s ts x c o (min (min a b) d) (max (max a b) d)
    of_three {d} f is_d =
        by_place (λ own a b. Pulsing s ts x c own (min (min a b) d) (max (max a b) d))
        (λ i l n. pulse_three t.row c t.here (rw f at n) refl refl refl (is_d ∙ code t.row c t.here (at_fourth f)))
