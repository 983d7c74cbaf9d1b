-- A link's place: the senders of a tile one by one, and any other. Assumes nothing.
use mathlib.Core.Path.{◌≡◌}
use mathlib.Core.Bool.{true, false}
use Prim.Native.Nat.{ℕ, ◌+◌, ◌≤◌, ◌<◌}
use native.Mathlib.Omega.{arith}
use borrow.Author.Tests.{eq-eqb, ne_eqb}
use Rattle.columns.specs.Columns.{links_before, link_place, any_of}
use Rattle.columns.specs.Window.{first_sender, four_senders, window}
use Rattle.columns.proofs.Laws.Columns.{predecessors_window, first_link_place, second_link_place, third_link_place, fourth_link_place}
use Rattle.places.specs.Links.{hears, heard_at}
use Rattle.std.specs.Prelude.{Some, None}

module _ (w c k : ℕ) (wide : 6 ≤ w) (here : c < w) where
  abbrev first : ℕ
  first = first_sender w c

  heard : (p n : ℕ) → k ≡ p → hears w c k ≡ true → link_place w c p ≡ n → heard_at w c k ≡ Some n
  unfolding heard_at
  heard p n e h l = rw (h, e, l)

  pub at_first : k ≡ first → heard_at w c k ≡ Some (links_before w c)
  unfolding hears any_of window
  at_first e = heard first (links_before w c) e (rw (predecessors_window w c wide here, eq-eqb k first e)) (first_link_place w c wide here)

  pub at_second : k ≡ first + 1 → heard_at w c k ≡ Some (links_before w c + 1)
  unfolding hears any_of window
  at_second e =
      heard (first + 1) (links_before w c + 1) e
      (rw (predecessors_window w c wide here, ne_eqb k first (omega arith), eq-eqb k (first + 1) e))
      (second_link_place w c wide here)

  pub at_third : k ≡ first + 2 → heard_at w c k ≡ Some (links_before w c + 2)
  unfolding hears any_of window
  at_third e =
      heard (first + 2) (links_before w c + 2) e
      (rw (predecessors_window w c wide here, ne_eqb k first (omega arith), ne_eqb k (first + 1) (omega arith), eq-eqb k (first + 2) e))
      (third_link_place w c wide here)

  pub at_fourth : four_senders w c ≡ true → k ≡ first + 3 → heard_at w c k ≡ Some (links_before w c + 3)
  unfolding hears any_of window
  at_fourth f e =
      heard (first + 3) (links_before w c + 3) e
      (rw (
        predecessors_window w c wide here,
        ne_eqb k first (omega arith),
        ne_eqb k (first + 1) (omega arith),
        ne_eqb k (first + 2) (omega arith),
        f,
        eq-eqb k (first + 3) e,
      ))
      (fourth_link_place w c wide here f)

  module _ (x : k ≡ first → ⊥) (y : k ≡ first + 1 → ⊥) (z : k ≡ first + 2 → ⊥) where
    pub none_of_three : four_senders w c ≡ false → heard_at w c k ≡ None
    unfolding heard_at hears any_of window
    none_of_three f = rw (predecessors_window w c wide here, ne_eqb k first x, ne_eqb k (first + 1) y, ne_eqb k (first + 2) z, f)

    pub none_of_four : four_senders w c ≡ true → (k ≡ first + 3 → ⊥) → heard_at w c k ≡ None
    unfolding heard_at hears any_of window
    none_of_four f u =
        rw (predecessors_window w c wide here, ne_eqb k first x, ne_eqb k (first + 1) y, ne_eqb k (first + 2) z, f, ne_eqb k (first + 3) u)
