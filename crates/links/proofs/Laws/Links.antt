-- A tile's link values, looked at along the window of its predecessors. Assumes nothing.
use Rattle.std.proofs.Common.{◌≡◌, ℕ, ◌+◌, ◌<◌, ◌≤◌, Bool, true, false, cond, ◌||◌, List, [], ◌∷◌, get_or, refl, ap, ◌∙◌}
use mathlib.Core.Bool.{or-false}
use Rattle.settings.specs.declared.Settings.{Settings}
use Rattle.columns.specs.Columns.{predecessors, links_before, link_place, link, any_of}
use Rattle.columns.specs.Marks.{marked}
use Rattle.links.specs.Links.{bad_value, bad_link, bad_links}
use Rattle.columns.specs.Window.{first_sender, four_senders, window}
use Rattle.columns.proofs.Laws.Columns.{predecessors_window, first_link_place, second_link_place, third_link_place, fourth_link_place}

-- a link looked at, given its sender and its place
abbrev pub bad_at : Settings → (marks links : List ℕ) → (sender place : ℕ) → Bool
bad_at s ms ls k p = bad_value s (marked ms k) (get_or ls p 0)

module _ (w c k p : ℕ) (wide : 6 ≤ w) (here : c < w) (from : k ≡ first_sender w c) (at : p ≡ links_before w c) where
  link_place_0 : link_place w c k ≡ p
  link_place_0 = rw (from, at) (first_link_place w c wide here)

  link_place_1 : link_place w c (k + 1) ≡ p + 1
  link_place_1 = rw (from, at) (second_link_place w c wide here)

  link_place_2 : link_place w c (k + 2) ≡ p + 2
  link_place_2 = rw (from, at) (third_link_place w c wide here)

  link_place_3 : four_senders w c ≡ true → link_place w c (k + 3) ≡ p + 3
  link_place_3 e = rw (from, at) (fourth_link_place w c wide here e)

  predecessors_are : predecessors w c ≡ k ∷ (k + 1) ∷ (k + 2) ∷ cond (four_senders w c) ((k + 3) ∷ []) []
  unfolding window
  predecessors_are = rw (from, predecessors_window w c wide here)

  any_of_window : (f : ℕ → Bool) → any_of (predecessors w c) f ≡ (f k || (f (k + 1) || (f (k + 2) || cond (four_senders w c) (f (k + 3)) false)))
  unfolding any_of
  any_of_window f = rw predecessors_are (pick (four_senders w c))
    where
      pick : (b : Bool) → (f k || (f (k + 1) || (f (k + 2) || any_of (cond b ((k + 3) ∷ []) []) f))) ≡ (f k || (f (k + 1) || (f (k + 2) || cond b (f (k + 3)) false)))
      pick true = unfold any_of in rw (or-false (f (k + 3)))
      pick false = unfold any_of in refl

  module _ (s : Settings) (ms ls : List ℕ) (of_width : s.width ≡ w) where
    bad_link_at : (j q : ℕ) → link_place w c j ≡ q → bad_link s ms ls c j ≡ bad_at s ms ls j q
    unfolding bad_link link
    bad_link_at j q e = rw (of_width, e)

    fourth : (b : Bool) → four_senders w c ≡ b → cond b (bad_link s ms ls c (k + 3)) false ≡ cond b (bad_at s ms ls (k + 3) (p + 3)) false
    fourth true e = bad_link_at (k + 3) (p + 3) (link_place_3 e)
    fourth false e = refl

    pub bad_links_are : bad_links s ms ls c
        ≡ (bad_at s ms ls k p || (bad_at s ms ls (k + 1) (p + 1) || (bad_at s ms ls (k + 2) (p + 2) || cond (four_senders w c) (bad_at s ms ls (k + 3) (p + 3)) false)))
    unfolding bad_links
    bad_links_are =
        ap (λ (v : ℕ). any_of (predecessors v c) (bad_link s ms ls c)) of_width
        ∙ any_of_window (bad_link s ms ls c)
        ∙ rw (
          bad_link_at k p link_place_0,
          bad_link_at (k + 1) (p + 1) link_place_1,
          bad_link_at (k + 2) (p + 2) link_place_2,
          fourth (four_senders w c) refl,
        )
