-- Stamps in a tile's places: read back as they were, none late where each is heard by 2^41 - 1, and as many silent as marked. Assumes nothing.
use mathlib.Core.Path.{◌≡◌, refl, ◌∙◌}
use mathlib.Core.Bool.{false}
use mathlib.Core.List.{List, [], ◌∷◌}
use Prim.Native.Nat.{suc, ◌+◌, ◌≤◌, zero-le}
use lib.ListN.{length}
use native.Mathlib.Omega.{arith}
use borrow.Author.Tests.{le-ltb}
use Rattle.settings.specs.Refusal.{any_below}
use Rattle.settings.specs.Settings.{settings_cause, settings_refusal}
use Rattle.settings.specs.declared.refusal.Refusal.TheVariants as why
use Rattle.rule.specs.Signed.{natural}
use Rattle.rule.specs.Stamp.{Stamp, heard, silent, All, none, more, unheard_of, unheard_in, latest_stamp}
use Rattle.tile.specs.Tile.{silent_at, reading_at, stamp_from, stamp_at, late_from, late_at, count_silent, silences, stamp_tests, tile_tests, tile_cause, tile_refusal, own_stamp, neighbour_places, neighbour_stamps}
use Rattle.settings.specs.declared.Settings.{Settings}
use Rattle.tile.specs.declared.Stamps.{Stamps}
use Rattle.settings.proofs.Laws.Refusal.{skip, skip_given, end, no_number, within}
use Rattle.rule.proofs.Laws.Stamp.{By, heard_by, unheard}
use Rattle.pulse.specs.Tiles.{reading_of, silence_of, stamps_of}

pub back : (y : Stamp) → stamp_from (silence_of y) (reading_of y) ≡ y
unfolding stamp_from silence_of reading_of natural
back (heard a) = refl
back silent = refl

on_time : {y : Stamp} → By latest_stamp y → late_from (silence_of y) (reading_of y) ≡ false
unfolding late_from silence_of reading_of
on_time (heard_by {a = a} i) = rw (le-ltb a 0 zero-le, le-ltb latest_stamp a i)
on_time unheard = refl

counted : (y : Stamp) → count_silent (silence_of y) ≡ unheard_of y
unfolding count_silent silence_of unheard_of
counted (heard a) = refl
counted silent = refl

-- own's stamp and two neighbours', or three
module _ (s : Settings) (ok : settings_refusal s ≡ 0) (own : Stamp) (own_by : By latest_stamp own) where
  pub two_places : (a b : Stamp) → neighbour_stamps (stamps_of own (a ∷ b ∷ [])) ≡ a ∷ b ∷ []
  unfolding neighbour_stamps neighbour_places stamp_at silent_at reading_at stamps_of
  two_places a b = rw (back a, back b)

  pub three_places : (a b c : Stamp) → neighbour_stamps (stamps_of own (a ∷ b ∷ c ∷ [])) ≡ a ∷ b ∷ c ∷ []
  unfolding neighbour_stamps neighbour_places stamp_at silent_at reading_at stamps_of
  three_places a b c = rw (back a, back b, back c)

  -- then no number applies
  clear : (x : Stamps) → 2 ≤ x.count → x.count ≤ 3 → any_below (suc x.count) (late_at x) ≡ false → silences x (suc x.count) ≤ 1 → tile_refusal s x ≡ 0
  unfolding tile_refusal tile_cause tile_tests stamp_tests settings_refusal
  clear x i j late few =
      no_number _
      (skip_given (settings_cause s) _ ok
      ∙ skip why.Neighbours _ (within 2 3 x.count i j)
      ∙ skip why.Stamp _ late
      ∙ end why.Silences (le-ltb 1 (silences x (suc x.count)) few))

  pub two_accepted : (a b : Stamp) → By latest_stamp a → By latest_stamp b → unheard_of own + unheard_in (a ∷ b ∷ []) ≤ 1 →
      tile_refusal s (stamps_of own (a ∷ b ∷ [])) ≡ 0
  unfolding any_below late_at silent_at reading_at silences stamps_of unheard_in
  two_accepted a b p q few =
      clear (stamps_of own (a ∷ b ∷ [])) (omega arith) (omega arith)
      (rw (on_time own_by, on_time p, on_time q))
      (rw (counted own, counted a, counted b) (omega arith))

  pub three_accepted : (a b c : Stamp) → By latest_stamp a → By latest_stamp b → By latest_stamp c → unheard_of own + unheard_in (a ∷ b ∷ c ∷ []) ≤ 1 →
      tile_refusal s (stamps_of own (a ∷ b ∷ c ∷ [])) ≡ 0
  unfolding any_below late_at silent_at reading_at silences stamps_of unheard_in
  three_accepted a b c p q r few =
      clear (stamps_of own (a ∷ b ∷ c ∷ [])) (omega arith) (omega arith)
      (rw (on_time own_by, on_time p, on_time q, on_time r))
      (rw (counted own, counted a, counted b, counted c) (omega arith))

-- own's place holds own's stamp
pub own_place : (own : Stamp) (ns : List Stamp) → own_stamp (stamps_of own ns) ≡ own
unfolding own_stamp stamp_at silent_at reading_at stamps_of
own_place own ns = back own

-- a tile with the stamps that the rule takes
pub places_back : (s : Settings) → settings_refusal s ≡ 0 → (own : Stamp) (ns : List Stamp) → By latest_stamp own → All (By latest_stamp) ns →
    unheard_of own + unheard_in ns ≤ 1 → 2 ≤ length ns → length ns ≤ 3 → (tile_refusal s (stamps_of own ns) ≡ 0) × (neighbour_stamps (stamps_of own ns) ≡ ns)
places_back s ok own (a ∷ b ∷ []) o (more p (more q none)) few i j = (two_accepted s ok own o a b p q few, two_places s ok own o a b)
places_back s ok own (a ∷ b ∷ c ∷ []) o (more p (more q (more r none))) few i j = (three_accepted s ok own o a b c p q r few, three_places s ok own o a b c)
places_back s ok own [] o ps few i j = let never : ⊥ = omega arith in absurd never
places_back s ok own (a ∷ []) o ps few i j = let never : ⊥ = omega arith in absurd never
places_back s ok own (a ∷ b ∷ c ∷ d ∷ ns) o ps few i j = let never : ⊥ = omega arith in absurd never
