-- The proofs of what specs/Promises.antt states. Assumes nothing.
use mathlib.Core.Path.{◌≡◌, refl, sym, ◌∙◌}
use mathlib.Core.Bool.{Bool, true, false, cond}
use mathlib.Core.List.{List, [], ◌∷◌}
use Prim.Native.Nat.{ℕ, zero, suc, ◌≤◌, ◌<◌}
use lib.Dec.{eqb, ltb}
use lib.ListN.{get_or}
use native.Mathlib.Omega.{arith}
use borrow.Author.Tests.{eqb-true, lt-ltb, le-ltb, ltb-false}
use Rattle.settings.specs.Refusal.{outside}
use Rattle.settings.specs.Settings.{settings}
use Rattle.rule.specs.Signed.{natural}
use Rattle.rule.specs.Stamp.{latest_stamp}
use Rattle.tile.specs.Tile.{silent_at, reading_at, stamp_from, stamp_at, late_from, late_at}
use Rattle.settings.proofs.Laws.Cases.{by_order}
use Rattle.stages.specs.Fit.{place}
use Rattle.stages.specs.declared.Wall.TheVariants.{New, Start, Row, End, Over}
use Rattle.layout.specs.Words.{unfit, silent_word, first_late, at_most, stamp_in, stamps_in, settings_from, place_in, staged, wall_in, place_words, wall_words, refused_words, refused_number}
use Rattle.layout.specs.Promises.{word_stamp, word_late, StampsRead, CountRead, WallsKept, WallsNotRefused, RefusalsKept, RefusalsStay}

-- what is taken as less is late all the same
less_late : (n : ℕ) → ltb latest_stamp (at_most first_late n) ≡ ltb latest_stamp n
unfolding at_most
less_late n =
    by_order first_late n
    (λ i. rw (le-ltb n first_late i) (sym (lt-ltb latest_stamp n (omega (arith, i)))))
    (λ i. rw (lt-ltb n first_late i))

word_read : (n : ℕ) → late_from (eqb n silent_word) (stamp_in n) ≡ word_late n
unfolding late_from stamp_in word_late
word_read n = rw (le-ltb (at_most first_late n) 0 (omega arith), less_late n)

early_read : (n : ℕ) (b : Bool) → eqb n silent_word ≡ b → word_late n ≡ false → stamp_from b (stamp_in n) ≡ word_stamp n
unfolding word_late word_stamp stamp_from stamp_in natural at_most
early_read n true e l = rw e
early_read n false e l =
    let early : n ≤ latest_stamp = ltb-false latest_stamp n (rw e at l) in
    rw (e, lt-ltb n first_late (omega (arith, early)))

module _ (ws : List ℕ) where
  -- each place is read from its own word
  late_is : (j : ℕ) → j < 4 → late_at (stamps_in ws) j ≡ late_from (eqb (get_or ws j 0) silent_word) (stamp_in (get_or ws j 0))
  unfolding late_at silent_at reading_at stamps_in
  late_is zero i = refl
  late_is (suc zero) i = refl
  late_is (suc (suc zero)) i = refl
  late_is (suc (suc (suc zero))) i = refl
  late_is (suc (suc (suc (suc j)))) i = let never : ⊥ = omega arith in absurd never

  stamp_is : (j : ℕ) → j < 4 → stamp_at (stamps_in ws) j ≡ stamp_from (eqb (get_or ws j 0) silent_word) (stamp_in (get_or ws j 0))
  unfolding stamp_at silent_at reading_at stamps_in
  stamp_is zero i = refl
  stamp_is (suc zero) i = refl
  stamp_is (suc (suc zero)) i = refl
  stamp_is (suc (suc (suc zero))) i = refl
  stamp_is (suc (suc (suc (suc j)))) i = let never : ⊥ = omega arith in absurd never

pub stamps_read : StampsRead
unfolding StampsRead
stamps_read ws j i =
    let n = get_or ws j 0 in
    (late_is ws j i ∙ word_read n, λ l. stamp_is ws j i ∙ early_read n (eqb n silent_word) refl l)

pub count_read : CountRead
unfolding CountRead stamps_in at_most outside
count_read ws =
    let n = get_or ws 4 0 in (
      by_order 4 n
          (λ i. rw (le-ltb n 4 i, le-ltb n 2 (omega (arith, i))) (sym (lt-ltb 3 n (omega (arith, i)))))
          (λ i. rw (lt-ltb n 4 i)),
      λ i. rw (lt-ltb n 4 (omega (arith, i))),
    )

pub walls_kept : WallsKept
unfolding WallsKept wall_in staged wall_words place_words place_in settings_from settings place
walls_kept New p = refl
walls_kept (Start q) p = refl
walls_kept (Row q) p = refl
walls_kept (End q) p = refl
walls_kept Over p = refl

pub walls_not_refused : WallsNotRefused
unfolding WallsNotRefused refused_number wall_words place_words
walls_not_refused New p = refl
walls_not_refused (Start q) p = refl
walls_not_refused (Row q) p = refl
walls_not_refused (End q) p = refl
walls_not_refused Over p = refl

pub refusals_kept : RefusalsKept
unfolding RefusalsKept refused_number refused_words place_words place wall_in staged
refusals_kept n at p few = record { same_number = rw (lt-ltb n unfit few); same_offset = refl; over = refl }

-- ten words, of which the first is 5 and the ninth is a number
again : (a b c d e f g h i j : ℕ) →
    let ws = a ∷ b ∷ c ∷ d ∷ e ∷ f ∷ g ∷ h ∷ i ∷ j ∷ [] in
    0 < refused_number ws → refused_words (refused_number ws) j (place_in ws) ≡ ws
unfolding refused_number refused_words place_words place_in place settings_from settings
again a b c d e f g h i j s = pick (eqb a 5) refl (ltb i unfit) refl s
  where
    number : (p q : Bool) → ℕ
    number p q = cond p (cond q i 0) 0

    words : (p q : Bool) → List ℕ
    words p q = 5 ∷ b ∷ c ∷ d ∷ e ∷ f ∷ g ∷ h ∷ number p q ∷ j ∷ []

    pick : (p : Bool) → eqb a 5 ≡ p → (q : Bool) → ltb i unfit ≡ q → 0 < number p q → words p q ≡ a ∷ b ∷ c ∷ d ∷ e ∷ f ∷ g ∷ h ∷ i ∷ j ∷ []
    pick true x true y z = rw (eqb-true a 5 x)
    pick true x false y z = let never : ⊥ = omega arith in absurd never
    pick false x q y z = let never : ⊥ = omega arith in absurd never

pub refusals_stay : RefusalsStay
unfolding RefusalsStay
refusals_stay (a ∷ b ∷ c ∷ d ∷ e ∷ f ∷ g ∷ h ∷ i ∷ j ∷ []) l s = again a b c d e f g h i j s
refusals_stay [] l s = let never : ⊥ = omega arith in absurd never
refusals_stay (a ∷ []) l s = let never : ⊥ = omega arith in absurd never
refusals_stay (a ∷ b ∷ []) l s = let never : ⊥ = omega arith in absurd never
refusals_stay (a ∷ b ∷ c ∷ []) l s = let never : ⊥ = omega arith in absurd never
refusals_stay (a ∷ b ∷ c ∷ d ∷ []) l s = let never : ⊥ = omega arith in absurd never
refusals_stay (a ∷ b ∷ c ∷ d ∷ e ∷ []) l s = let never : ⊥ = omega arith in absurd never
refusals_stay (a ∷ b ∷ c ∷ d ∷ e ∷ f ∷ []) l s = let never : ⊥ = omega arith in absurd never
refusals_stay (a ∷ b ∷ c ∷ d ∷ e ∷ f ∷ g ∷ []) l s = let never : ⊥ = omega arith in absurd never
refusals_stay (a ∷ b ∷ c ∷ d ∷ e ∷ f ∷ g ∷ h ∷ []) l s = let never : ⊥ = omega arith in absurd never
refusals_stay (a ∷ b ∷ c ∷ d ∷ e ∷ f ∷ g ∷ h ∷ i ∷ []) l s = let never : ⊥ = omega arith in absurd never
refusals_stay (a ∷ b ∷ c ∷ d ∷ e ∷ f ∷ g ∷ h ∷ i ∷ j ∷ k ∷ ks) l s = let never : ⊥ = omega arith in absurd never
