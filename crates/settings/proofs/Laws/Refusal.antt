-- The first test that applies: past those that do not, at one that does, and what is known where none does; and what a refusal makes
-- of an answer. Assumes nothing.
use mathlib.Core.Path.{◌≡◌, refl, sym}
use mathlib.Core.Bool.{Bool, true, false, ◌||◌, true≢false}
use mathlib.Core.List.{List, [], ◌∷◌}
use Prim.Native.Nat.{ℕ, ◌≤◌, ◌<◌}
use native.Mathlib.Omega.{arith}
use lib.Dec.{ltb}
use borrow.Author.Tests.{ltb-false, lt-ltb, le-ltb}
use Rattle.std.specs.Prelude.{Option, Some, None, Result, Ok, Err, IsErrAnd}
use Rattle.std.proofs.lemmas.Result.{err_from_is_err_and}
use Rattle.settings.specs.declared.refusal.Refusal.{Refusal}
use Rattle.settings.specs.declared.refusal.Refusal.TheVariants as why
use Rattle.settings.specs.Refusal.{Test, ◌when◌, first, number, refused, or_else, answer, number_in, outside}

pub skip : (r : Refusal) {b : Bool} (ts : List Test) → b ≡ false → first ((r when b) ∷ ts) ≡ first ts
unfolding first
skip r ts e = rw e

pub hit : (r : Refusal) {b : Bool} (ts : List Test) → b ≡ true → first ((r when b) ∷ ts) ≡ Some r
unfolding first
hit r ts e = rw e

pub end : (r : Refusal) {b : Bool} → b ≡ false → first ((r when b) ∷ []) ≡ None
unfolding first
end r e = rw e

-- a refusal has a number
pub numbered : (r : Refusal) → number r ≡ 0 → ⊥
numbered why.Width e = omega (arith, e)
numbered why.Rows e = omega (arith, e)
numbered why.Delay e = omega (arith, e)
numbered why.Uncertainty e = omega (arith, e)
numbered why.Hold e = omega (arith, e)
numbered why.Drift e = omega (arith, e)
numbered why.Unit e = omega (arith, e)
numbered why.UnitCost e = omega (arith, e)
numbered why.UnitsHeld e = omega (arith, e)
numbered why.Neighbours e = omega (arith, e)
numbered why.Stamp e = omega (arith, e)
numbered why.Silences e = omega (arith, e)
numbered why.Lengths e = omega (arith, e)
numbered why.StrayMark e = omega (arith, e)
numbered why.LateTime e = omega (arith, e)
numbered why.Crowded e = omega (arith, e)
numbered why.TileDrift e = omega (arith, e)
numbered why.Link e = omega (arith, e)
numbered why.LateSide e = omega (arith, e)
numbered why.Tag e = omega (arith, e)
numbered why.Size e = omega (arith, e)
numbered why.Short e = omega (arith, e)
numbered why.GoesOn e = omega (arith, e)
numbered why.LateStart e = omega (arith, e)
numbered why.Waves e = omega (arith, e)
numbered why.NoGap e = omega (arith, e)
numbered why.Phase e = omega (arith, e)
numbered why.Sender e = omega (arith, e)

-- no number is no refusal, and the other way round
pub none_of : (c : Option Refusal) → refused c ≡ 0 → c ≡ None
none_of None e = refl
none_of (Some r) e = absurd (numbered r e)

pub no_number : (c : Option Refusal) → c ≡ None → refused c ≡ 0
no_number c e = rw e

pub a_number : (c : Option Refusal) (r : Refusal) → c ≡ Some r → refused c ≡ 0 → ⊥
a_number c r e z = numbered r (rw (← z, e))

-- where no refusal is given, the first test does not apply, and the rest give none
pub unhit : (r : Refusal) (b : Bool) (ts : List Test) → refused (first ((r when b) ∷ ts)) ≡ 0 → (b ≡ false) × (refused (first ts) ≡ 0)
unfolding first
unhit r true ts e = absurd (numbered r e)
unhit r false ts e = (refl, e)

-- a refusal found before comes first: that of settings, before any other
pub skip_given : (c o : Option Refusal) → refused c ≡ 0 → or_else c o ≡ o
unfolding or_else
skip_given c o e = rw (none_of c e)

pub hit_given : (c o : Option Refusal) → (refused c ≡ 0 → ⊥) → or_else c o ≡ c
unfolding or_else
hit_given None o k = absurd (k refl)
hit_given (Some r) o k = refl

pub unhit_given : (c o : Option Refusal) → refused (or_else c o) ≡ 0 → (refused c ≡ 0) × (refused o ≡ 0)
unfolding or_else
unhit_given None o e = (refl, e)
unhit_given (Some r) o e = absurd (numbered r e)

-- an answer has its cause's number
pub answered_number : {A : Type 0} (c : Option Refusal) (x : A) → number_in (answer c x) ≡ refused c
unfolding answer
answered_number None x = refl
answered_number (Some r) x = refl

-- an answer with a value had no refusal, and one without had that refusal
pub passed : {A : Type 0} (c : Option Refusal) (x : A) {v : A} → answer c x ≡ Ok v → refused c ≡ 0
unfolding answer
passed None x e = refl
passed (Some r) x e = cc e

pub accepted : {A : Type 0} (c : Option Refusal) (x : A) → refused c ≡ 0 → answer c x ≡ Ok x
unfolding answer
accepted c x e = rw (none_of c e)

pub refused_with : {A : Type 0} (c : Option Refusal) (x : A) {r : Refusal} → answer c x ≡ Err r → c ≡ Some r
unfolding answer
refused_with None x e = cc e
refused_with (Some q) x e = cc e

-- a check that is passed or not goes over into any other answer with its cause
pub goes_on : {A B : Type 0} (c : Option Refusal) (x : A) (y : B) {v : A} → answer c x ≡ Ok v → answer c y ≡ Ok y
goes_on c x y e = accepted c y (passed c x e)

pub turned_away : {A B : Type 0} (c : Option Refusal) (x : A) (y : B) {r : Refusal} → answer c x ≡ Err r → answer c y ≡ Err r
unfolding answer
turned_away c x y e = rw (refused_with c x e)

-- the same of a call that hands the refusal on by `?`
pub handed_on : {A B : Type 0} (r : Result B Refusal) (c : Option Refusal) (x : A) (y : B) {q : Refusal} → IsErrAnd r (λ d. d ≡ q) → answer c x ≡ Err q → r ≡ answer c y
handed_on r c x y {q} h e = let p = err_from_is_err_and r h in rw (p.1, p.2) (sym (turned_away c x y e))

pub neither : (a b : Bool) → (a || b) ≡ false → (a ≡ false) × (b ≡ false)
neither true b e = absurd (true≢false e)
neither false b e = (refl, e)

pub inside : (low high v : ℕ) → outside low high v ≡ false → (low ≤ v) × (v ≤ high)
unfolding outside
inside low high v e =
    let n = neither (ltb v low) (ltb high v) e in
    (ltb-false v low n.0, ltb-false high v n.1)

pub below : (low high v : ℕ) → v < low → outside low high v ≡ true
unfolding outside
below low high v i = rw (lt-ltb v low i)

pub above : (low high v : ℕ) → low ≤ v → high < v → outside low high v ≡ true
unfolding outside
above low high v i k = rw (le-ltb v low i, lt-ltb high v k)

pub within : (low high v : ℕ) → low ≤ v → v ≤ high → outside low high v ≡ false
unfolding outside
within low high v i k = rw (le-ltb v low i, le-ltb high v k)
