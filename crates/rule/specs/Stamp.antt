-- Stamps: readings of arrivals, and silence, which comes last. Assumes nothing.
use Rattle.std.specs.Prelude.{cond, List, [], ◌∷◌, ℕ, ◌+◌, ◌≤◌, min, max, eqb}

-- §5.1 the reading of an arrival that is heard, or silence
pub data Stamp : Type 0 where
  heard : ℕ → Stamp
  silent : Stamp

-- §5.1 the earlier of two: silence only where both are silent
unfoldable pub earlier : Stamp → Stamp → Stamp
earlier (heard a) (heard b) = heard (min a b)
earlier (heard a) silent = heard a
earlier silent x = x

-- §5.1 the later of two: silence where one is silent
unfoldable pub later : Stamp → Stamp → Stamp
later (heard a) (heard b) = heard (max a b)
later (heard a) silent = silent
later silent x = silent

-- §5.3 min: the earliest of the stamps that are heard
unfoldable pub earliest : List Stamp → Stamp
earliest [] = silent
earliest (x ∷ xs) = earlier x (earliest xs)

-- §5.1 max: the latest of some stamps, silence where one is silent
unfoldable pub latest : List Stamp → Stamp
latest [] = heard 0
latest (x ∷ xs) = later x (latest xs)

-- §6.2 the latest stamp that is accepted, and the latest time of a seam: 2^41 - 1
abbrev pub latest_stamp : ℕ
latest_stamp = 2199023255551

-- §6.1 silence as a number: 2^64 - 1
abbrev pub silence : ℕ
silence = 18446744073709551615

-- §6.1 the stamp that a number stands for
unfoldable pub stamp_of : ℕ → Stamp
stamp_of v = cond (eqb v silence) silent (heard v)

-- §6.1 the number that stands for a stamp
unfoldable pub code_of : Stamp → ℕ
code_of (heard a) = a
code_of silent = silence

-- OF STATEMENTS AND LAWS ALONE. No definition of what an operation answers uses what follows.

infix 50 ◌≼◌ ◌≼*◌ ◌∈◌
-- §5.1 no later than: silence is last
pub data ◌≼◌ : Stamp → Stamp → Type 0 where
  in_order : {a b : ℕ} → a ≤ b → heard a ≼ heard b
  last : {x : Stamp} → x ≼ silent

-- §5.1 two lists of stamps, each no later than its fellow
pub data ◌≼*◌ : List Stamp → List Stamp → Type 0 where
  none : [] ≼* []
  both : {x y : Stamp} {xs ys : List Stamp} → x ≼ y → xs ≼* ys → (x ∷ xs) ≼* (y ∷ ys)

-- §11.7 n later; silence stays silence
unfoldable pub after : ℕ → Stamp → Stamp
after n (heard a) = heard (a + n)
after n silent = silent

-- §12.3 a stamp among some
pub data ◌∈◌ (x : Stamp) : List Stamp → Type 0 where
  here : {xs : List Stamp} → x ∈ (x ∷ xs)
  there : {y : Stamp} {xs : List Stamp} → x ∈ xs → x ∈ (y ∷ xs)

-- §12.3 heard, from lo to hi
pub data FromTo (lo hi : ℕ) : Stamp → Type 0 where
  within : {a : ℕ} → lo ≤ a → a ≤ hi → FromTo lo hi (heard a)

-- §12.3 each of some stamps
pub data All (Q : Stamp → Type 0) : List Stamp → Type 0 where
  none : All Q []
  more : {x : Stamp} {xs : List Stamp} → Q x → All Q xs → All Q (x ∷ xs)

-- §1.4 each of some stamps but one
pub data AllButOne (Q : Stamp → Type 0) : List Stamp → Type 0 where
  this : {x : Stamp} {xs : List Stamp} → All Q xs → AllButOne Q (x ∷ xs)
  later_on : {x : Stamp} {xs : List Stamp} → Q x → AllButOne Q xs → AllButOne Q (x ∷ xs)

-- §5.1 1 for silence, 0 for a stamp that is heard
unfoldable pub unheard_of : Stamp → ℕ
unheard_of (heard a) = 0
unheard_of silent = 1

-- §5.1 how many of some stamps are silent
unfoldable pub unheard_in : List Stamp → ℕ
unheard_in [] = 0
unheard_in (x ∷ xs) = unheard_of x + unheard_in xs
