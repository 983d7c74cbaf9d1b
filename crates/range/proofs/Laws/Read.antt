-- The last number in what is printed is that of its last line. Assumes nothing.
use mathlib.Core.Path.{◌≡◌, refl, ◌∙◌, ap}
use mathlib.Core.Bool.{Bool, true, false, cond}
use mathlib.Core.List.{List, [], ◌∷◌, ◌++◌, append_assoc}
use Prim.Native.Nat.{ℕ, ◌+◌, ◌*◌, ◌^◌, ◌<◌}
use native.Mathlib.Omega.{arith}
use lib.ListN.{length}
use Rattle.lines.specs.Number.{decimal}
use Rattle.lines.specs.Line.{space, line_end}
use Rattle.lines.specs.Promises.{is_digit, value_of, all_are, spelt_from, spelt, DecimalRight}
use Rattle.lines.proofs.Laws.All.{both}
use Rattle.lines.proofs.Promises.{decimal_right}
use Rattle.search_lines.specs.Text.{ticks_word, largest_text}
use Rattle.range.specs.Read.{read_from, last_number}

-- what is read of a text whose end says it all
read_end : (n : ℕ) (w : Bool) (gs hs : List ℕ) (v : ℕ) → ((m : ℕ) (u : Bool) → read_from m u hs ≡ v) → read_from n w (gs ++ hs) ≡ v
unfolding read_from
read_end n w [] hs v e = e n w
read_end n w (g ∷ gs) hs v e = read_end (cond (is_digit g) (cond w (n * 10) 0 + value_of g) n) (is_digit g) gs hs v e

-- a space ends a number
read_spaced : (n : ℕ) (w : Bool) (gs hs : List ℕ) → read_from n w (gs ++ (space ∷ hs)) ≡ read_from (read_from n w gs) false hs
unfolding read_from is_digit
read_spaced n w [] hs = refl
read_spaced n w (g ∷ gs) hs = read_spaced (cond (is_digit g) (cond w (n * 10) 0 + value_of g) n) (is_digit g) gs hs

-- digits are read as what they spell
read_digits : (n : ℕ) (gs : List ℕ) → all_are is_digit gs ≡ true → read_from n true gs ≡ spelt_from 10 n gs
unfolding read_from all_are spelt_from
read_digits n [] e = refl
read_digits n (g ∷ gs) e =
    let (d, ds) = both (is_digit g) (all_are is_digit gs) e in
    rw d (read_digits (n * 10 + value_of g) gs ds)

-- so are those of a number that begins, whatever was read before
read_anew : (m : ℕ) (gs : List ℕ) → 0 < length gs → all_are is_digit gs ≡ true → read_from m false gs ≡ spelt_from 10 0 gs
unfolding read_from all_are spelt_from
read_anew m [] i e = absurd (omega (arith, i))
read_anew m (g ∷ gs) i e =
    let (d, ds) = both (is_digit g) (all_are is_digit gs) e in
    rw d (read_digits (0 + value_of g) gs ds)

read_decimal : (m n : ℕ) → n < 10 ^ 20 → read_from m false (decimal n) ≡ n
unfolding DecimalRight spelt
read_decimal m n i = let d = decimal_right n i in read_anew m (decimal n) d.some d.digits ∙ d.spell

-- the last line
read_largest : (n : ℕ) → n < 10 ^ 20 → (m : ℕ) (w : Bool) → read_from m w (largest_text n) ≡ n
unfolding largest_text read_from is_digit
read_largest n i m w =
    let rest = ticks_word ++ (line_end ∷ []) in
    ap (read_from m false) (append_assoc (decimal n) (space ∷ ticks_word) (line_end ∷ [])) ∙ read_spaced m false (decimal n) rest ∙ read_decimal m n i

pub last_largest : (gs : List ℕ) (n : ℕ) → n < 10 ^ 20 → last_number (gs ++ largest_text n) ≡ n
unfolding last_number
last_largest gs n i = read_end 0 false gs (largest_text n) n (read_largest n i)
