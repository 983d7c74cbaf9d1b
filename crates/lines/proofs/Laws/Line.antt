-- A line of a word and numbers, and its length. Assumes nothing.
use mathlib.Core.Path.{◌≡◌, sym, ◌∙◌, ap}
use mathlib.Core.List.{List, [], ◌∷◌, ◌++◌, append-nil, append_assoc}
use Prim.Native.Nat.{ℕ, ◌+◌, ◌*◌, ◌≤◌, ◌<◌}
use native.Mathlib.Numerals.{add-one}
use native.Mathlib.Omega.{arith}
use lib.ListN.{length, length-append, take, get_or}
use lib.Seq.{take-suc}
use Rattle.lines.specs.Number.{decimal}
use Rattle.lines.specs.Line.{space, numbers_text, line_text}
use Rattle.lines.proofs.Laws.Number.{decimal_length}

-- one more number of a line
numbers_append : (ns : List ℕ) (n : ℕ) → numbers_text (ns ++ (n ∷ [])) ≡ numbers_text ns ++ (space ∷ decimal n)
unfolding numbers_text
numbers_append [] n = append-nil (space ∷ decimal n)
numbers_append (k ∷ ns) n = ap (λ (t : List ℕ). (space ∷ decimal k) ++ t) (numbers_append ns n) ∙ sym (append_assoc (space ∷ decimal k) (numbers_text ns) (space ∷ decimal n))

pub numbers_more : (ns : List ℕ) (i : ℕ) → i < length ns → numbers_text (take i ns) ++ (space ∷ decimal (get_or ns i 0)) ≡ numbers_text (take (i + 1) ns)
numbers_more ns i l = sym (numbers_append (take i ns) (get_or ns i 0)) ∙ ap numbers_text (rw add-one (sym (take-suc ns i 0 l)))

-- how long they are
pub numbers_length : (ns : List ℕ) → length (numbers_text ns) ≤ 21 * length ns
unfolding numbers_text
numbers_length [] = omega arith
numbers_length (n ∷ ns) = omega (arith, numbers_length ns, decimal_length n, length-append (space ∷ decimal n) (numbers_text ns))

pub line_length : (word ns : List ℕ) → length (line_text word ns) ≤ length word + 21 * length ns + 1
unfolding line_text
line_length word ns = omega (arith, numbers_length ns, length-append word (numbers_text ns), length-append (word ++ numbers_text ns) (10 ∷ []))
