-- No `k` stands in what is printed before the last three glyphs of a whole answer, so what is cut from it does not end as it does.
-- Assumes nothing.
use mathlib.Core.Path.{◌≡◌, refl, sym, ◌∙◌, ap}
use mathlib.Core.Bool.{Bool, true, not, true≢false}
use mathlib.Core.List.{List, [], ◌∷◌, ◌++◌, append_assoc}
use Prim.Native.Nat.{ℕ, zero, suc, ◌+◌, ◌-◌, ◌/◌, ◌%◌, ◌<◌}
use native.Mathlib.Omega.{arith}
use borrow.Author.Tests.{ne_eqb}
use lib.Dec.{eqb}
use lib.ListN.{length, get_or, take, length-append, length-take, get_or-append}
use lib.Seq.{get_or-take, get_or-append-add}
use Rattle.std.specs.Prelude.{Option, Some, None, Result, Ok, Err}
use Rattle.settings.proofs.Laws.Cases.{by_order}
use Rattle.settings.specs.declared.Settings.{Settings}
use Rattle.settings.specs.declared.refusal.Refusal.{Refusal}
use Rattle.runs.specs.Reach.{widest_gap}
use Rattle.reach.specs.Search.{reach_in_row}
use Rattle.reach.specs.declared.Range.{Range}
use Rattle.lines.specs.Number.{glyph, decimal_in, decimal}
use Rattle.lines.specs.Line.{space, line_end, numbers_text, line_text}
use Rattle.lines.specs.Promises.{all_are}
use Rattle.lines.proofs.Laws.All.{all_then, all_at}
use Rattle.lines.proofs.Laws.Number.{glyph_low, one_digit, more_digits}
use Rattle.search_lines.specs.Text.{b_word, r_word, largest_word, ticks_word, largest_text, reach_text, reach_texts, gap_text}
use Rattle.range.specs.Promises.{gaps_text}

-- any glyph but `k`
unfoldable other : (glyph : ℕ) → Bool
other g = not (eqb g 107)

then : (gs hs : List ℕ) → all_are other gs ≡ true → all_are other hs ≡ true → all_are other (gs ++ hs) ≡ true
then = all_then other

digit : (d : ℕ) → d < 10 → all_are other (glyph d ∷ []) ≡ true
unfolding all_are other
digit d i = let low : 48 + d ≡ 107 → ⊥ = λ e. omega (arith, i, e) in rw (glyph_low d i, ne_eqb (48 + d) 107 low)

digits : (m n : ℕ) → all_are other (decimal_in m n) ≡ true
digits zero n = unfold decimal_in all_are in refl
digits (suc m) n =
    by_order 10 n
    (λ p. rw (more_digits m n p) (then (decimal_in m (n / 10)) (glyph (n % 10) ∷ []) (digits m (n / 10)) (digit (n % 10) (omega arith))))
    (λ p. rw (one_digit m n p) (digit n p))

decimals : (n : ℕ) → all_are other (decimal n) ≡ true
unfolding decimal
decimals n = digits 20 n

numbers : (ns : List ℕ) → all_are other (numbers_text ns) ≡ true
unfolding numbers_text all_are other
numbers [] = refl
numbers (n ∷ ns) = then (space ∷ decimal n) (numbers_text ns) (decimals n) (numbers ns)

line : (word ns : List ℕ) → all_are other word ≡ true → all_are other (line_text word ns) ≡ true
unfolding line_text
line word ns e = then (word ++ numbers_text ns) (line_end ∷ []) (then word (numbers_text ns) e (numbers ns)) (unfold all_are other in refl)

reach : (f l : ℕ) (r : Result (Option Range) Refusal) → all_are other (reach_text f l r) ≡ true
unfolding reach_text
reach f l (Ok (Some r)) = line r_word (f ∷ l ∷ r.ticks ∷ (l - f) ∷ []) (unfold all_are other in refl)
reach f l (Ok None) = unfold all_are in refl
reach f l (Err why) = unfold all_are in refl

reaches : (s : Settings) (b f : ℕ) (ls : List ℕ) → all_are other (reach_texts s b f ls) ≡ true
unfolding reach_texts
reaches s b f [] = unfold all_are in refl
reaches s b f (l ∷ ls) = then (reach_text f l (reach_in_row s b f l 0)) (reach_texts s b f ls) (reach f l (reach_in_row s b f l 0)) (reaches s b f ls)

gaps : (s : Settings) (asked : List ℕ) (l : ℕ) (rs : List (List ℕ)) → all_are other (gaps_text s asked l rs) ≡ true
unfolding gaps_text gap_text
gaps s asked l [] = unfold all_are in refl
gaps s asked l (ts ∷ rs) =
    let b = widest_gap s.width ts in
    then (line_text b_word (l ∷ b ∷ []) ++ reach_texts s b l asked) (gaps_text s asked (suc l) rs)
    (then (line_text b_word (l ∷ b ∷ [])) (reach_texts s b l asked) (line b_word (l ∷ b ∷ []) (unfold all_are other in refl)) (reaches s b l asked)) (gaps s asked (suc l) rs)

-- the last line up to its `k`
unfoldable up_to_k : (largest : ℕ) → List ℕ
up_to_k n = (largest_word ++ (space ∷ decimal n)) ++ (space ∷ 116 ∷ 105 ∷ 99 ∷ [])

abbrev from_k : List ℕ
from_k = 107 ∷ 115 ∷ line_end ∷ []

front : (n : ℕ) → all_are other (up_to_k n) ≡ true
unfolding up_to_k
front n = then (largest_word ++ (space ∷ decimal n)) (space ∷ 116 ∷ 105 ∷ 99 ∷ []) (then largest_word (space ∷ decimal n) (unfold all_are other in refl) (unfold all_are other in decimals n)) (unfold all_are other in refl)

split : (n : ℕ) → largest_text n ≡ up_to_k n ++ from_k
unfolding largest_text up_to_k
split n =
    append_assoc (largest_word ++ (space ∷ decimal n)) (space ∷ ticks_word) (line_end ∷ [])
    ∙ sym (append_assoc (largest_word ++ (space ∷ decimal n)) (space ∷ 116 ∷ 105 ∷ 99 ∷ []) from_k)

cut_ends : (lines : List ℕ) (m n : ℕ) → all_are other lines ≡ true → n < length (lines ++ largest_text m) → (begin : List ℕ) →
    take n (lines ++ largest_text m) ≡ begin ++ (ticks_word ++ (line_end ∷ [])) → ⊥
unfolding other
cut_ends lines m n clean less begin e =
    let u = lines ++ up_to_k m in
    let t = lines ++ largest_text m in
    let whole : t ≡ u ++ from_k = ap (λ (l : List ℕ). lines ++ l) (split m) ∙ sym (append_assoc lines (up_to_k m) from_k) in
    let size : length t ≡ length u + 3 = ap length whole ∙ length-append u from_k in
    let taken : length begin + 6 ≡ n =
    sym (length-append begin (ticks_word ++ (line_end ∷ []))) ∙ sym (ap length e) ∙ length-take n t ∙ omega (arith, less) in
    let i = length begin + 3 in
    let inside : i < length u = omega (arith, taken, size, less) in
    let k : get_or u i 0 ≡ 107 =
    sym (get_or-append u from_k 0 i inside) ∙ sym (ap (λ (l : List ℕ). get_or l i 0) whole) ∙ sym (get_or-take n t i 0 (omega (arith, taken)))
    ∙ ap (λ (l : List ℕ). get_or l i 0) e ∙ get_or-append-add begin (ticks_word ++ (line_end ∷ [])) 3 0 in
    let none : other (get_or u i 0) ≡ true = all_at other u i (then lines (up_to_k m) clean (front m)) inside in
    true≢false (sym none ∙ rw k)

-- so of the lines of rows and the last
pub told_whole : (s : Settings) (asked : List ℕ) (rs : List (List ℕ)) (m n : ℕ) → n < length (gaps_text s asked 0 rs ++ largest_text m) → (begin : List ℕ) →
    take n (gaps_text s asked 0 rs ++ largest_text m) ≡ begin ++ (ticks_word ++ (line_end ∷ [])) → ⊥
told_whole s asked rs m n less begin e = cut_ends (gaps_text s asked 0 rs) m n (gaps s asked 0 rs) less begin e
