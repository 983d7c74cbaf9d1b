-- Lines and their lengths. Assumes nothing.
use mathlib.Core.Path.{◌≡◌, sym, ◌∙◌, ap}
use mathlib.Core.List.{List, [], ◌∷◌, ◌++◌, append-nil, append_assoc}
use Prim.Native.Nat.{ℕ, ◌+◌, ◌-◌, ◌*◌, ◌≤◌, ◌<◌}
use native.Mathlib.Numerals.{add-one}
use native.Mathlib.Omega.{arith}
use lib.ListN.{length, length-append, take, get_or}
use lib.Seq.{take-suc}
use Rattle.std.specs.Prelude.{Option, Some, None, Result, Ok, Err}
use Rattle.settings.specs.declared.Settings.{Settings}
use Rattle.settings.specs.declared.refusal.Refusal.{Refusal}
use Rattle.reach.specs.Search.{reach_in_row}
use Rattle.reach.specs.declared.Range.{Range}
use Rattle.lines.specs.Line.{line_text}
use Rattle.lines.proofs.Laws.Line.{line_length}
use Rattle.search_lines.specs.Text.{b_word, r_word, reach_text, reach_texts, gap_text}

-- one more row that is asked for
module _ (s : Settings) (b f : ℕ) where
  abbrev of_row : ℕ → List ℕ
  of_row l = reach_text f l (reach_in_row s b f l 0)

  texts_append : (ls : List ℕ) (l : ℕ) → reach_texts s b f (ls ++ (l ∷ [])) ≡ reach_texts s b f ls ++ of_row l
  unfolding reach_texts
  texts_append [] l = append-nil (of_row l)
  texts_append (k ∷ ls) l = ap (λ (t : List ℕ). of_row k ++ t) (texts_append ls l) ∙ sym (append_assoc (of_row k) (reach_texts s b f ls) (of_row l))

  pub texts_next : (ls : List ℕ) (i l : ℕ) → i < length ls → l ≡ get_or ls i l → reach_texts s b f (take i ls) ++ of_row l ≡ reach_texts s b f (take (i + 1) ls)
  texts_next ls i l j e =
      sym (texts_append (take i ls) l)
      ∙ ap (reach_texts s b f) (rw add-one (ap (λ (k : ℕ). take i ls ++ (k ∷ [])) e ∙ sym (take-suc ls i l j)))

-- how long they are
pub reach_length : (f l : ℕ) (r : Result (Option Range) Refusal) → length (reach_text f l r) ≤ 86
unfolding reach_text
reach_length f l (Ok (Some r)) = omega (arith, line_length r_word (f ∷ l ∷ r.ticks ∷ (l - f) ∷ []))
reach_length f l (Ok None) = omega arith
reach_length f l (Err n) = omega arith

pub texts_length : (s : Settings) (b f : ℕ) (ls : List ℕ) → length (reach_texts s b f ls) ≤ 86 * length ls
unfolding reach_texts
texts_length s b f [] = omega arith
texts_length s b f (l ∷ ls) =
    omega (arith, texts_length s b f ls, reach_length f l (reach_in_row s b f l 0), length-append (reach_text f l (reach_in_row s b f l 0)) (reach_texts s b f ls))

pub gap_length : (s : Settings) (b f : ℕ) (ls : List ℕ) → length (gap_text s b f ls) ≤ 44 + 86 * length ls
unfolding gap_text
gap_length s b f ls =
    omega (arith, texts_length s b f ls, line_length b_word (f ∷ b ∷ []), length-append (line_text b_word (f ∷ b ∷ [])) (reach_texts s b f ls))
