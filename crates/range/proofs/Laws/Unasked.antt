-- Rows that are not asked for change nothing of what is told. Assumes nothing.
use mathlib.Core.Path.{◌≡◌, refl, ap}
use mathlib.Core.Bool.{cond}
use mathlib.Core.List.{List, [], ◌∷◌, ◌++◌}
use Prim.Native.Nat.{ℕ, zero, suc, ◌+◌}
use native.Mathlib.Omega.{arith}
use borrow.Author.Tests.{le-ltb}
use lib.Dec.{ltb}
use lib.ListN.{drop, replicate}
use Rattle.std.specs.Prelude.{Option, Some, None, Result, Ok, Err}
use Rattle.settings.specs.Refusal.{answer}
use Rattle.settings.specs.Settings.{settings_cause}
use Rattle.settings.specs.declared.Settings.{Settings}
use Rattle.settings.specs.declared.refusal.Refusal.{Refusal}
use Rattle.row.specs.Row.{row_of}
use Rattle.reach.specs.Search.{reach_in_row}
use Rattle.reach.specs.Survey.{surveyed_of}
use Rattle.reach.specs.declared.survey.Surveyed.{Surveyed}
use Rattle.lines.specs.Line.{line_text}
use Rattle.fields.specs.Field.{body}
use Rattle.contents.specs.Contents.{settings_size, settings_in, start_size, times_in, row_size, marks_in, call_in}
use Rattle.steps.specs.Number.{row_fields_cause, row_offset}
use Rattle.search_lines.specs.Text.{faulty_word, reach_text, reach_texts, gap_text}
use Rattle.telling.specs.Telling.{first_marked}
use Rattle.range.specs.File.{with_lines, or_told, rows_told, start_told, file_told, search_text}

-- row 0 is later than none
outside_silent : (f : ℕ) (c : Option Refusal) → reach_text f 0 (answer c None) ≡ []
unfolding reach_text answer
outside_silent f None = refl
outside_silent f (Some why) = refl

row_0_silent : (s : Settings) (b f : ℕ) → reach_text f 0 (reach_in_row s b f 0 0) ≡ []
unfolding reach_in_row
row_0_silent s b f = rw (le-ltb f 0 (omega arith)) (outside_silent f (settings_cause s))

module _ (s : Settings) (b f : ℕ) where
  none_told : (n : ℕ) → reach_texts s b f (replicate n 0) ≡ []
  unfolding reach_texts
  none_told zero = refl
  none_told (suc n) = rw (row_0_silent s b f, none_told n)

  texts_same : (asked : List ℕ) (n : ℕ) → reach_texts s b f (asked ++ replicate n 0) ≡ reach_texts s b f asked
  unfolding reach_texts
  texts_same [] n = none_told n
  texts_same (l ∷ asked) n = ap (λ (t : List ℕ). reach_text f l (reach_in_row s b f l 0) ++ t) (texts_same asked n)

  gap_same : (asked : List ℕ) (n : ℕ) → gap_text s b f (asked ++ replicate n 0) ≡ gap_text s b f asked
  unfolding gap_text
  gap_same asked n = rw (texts_same asked n)

module _ (asked : List ℕ) (z : ℕ) where
  abbrev more : List ℕ
  more = asked ++ replicate z 0

  lines_same : (s : Settings) (l : ℕ) (v : Result (Option Surveyed) Refusal) (here there : ℕ → List ℕ) → ((k : ℕ) → here k ≡ there k) →
      with_lines s more l v here ≡ with_lines s asked l v there
  unfolding with_lines
  lines_same s l (Ok (Some x)) here there h = rw (gap_same s x.gap l asked z, h x.largest)
  lines_same s l (Ok None) here there h = refl
  lines_same s l (Err why) here there h = refl

  rows_same : (s : Settings) (n l at m : ℕ) (ts bs : List ℕ) → rows_told s more n l at m ts bs ≡ rows_told s asked n l at m ts bs
  unfolding rows_told
  rows_same s zero l at m ts bs = refl
  rows_same s (suc n) l at m ts bs =
      let w = s.width in
      let c = first_marked w (marks_in w bs) in
      ap
      (λ (t : List ℕ). or_told (row_fields_cause s ts bs) (row_offset s at bs) (cond (ltb c w) (line_text faulty_word (l ∷ c ∷ [])) t))
      (lines_same s l (surveyed_of s l m ts) _ _
      (λ k. rows_same s n (suc l) (at + row_size w) k (row_of s ts (call_in w bs)) (drop (row_size w) bs)))

  start_same : (s : Settings) (at m : ℕ) (bs : List ℕ) → start_told s more at m bs ≡ start_told s asked at m bs
  unfolding start_told
  start_same s at m bs = rw (rows_same s s.rows 0 (at + (3 + start_size s.width)) m (times_in s.width (body (start_size s.width) bs)) (drop (3 + start_size s.width) bs))

  pub unasked_same : (file : List ℕ) → search_text more file ≡ search_text asked file
  unfolding search_text file_told
  unasked_same bs = rw (start_same (settings_in (body settings_size bs)) (3 + settings_size) 0 (drop (3 + settings_size) bs))
