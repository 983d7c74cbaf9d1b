-- What is told of a wall without faults, and that it covers any broken tile. The statements are proved in proofs/Promises.antt, under
-- their names in small letters. Assumes nothing.
use Rattle.std.specs.Prelude.{◌≡◌, false, List, [], ◌∷◌, ◌++◌, ℕ, suc, ◌≤◌, ◌<◌, length, get_or, take, replicate}
use Rattle.settings.specs.declared.Settings.{Settings}
use Rattle.columns.specs.Marks.{marked}
use Rattle.runs.specs.Run.{call_at, row_at}
use Rattle.runs.specs.Reach.{Alike, apart, widest_gap}
use Rattle.reach.specs.Survey.{largest_of}
use Rattle.steps.specs.Shown.{number_shown}
use Rattle.file.specs.File.{shown}
use Rattle.file.specs.Limits.{settings_of, start_of, calls_of, rows_of, Keeps}
use Rattle.lines.specs.Line.{line_end}
use Rattle.search_lines.specs.Text.{ticks_word, largest_text, gap_text}
use Rattle.range.specs.File.{search_text}
use Rattle.range.specs.Read.{last_number}

-- §15.4 the lines of rows from row l on: B of each, and its reach in the rows asked for
unfoldable pub gaps_text : Settings → (asked : List ℕ) → (l : ℕ) → (rows : List (List ℕ)) → List ℕ
gaps_text s asked l [] = []
gaps_text s asked l (ts ∷ rs) = gap_text s (widest_gap s.width ts) l asked ++ gaps_text s asked (suc l) rs

-- §15.4 of a wall without faults that keeps every limit: B and reach of rows 0 to R - 1, and the largest over them, which is enough for any
-- broken tile (`LargestEnough`, crate reach)
unfoldable pub WholeTold : Type 0
WholeTold =
    (asked file : List ℕ) → Keeps file →
    ((l c : ℕ) → l < (settings_of file).rows → c < (settings_of file).width → marked (call_at (calls_of file) l).marks c ≡ false) →
    let s = settings_of file in
    let before_last = take s.rows (start_of file ∷ rows_of file) in
    search_text asked file ≡ gaps_text s asked 0 before_last ++ largest_text (largest_of s 0 0 before_last)

-- §15.4 an answer that is cut does not end as the whole one does: no shorter beginning of it ends with `ticks` and a line feed
unfoldable pub CutTold : Type 0
CutTold =
    (asked file : List ℕ) → Keeps file →
    ((l c : ℕ) → l < (settings_of file).rows → c < (settings_of file).width → marked (call_at (calls_of file) l).marks c ≡ false) →
    (n : ℕ) → n < length (search_text asked file) → (begin : List ℕ) → take n (search_text asked file) ≡ begin ++ (ticks_word ++ (line_end ∷ [])) → ⊥

-- §15.4 a place that holds 0 asks for no row: of 16 places those that words did not fill change nothing
unfoldable pub Unasked : Type 0
Unasked = (asked file : List ℕ) (n : ℕ) → search_text (asked ++ replicate n 0) file ≡ search_text asked file

-- §11.6 two files that are not turned away, the first without faults, the second with one, of column k in row f, and alike otherwise
pub record TwoFiles (a b : List ℕ) (f k : ℕ) : Type 0 where
  pub first : number_shown (shown a) ≡ 0
  pub second : number_shown (shown b) ≡ 0
  pub settings : settings_of a ≡ settings_of b
  pub start : start_of a ≡ start_of b
  pub column : k < (settings_of a).width
  pub row : f < (settings_of a).rows
  pub alike : Alike (settings_of a).width f k (calls_of a) (calls_of b)

-- §11.8 a pulse of a file
unfoldable pub pulse_of : (file : List ℕ) → (row column : ℕ) → ℕ
pulse_of a l c = get_or (row_at (start_of a) (rows_of a) l) c 0

-- §15.4 what is printed of the first ends with `largest`, a number and `ticks`, and no pulse of the two differs by more
pub record Ranged (asked a b : List ℕ) : Type 0 where
  pub lines : List ℕ
  pub printed : search_text asked a ≡ lines ++ largest_text (last_number (search_text asked a))
  pub enough : (l c : ℕ) → l ≤ (settings_of a).rows → c < (settings_of a).width → apart (pulse_of a l c) (pulse_of b l c) ≤ last_number (search_text asked a)

-- §12.3 the search range of a file, from its bytes, whichever tile breaks and whatever it then sends
unfoldable pub FileRange : Type 0
FileRange = (asked a b : List ℕ) (f k : ℕ) → TwoFiles a b f k → Ranged asked a b
