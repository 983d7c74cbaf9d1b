-- The rows of a wall without faults: none is turned away, and each is surveyed. Assumes nothing.
use mathlib.Core.Path.{◌≡◌, refl, sym, ◌∙◌, ap}
use mathlib.Core.Bool.{false}
use mathlib.Core.List.{List, ◌∷◌, ◌++◌, append_assoc}
use Prim.Native.Nat.{ℕ, zero, suc, ◌+◌, ◌≤◌, ◌<◌, max}
use lib.ListN.{take, drop}
use native.Mathlib.Omega.{arith}
use borrow.Author.Tests.{eq-eqb, le-ltb}
use Rattle.settings.specs.declared.Settings.{Settings}
use Rattle.settings.proofs.Laws.Refusal.{none_of}
use Rattle.admission.specs.Call.{call}
use Rattle.columns.specs.Marks.{marked}
use Rattle.row.specs.Row.{row_of}
use Rattle.admission.specs.Refusal.{row_refusal}
use Rattle.runs.specs.Reach.{widest_gap}
use Rattle.runs.specs.Run.{rows, call_at}
use Rattle.reach.specs.Survey.{surveyed, last_reach, largest_of, RowSurveyed}
use Rattle.reach.proofs.Promises.{row_surveyed}
use Rattle.contents.specs.Contents.{row_size, marks_in, call_in}
use Rattle.steps.specs.Number.{row_fields_cause, row_number}
use Rattle.file.specs.Limits.{calls_in, RowsKeep, over, and_then}
use Rattle.file.proofs.Laws.Limits.{keeps}
use Rattle.file.proofs.Laws.Rows.{Grown, early_of, grows, call_accepted}
use Rattle.search_lines.specs.Text.{largest_text, gap_text}
use Rattle.telling.specs.Telling.{first_in, first_marked}
use Rattle.range.specs.File.{with_lines, or_told, rows_told}
use Rattle.range.specs.Promises.{gaps_text}

-- with no mark the lowest marked column is none
none_in : (n c : ℕ) (ms : List ℕ) → ((k : ℕ) → c ≤ k → k < c + n → marked ms k ≡ false) → first_in n c ms ≡ c + n
unfolding first_in
none_in zero c ms h = omega arith
none_in (suc n) c ms h =
    let next : suc c + n ≡ c + suc n = omega arith in
    rw (h c (omega arith) (omega arith)) (none_in n (suc c) ms (λ k i j. h k (omega (arith, i)) (omega (arith, j))) ∙ next)

none_marked : (w : ℕ) (ms : List ℕ) → ((k : ℕ) → k < w → marked ms k ≡ false) → first_marked w ms ≡ w
unfolding first_marked
none_marked w ms h = let all : 0 + w ≡ w = omega arith in none_in w 0 ms (λ k i j. h k (omega (arith, j))) ∙ all

module _ (s : Settings) (asked : List ℕ) where
  abbrev told : (l m : ℕ) → (rs : List (List ℕ)) → List ℕ
  told l m rs = gaps_text s asked l rs ++ largest_text (largest_of s l m rs)

  told_more : (l m : ℕ) (ts : List ℕ) (rs : List (List ℕ)) →
      gap_text s (widest_gap s.width ts) l asked ++ told (suc l) (max m (last_reach s l ts)) rs ≡ told l m (ts ∷ rs)
  unfolding gaps_text largest_of
  told_more l m ts rs = sym (append_assoc (gap_text s (widest_gap s.width ts) l asked) (gaps_text s asked (suc l) rs) _)

  pub rows_whole : (n l at m : ℕ) (ts bs : List ℕ) → RowsKeep s n bs → Grown s l ts → l + n ≡ s.rows → s.rows ≤ 1024 →
      ((k c : ℕ) → k < n → c < s.width → marked (call_at (calls_in s.width n bs) k).marks c ≡ false) →
      rows_told s asked n l at m ts bs ≡ told l m (take n (ts ∷ rows s (calls_in s.width n bs) ts))
  unfolding rows_told or_told row_number calls_in rows gaps_text largest_of call_at call_in call with_lines surveyed RowSurveyed
  rows_whole zero l at m ts bs over g e i h = refl
  rows_whole (suc n) l at m ts bs (and_then k r) g e i h =
      let w = s.width in
      let x = call_in w bs in
      let number = keeps s ts (early_of g (omega (arith, e, i))) bs k in
      let a = call_accepted s ts bs number in
      let clean : first_marked w (marks_in w bs) ≡ w = none_marked w (marks_in w bs) (λ c j. h 0 c (omega arith) j) in
      let row = row_surveyed s l m ts g.pass (omega (arith, e)) g.long (λ c j. omega (arith, g.grown c j, e, i)) in
      let rest = rows_whole n (suc l) (at + row_size w) (max m (last_reach s l ts)) (row_of s ts x) (drop (row_size w) bs) r (grows x g a) (omega (arith, e)) i
      (λ q c j o. h (suc q) c (omega (arith, j)) o) in
      rw (none_of (row_fields_cause s ts bs) number, clean, le-ltb w w (omega arith), row, eq-eqb (row_refusal s ts x) 0 a)
      (ap (λ (t : List ℕ). gap_text s (widest_gap w ts) l asked ++ t) rest ∙ told_more l m ts (take n (row_of s ts x ∷ rows s (calls_in w n (drop (row_size w) bs)) (row_of s ts x))))
