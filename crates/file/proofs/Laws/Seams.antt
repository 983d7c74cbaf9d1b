-- The seams of the rows that are shown: no time is late, and two neighbours are never both faulty. Assumes nothing.
use mathlib.Core.Path.{◌≡◌, refl, sym, ◌∙◌}
use mathlib.Core.Bool.{Bool, true, false, true≢false}
use mathlib.Core.List.{List, [], ◌∷◌, ◌++◌, append-nil}
use mathlib.Core.Option.{some}
use Prim.Native.Nat.{ℕ, zero, suc, ◌+◌, ◌/◌, ◌%◌, ◌^◌, ◌≤◌, ◌<◌}
use lib.ListN.{length, get_or, drop, replicate, length-replicate, get_or-replicate, get_or-eq_default}
use native.Mathlib.Nat.{zero-div}
use native.Mathlib.Omega.{arith}
use borrow.Author.Tests.{ne_eqb}
use Rattle.settings.specs.Refusal.{number_in}
use Rattle.settings.specs.declared.refusal.Refusal.{Refusal}
use Rattle.settings.specs.declared.refusal.Refusal.TheVariants.{GoesOn}
use Rattle.settings.proofs.Laws.Refusal.{none_of}
use Rattle.settings.specs.declared.Settings.{Settings}
use Rattle.settings.proofs.Laws.Cases.{by_order}
use Rattle.settings.proofs.Laws.Settings.{limits}
use Rattle.columns.specs.Columns.{are_neighbours}
use Rattle.admission.specs.Call.{Call, call}
use Rattle.columns.specs.Marks.{marked, mark_bytes}
use Rattle.row.specs.Row.{Pulses, next_pulses}
use Rattle.admission.specs.Refusal.{row_refusal}
use Rattle.admission.proofs.Laws.Accepted.{accepted}
use Rattle.columns.proofs.Laws.Columns.{own, beside, strangers}
use Rattle.runs.proofs.Laws.Reach.{others_correct}
use Rattle.seam.specs.Seam.{latest, seam_of, joined, side_of}
use Rattle.seam.specs.declared.Side.TheVariants.{Both}
use Rattle.seam.proofs.Laws.{within_late, faulty_late}
use Rattle.contents.specs.Contents.{row_size, marks_in, call_in}
use Rattle.steps.specs.Shown.{Shown, lines, turned_away, row_shown, no_marks}
use Rattle.steps.specs.Number.{row_fields_cause, row_number}
use Rattle.steps.proofs.Laws.Taken.{by_cause}
use Rattle.file.specs.File.{or_shown, rows_shown}
use Rattle.file.specs.Promises.{SeamsHold, Every, no_more, also}
use Rattle.file.proofs.Laws.Rows.{Grown, grows, call_accepted}

-- two neighbours are not both marked
abbrev Apart : (w : ℕ) → (marks : List ℕ) → Type 0
Apart w ms = (a b : ℕ) → a < w → b < w → are_neighbours w a b ≡ true → marked ms a ≡ true → marked ms b ≡ true → ⊥

-- a seam by its marks
by_marks : (l r : ℕ) (lf rf : Bool) → l ≤ latest → r ≤ latest → (lf ≡ true → rf ≡ true → ⊥) →
    (number_in (seam_of l lf r rf) ≡ 0) × (side_of (seam_of l lf r rf) ≡ some Both → ⊥)
unfolding seam_of joined side_of
by_marks l r true true i j apart = absurd (apart refl refl)
by_marks l r true false i j apart = rw (faulty_late l, within_late r j) (refl, λ e. let z : ◌≡◌ {A = ℕ} 0 1 = cc in omega arith)
by_marks l r false true i j apart = rw (within_late l i, faulty_late r) (refl, λ e. let z : ◌≡◌ {A = ℕ} 0 1 = cc in omega arith)
by_marks l r false false i j apart = rw (within_late l i, within_late r j) (refl, λ e. let z : ◌≡◌ {A = ℕ} 0 1 = cc in omega arith)

-- the marks of an accepted row, and those of the last
not_itself : (w a b : ℕ) → are_neighbours w a b ≡ true → a ≡ b → ⊥
not_itself w a b e q =
    true≢false (sym e ∙ strangers w a b (λ h. omega arith, λ h. omega arith, λ h k. omega arith, λ h k. omega arith, λ h k. omega arith, λ h k. omega arith))

marks_apart : (s : Settings) (ts : List ℕ) (x : Call) → row_refusal s ts x ≡ 0 → Apart s.width x.marks
marks_apart s ts x e a b i j n p q =
    true≢false (sym p ∙ others_correct (accepted s ts x e) a a b i i j (own s.width a a refl) (beside s.width a b n) (not_itself s.width a b n) q)

none_marked : (w c : ℕ) → marked (no_marks w) c ≡ false
unfolding marked no_marks
none_marked w c = rw (zero_at (mark_bytes w) (c / 8), zero-div (2 ^ (c % 8)))
  where
    zero_at : (n i : ℕ) → ◌≡◌ {A = ℕ} (get_or (replicate n 0) i 0) 0
    zero_at n i =
        by_order n i
        (λ h. get_or-eq_default (replicate n 0) 0 (omega (arith, length-replicate {A = ℕ} n 0)))
        (λ h. get_or-replicate n i 0 0 h)

-- a row that is shown
row_holds : (s : Settings) (l m : ℕ) (ms : List ℕ) (r : Pulses) → Grown s l r.times → l ≤ 1024 → Apart s.width ms → SeamsHold (lines s.width m ms r)
unfolding SeamsHold
row_holds s l m ms r g i apart = (
  (limits s g.pass).width.0,
  λ a b j k n.
      by_marks (get_or r.times a 0) (get_or r.times b 0) (marked ms a) (marked ms b) (omega (arith, g.grown a j)) (omega (arith, g.grown b k)) (apart a b j k n),
)

shown_holds : (s : Settings) (l : ℕ) (ms : List ℕ) (r : Pulses) {xs : List Shown} → Grown s l r.times → l ≤ 1024 → Apart s.width ms → Every SeamsHold xs →
    Every SeamsHold (row_shown s l ms r ++ xs)
unfolding row_shown
shown_holds s zero ms r g i apart rest = rest
shown_holds s (suc l) ms r g i apart rest = also (row_holds s (suc l) (suc l) ms r g i apart) rest

pub away_holds : (why : Refusal) (at : ℕ) → Every SeamsHold (turned_away why at ∷ [])
unfolding SeamsHold
away_holds why at = also tt no_more

pub rows_hold : (s : Settings) (n l at : ℕ) (r : Pulses) (bs : List ℕ) → Grown s l r.times → l + n ≤ 1024 → Every SeamsHold (rows_shown s n l at r bs)
unfolding rows_shown or_shown row_number
rows_hold s zero l at r [] g i =
    rw append-nil at
    (shown_holds s l (no_marks s.width) r g (omega arith) (λ a b j k n p q. true≢false (sym p ∙ none_marked s.width a)) no_more)
rows_hold s zero l at r (b ∷ bs) g i = rw (ne_eqb (length (b ∷ bs)) 0 (omega arith)) (away_holds GoesOn at)
rows_hold s (suc n) l at r bs g i =
    let ts = r.times in
    by_cause (row_fields_cause s ts bs)
    (λ q. let x = call_in s.width bs in
    let a = call_accepted s ts bs q in
    rw (none_of (row_fields_cause s ts bs) q)
    (shown_holds s l (marks_in s.width bs) r g (omega arith) (unfold call_in call in marks_apart s ts x a)
    (rows_hold s n (suc l) (at + row_size s.width) (next_pulses s ts x) (drop (row_size s.width) bs) (grows x g a) (omega arith))))
    (λ why q. rw q (away_holds why _))
