-- `row_seam` meets its contract. Assumes nothing.
use mathlib.Core.Path.{◌≡◌, refl, sym, ◌∙◌, ap}
use Prim.Native.Nat.{ℕ, ◌≤◌}
use lib.ListN.{length}
use native.Mathlib.Omega.{arith}
use borrow.Author.Tests.{lt-ltb, le-ltb}
use Rattle.std.specs.Prelude.{Some, None, Ok}
use Rattle.settings.specs.Refusal.{first, or_else, answer}
use Rattle.settings.specs.Settings.{settings_cause, settings_refusal}
use Rattle.settings.proofs.Laws.Refusal.{none_of, passed, refused_with, handed_on}
use Rattle.settings.proofs.Laws.Settings.{limits}
use Rattle.columns.specs.Marks.{mark_bytes}
use Rattle.places.specs.Seams.{other_lengths, between, seam_at}
use Rattle.places.specs.declared.seams.RowSeam.{RowSeam}
use Rattle.places.proofs.Laws.Seams.{right_lengths}
use Rattle.places.proofs.seams.row_seam.Goals.{In_ok-check, Else-other_lengths}
use Rattle.places.proofs.seams.row_seam.Goals as goal

-- the settings are accepted
accepted : (c : In_ok-check) → settings_cause c.args.settings ≡ None
accepted c = none_of _ (passed _ tt (sym c.in_ok-check.ensures))

wide : (c : In_ok-check) → let a = c.args in (6 ≤ a.settings.width) × (a.settings.width ≤ 256)
unfolding settings_refusal
wide c = (limits c.args.settings (passed _ tt (sym c.in_ok-check.ensures))).width

-- the lengths are the row's
lengths : (c : Else-other_lengths) →
    let a = c.args in
    (length a.times.now ≡ a.settings.width) × (length a.marks.now ≡ mark_bytes a.settings.width)
lengths c = right_lengths _ _ _ (sym c.other_lengths.ensures ∙ c.if-other_lengths.false)

pub returns-in_err-check : goal.returns-in_err-check
unfolding seam_at or_else answer
returns-in_err-check c =
    let e : settings_cause c.args.settings ≡ Some c.in_err-check.field-0.0 = refused_with _ tt (sym c.in_err-check.ensures) in
    handed_on _ _ (tt {0}) _ c.from_residual.ensures.1 (rw e refl)

pub other_lengths-requires : goal.other_lengths-requires
other_lengths-requires c = (wide c).1

pub returns-then-other_lengths : goal.returns-then-other_lengths
unfolding seam_at first or_else answer
returns-then-other_lengths c = rw (accepted (goal.at.returns-then-other_lengths c).In_ok-check, ← c.other_lengths.ensures, c.if-other_lengths.true)

pub returns-then-width-i : goal.returns-then-width-i
unfolding seam_at first or_else answer
returns-then-width-i c = let a = c.args in
    rw (accepted (goal.at.returns-then-width-i c).In_ok-check, ← c.other_lengths.ensures, c.if-other_lengths.false, lt-ltb a.settings.width a.i c.if-width-i.true)

pub left-requires : goal.left-requires
left-requires c = let w = wide (goal.at.left-requires c).In_ok-check in (w.0, w.1, c.if-width-i.false)

pub right-requires : goal.right-requires
right-requires c = let w = wide (goal.at.right-requires c).In_ok-check in (w.0, w.1, c.if-width-i.false)

pub between-requires : goal.between-requires
between-requires c = let l = lengths (goal.at.between-requires c).Else-other_lengths in (
  l.1 ∙ sym (ap mark_bytes l.0),
  omega (arith, l.0, c.left.ensures.inside),
  omega (arith, l.0, c.right.ensures.inside),
  omega (arith, l.0, (wide (goal.at.between-requires c).In_ok-check).1),
)

pub returns : goal.returns
unfolding seam_at first or_else answer
returns c = let a = c.args in
    rw (accepted (goal.at.returns c).In_ok-check, ← c.other_lengths.ensures, c.if-other_lengths.false, le-ltb a.settings.width a.i c.if-width-i.false)
    (ap (λ (x : RowSeam). Ok (Some x)) (c.between.ensures ∙ rw (c.left.ensures.is, c.right.ensures.is)))
