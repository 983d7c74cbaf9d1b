-- `first_wide` meets its contract. Assumes nothing.
use mathlib.Core.Path.{◌≡◌, sym, ◌∙◌, ap}
use Prim.Native.Nat.{ℕ, ◌≤◌}
use lib.ListN.{length}
use native.Mathlib.Omega.{arith}
use Rattle.settings.specs.Settings.{settings_refusal}
use Rattle.std.proofs.lemmas.Result.{err_from_is_err_and}
use Rattle.settings.proofs.Laws.Refusal.{passed, refused_with}
use Rattle.settings.proofs.Laws.Settings.{limits}
use Rattle.columns.specs.Marks.{mark_bytes}
use Rattle.places.proofs.Laws.Seams.{right_lengths}
use Rattle.wide.specs.Wide.{row_first}
use Rattle.wide.proofs.Laws.Seam.{settings_wrong, lengths_wrong, lengths_right}
use Rattle.wide_rows.proofs.first_wide.Goals.{In_ok-check, Else-other_lengths}
use Rattle.wide_rows.proofs.first_wide.Goals as goal

-- the settings are accepted
accepted : (c : In_ok-check) → settings_refusal c.args.settings ≡ 0
unfolding settings_refusal
accepted c = passed _ tt (sym c.in_ok-check.ensures)

wide : (c : In_ok-check) → let s = c.args.settings in (6 ≤ s.width) × (s.width ≤ 256)
wide c = (limits c.args.settings (accepted c)).width

-- the lengths are the row's
lengths : (c : Else-other_lengths) →
    let a = c.args in
    (length a.times.now ≡ a.settings.width) × (length a.marks.now ≡ mark_bytes a.settings.width)
lengths c = right_lengths _ _ _ (sym c.other_lengths.ensures ∙ c.if-other_lengths.false)

pub returns-in_err-check : goal.returns-in_err-check
returns-in_err-check c = let a = c.args in
    let p = err_from_is_err_and c.from_residual.result c.from_residual.ensures.1 in
    rw (p.1, p.2) (sym (settings_wrong a.settings a.times.now a.marks.now a.limit c.in_err-check.field-0.0 (refused_with _ tt (sym c.in_err-check.ensures))))

pub other_lengths-requires : goal.other_lengths-requires
other_lengths-requires c = (wide c).1

pub returns-then-other_lengths : goal.returns-then-other_lengths
returns-then-other_lengths c = let a = c.args in
    sym (lengths_wrong a.settings a.times.now a.marks.now a.limit (accepted (goal.at.returns-then-other_lengths c).In_ok-check) (sym c.other_lengths.ensures ∙ c.if-other_lengths.true))

pub along-requires : goal.along-requires
along-requires c = let w = wide (goal.at.along-requires c).In_ok-check in
    let l = lengths c in
    (omega (arith, l.0, w.0), omega (arith, l.0, w.1), l.1 ∙ sym (ap mark_bytes l.0))

pub returns : goal.returns
returns c = let a = c.args in
    c.along.ensures
    ∙ ap (λ (w : ℕ). row_first a.limit w a.times.now a.marks.now) (lengths (goal.at.returns c).Else-other_lengths).0
    ∙ sym (lengths_right a.settings a.times.now a.marks.now a.limit (accepted (goal.at.returns c).In_ok-check) (sym c.other_lengths.ensures ∙ c.if-other_lengths.false))
