-- `steps::check_start` meets its contract. Assumes nothing.
use mathlib.Core.Path.{sym, ◌∙◌}
use Prim.Native.Nat.{◌*◌}
use Rattle.std.specs.Prelude.{Some, None}
use Rattle.settings.specs.Refusal.{answer}
use Rattle.settings.specs.declared.refusal.Refusal.TheVariants.{LateStart}
use Rattle.settings.proofs.Laws.Refusal.{passed}
use Rattle.fields.specs.Field.{field_cause, field_refusal}
use Rattle.contents.proofs.Laws.Contents.{body_length}
use Rattle.steps.specs.Number.{start_cause}
use Rattle.steps.proofs.Laws.Handed.{first_handed, second_given}
use Rattle.steps.proofs.steps.check_start.Goals as goal

pub returns-in_err-check : goal.returns-in_err-check
unfolding start_cause
returns-in_err-check c = let w = c.args.place.settings.width in
    first_handed (field_cause 2 (8 * w) c.args.part.now) _ (tt {0}) _ c.from_residual.result c.from_residual.ensures.1 (sym c.check.ensures ∙ c.in_err-check.was)

pub late_start-requires : goal.late_start-requires
unfolding field_refusal
late_start-requires c = let w = c.args.place.settings.width in
    (c.requires, rw c.body.ensures (body_length 2 (8 * w) c.args.part.now (passed (field_cause 2 (8 * w) c.args.part.now) (tt {0}) (sym c.check.ensures ∙ c.in_ok-check.was))))

pub returns-then-late_start : goal.returns-then-late_start
unfolding start_cause answer
returns-then-late_start c = let w = c.args.place.settings.width in
    rw (← c.body.ensures, ← c.late_start.ensures, c.if-late_start.true)
    (second_given (field_cause 2 (8 * w) c.args.part.now) (Some LateStart) (tt {0}) (tt {0}) (sym c.check.ensures ∙ c.in_ok-check.was))

pub returns : goal.returns
unfolding start_cause answer
returns c = let w = c.args.place.settings.width in
    rw (← c.body.ensures, ← c.late_start.ensures, c.if-late_start.false)
    (second_given (field_cause 2 (8 * w) c.args.part.now) None (tt {0}) (tt {0}) (sym c.check.ensures ∙ c.in_ok-check.was))
