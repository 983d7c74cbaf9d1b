-- `steps::end` meets its contract. Assumes nothing.
use mathlib.Core.Path.{sym, ◌∙◌, ap}
use Rattle.settings.specs.declared.refusal.Refusal.TheVariants.{GoesOn}
use Rattle.stages.specs.declared.Wall.TheVariants.{Over}
use Rattle.steps.specs.Shown.{no_marks}
use Rattle.steps.specs.Take.{taken_of, refused_at}
use Rattle.steps.proofs.Laws.Taken.{end_away, end_goes, taken_away, taken_on, row_taken}
use Rattle.steps.proofs.steps.end.Goals as goal

pub returns-then-part-ne0 : goal.returns-then-part-ne0
unfolding refused_at
returns-then-part-ne0 c row = let a = c.args in
    sym (ap taken_of (end_away row a.part.now a.place.settings a.place.offset a.place.row c.if-part-ne0.true) ∙ taken_away row row GoesOn a.place.offset)

pub returns : goal.returns
returns c row = let a = c.args in
    let s = a.place.settings in
    sym (ap taken_of (end_goes row a.part.now s a.place.offset a.place.row c.if-part-ne0.false) ∙ taken_on row row Over _ (row_taken Over s a.place.row (no_marks s.width) row))
