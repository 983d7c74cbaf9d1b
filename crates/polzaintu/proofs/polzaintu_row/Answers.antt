-- `polzaintu_row` meets its contract. Assumes nothing.
use mathlib.Core.Path.{◌∙◌}
use Rattle.calls.specs.Answers.{ends_left}
use Rattle.polzaintu.proofs.polzaintu_row.Goals as goal

pub returns : goal.returns
unfolding ends_left
returns c = let s = c.settings_in.ensures in
    let plan = c.plan.ensures in
    let left = c.left.ensures in
    record {
      number = left.number ∙ rw (plan.answer, s);
      times = plan.row ∙ rw s;
      letters = plan.letters ∙ rw s;
      ends = left.lent ∙ rw (plan.answer, s);
    }
