-- `settings` meets its contract: each number is that of its place. Assumes nothing.
use mathlib.Core.Path.{◌∙◌}
use Rattle.contents.specs.Contents.{settings_in}
use Rattle.contents.proofs.settings.Goals as goal

pub returns : goal.returns
unfolding settings_in
returns c = c.new.ensures
    ∙ rw (
      c.four-5.ensures.number,
      c.four-4.ensures.number,
      c.four-3.ensures.number,
      c.four-2.ensures.number,
      c.four.ensures.number,
      c.two-2.ensures.number,
      c.two.ensures.number,
    )
