-- `Window::lacks` meets its contract. Assumes nothing.
use Rattle.window.specs.Window.{lacking}
use Rattle.window.proofs.Window.lacks.Goals as goal

pub returns-then-self : goal.returns-then-self
unfolding lacking
returns-then-self c = rw c.if-self.true

pub returns : goal.returns
unfolding lacking
returns c = rw c.if-self.false
