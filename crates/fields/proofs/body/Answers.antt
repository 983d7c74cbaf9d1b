-- `body` meets its contract: at each `return` the tests that led there say how much of the body is there.
-- Assumes nothing.
use mathlib.Core.Path.{sym}
use native.Mathlib.Omega.{arith}
use Rattle.fields.proofs.Laws.Field.{no_body, body_there, body_whole}
use Rattle.fields.proofs.body.Goals as goal

pub returns-then-rest-lt3 : goal.returns-then-rest-lt3
returns-then-rest-lt3 c = sym (no_body c.args.size c.args.rest.now (omega arith))

pub returns-then-rest-size : goal.returns-then-rest-size
returns-then-rest-size c = sym (body_there c.args.size c.args.rest.now (omega arith))

pub returns : goal.returns
returns c = sym (body_whole c.args.size c.args.rest.now)
