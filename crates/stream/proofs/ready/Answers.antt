-- `ready` meets its contract. Assumes nothing.
use mathlib.Core.Bool.{true}
use mathlib.Core.Path.{◌≡◌, sym, ◌∙◌}
use native.Mathlib.Omega.{arith}
use lib.ListN.{length}
use Rattle.stream.specs.State.{to_hand}
use Rattle.stream.proofs.Laws.State.{at_once, hand_lacking, hand_full, filled_next}
use Rattle.stream.proofs.ready.Goals as goal
use Rattle.stream.proofs.ready.Goals.{then-not-lacks+else-text-output, else-not-lacks}

pub returns-then-text-output : goal.returns-then-text-output
returns-then-text-output g c =
    at_once _ _ _ _ c.requires.3 c.requires.0 (sym c.lacks.ensures ∙ c.if-not-lacks.true) (omega (arith, c.if-text-output.true))

pub returns-in-Ok : goal.returns-in-Ok
returns-in-Ok g c =
    let a = c.args in
    let handed : to_hand a.state (length a.output.now) ≡ true =
    elim c.if-not-lacks.branch [
      | then-not-lacks+else-text-output w ↦ hand_full a.state a.input.now (length a.output.now) _ c.requires.3 (sym c.lacks.ensures ∙ w.if-not-lacks.true) (omega (arith, w.if-text-output.false))
      | else-not-lacks w ↦ hand_lacking a.state a.input.now (length a.output.now) _ c.requires.3 (sym c.lacks.ensures ∙ w.if-not-lacks.false)
    ] in
    rw c.if-left-ne0.false (filled_next a.state _ _ _ c.requires.3 _ _ _ c.in-Ok.is handed c.requires.2 c.fill.ensures.idle c.fill.ensures.filled)
