-- `pulse` meets its contract. Assumes nothing.
use Rattle.std.proofs.Common.{◌≡◌, Bool, sym, ◌∙◌, ap}
use Rattle.board.specs.State as board
use Rattle.board.specs.declared.Heard.{Heard}
use Rattle.board.proofs.Laws.Pulse.{repeat_placed}
use Rattle.counted.specs.State.{counted, pulsed}
use Rattle.counted.proofs.Counted.pulse.Goals.{After-pulse-heard, then-heard, else-heard}
use Rattle.counted.proofs.Counted.pulse.Goals as goal

-- it is a repeat, or it is none
told : (c : After-pulse-heard) {p : Bool} → c.pulse-heard.result.repeat ≡ p → (board.pulsed c.args.self.board c.args.sender).repeat ≡ p
told c e = sym (ap (λ (r : Heard). r.repeat) c.pulse-heard.ensures) ∙ e

pub raised-repeats-requires : goal.raised-repeats-requires
raised-repeats-requires c = repeat_placed _ _ (told (goal.at.raised-repeats-requires c).After-pulse-heard c.if-heard.true)

pub returns : goal.returns
unfolding pulsed counted
returns c = let h = (goal.at.returns c).After-pulse-heard in
    elim c.if-heard.branch [
      | then-heard w ↦ rw (told h w.if-heard.true, w.repeats-is, w.raised-repeats.ensures, c.pulse-heard.ensures)
      | else-heard w ↦ rw (told h w.if-heard.false, w.repeats-is, c.pulse-heard.ensures)
    ]
