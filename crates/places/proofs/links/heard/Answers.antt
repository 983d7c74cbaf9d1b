-- `heard` meets its contract: the senders one by one. Assumes nothing.
use mathlib.Core.Path.{sym, ◌∙◌, ap}
use Prim.Native.Nat.{ℕ, ◌+◌, ◌<◌}
use native.Mathlib.Omega.{arith}
use Rattle.columns.proofs.Laws.Window.{sender_in, links_in}
use Rattle.std.specs.Prelude.{Some}
use Rattle.places.proofs.Laws.Links.{at_first, at_second, at_third, at_fourth, none_of_three, none_of_four}
use Rattle.places.proofs.links.heard.Goals.{After-first_link-place}
use Rattle.places.proofs.links.heard.Goals as goal

-- the first sender is a column, and the first link one of a row's
small : (c : After-first_link-place) → (c.first_sender-first.result < 256) × (c.first_link-place.result < 1000)
small c = (
  omega (arith, c.first_sender-first.ensures, sender_in c.args.width c.args.c c.requires.0 c.requires.1),
  omega (arith, c.first_link-place.ensures, links_in c.args.width c.requires.0 c.args.c c.requires.1, c.requires.2),
)

pub returns-then-sender-first : goal.returns-then-sender-first
returns-then-sender-first c = ap Some c.first_link-place.ensures ∙ sym (at_first c.args.width c.args.c c.args.sender c.requires.0 c.requires.1 (c.if-sender-first.true ∙ c.first_sender-first.ensures))

pub overflow_add-first : goal.overflow_add-first
overflow_add-first c = omega (arith, (small (goal.at.overflow_add-first c).After-first_link-place).0)

pub overflow_add-result : goal.overflow_add-result
overflow_add-result c = omega (arith, (small (goal.at.overflow_add-result c).After-first_link-place).1)

pub returns-then-sender-first-2 : goal.returns-then-sender-first-2
returns-then-sender-first-2 c = ap (λ (n : ℕ). Some (n + 1)) c.first_link-place.ensures
    ∙ sym (at_second c.args.width c.args.c c.args.sender c.requires.0 c.requires.1 (c.if-sender-first-2.true ∙ ap (λ (n : ℕ). n + 1) c.first_sender-first.ensures))

pub overflow_add-first-2 : goal.overflow_add-first-2
overflow_add-first-2 c = omega (arith, (small (goal.at.overflow_add-first-2 c).After-first_link-place).0)

pub overflow_add-result-then-sender-first-3 : goal.overflow_add-result-then-sender-first-3
overflow_add-result-then-sender-first-3 c = omega (arith, (small (goal.at.overflow_add-result-then-sender-first-3 c).After-first_link-place).1)

pub returns-then-sender-first-3 : goal.returns-then-sender-first-3
returns-then-sender-first-3 c = ap (λ (n : ℕ). Some (n + 2)) c.first_link-place.ensures
    ∙ sym (at_third c.args.width c.args.c c.args.sender c.requires.0 c.requires.1 (c.if-sender-first-3.true ∙ ap (λ (n : ℕ). n + 2) c.first_sender-first.ensures))

pub overflow_add-first-then-four_senders : goal.overflow_add-first-then-four_senders
overflow_add-first-then-four_senders c = omega (arith, (small (goal.at.overflow_add-first-then-four_senders c).After-first_link-place).0)

pub overflow_add-result-then-sender-first-4 : goal.overflow_add-result-then-sender-first-4
overflow_add-result-then-sender-first-4 c = omega (arith, (small (goal.at.overflow_add-result-then-sender-first-4 c).After-first_link-place).1)

pub returns-then-sender-first-4 : goal.returns-then-sender-first-4
returns-then-sender-first-4 c = ap (λ (n : ℕ). Some (n + 3)) c.first_link-place.ensures
    ∙ sym (at_fourth c.args.width c.args.c c.args.sender c.requires.0 c.requires.1
    (sym c.four_senders.ensures ∙ c.if-four_senders.true) (c.if-sender-first-4.true ∙ ap (λ (n : ℕ). n + 3) c.first_sender-first.ensures))

pub returns-then-four_senders : goal.returns-then-four_senders
returns-then-four_senders c = sym (none_of_four c.args.width c.args.c c.args.sender c.requires.0 c.requires.1
    (λ q. c.if-sender-first.false (q ∙ sym c.first_sender-first.ensures))
    (λ q. c.if-sender-first-2.false (q ∙ ap (λ (n : ℕ). n + 1) (sym c.first_sender-first.ensures)))
    (λ q. c.if-sender-first-3.false (q ∙ ap (λ (n : ℕ). n + 2) (sym c.first_sender-first.ensures)))
    (sym c.four_senders.ensures ∙ c.if-four_senders.true)
    (λ q. c.if-sender-first-4.false (q ∙ ap (λ (n : ℕ). n + 3) (sym c.first_sender-first.ensures))))

pub returns : goal.returns
returns c = sym (none_of_three c.args.width c.args.c c.args.sender c.requires.0 c.requires.1
    (λ q. c.if-sender-first.false (q ∙ sym c.first_sender-first.ensures))
    (λ q. c.if-sender-first-2.false (q ∙ ap (λ (n : ℕ). n + 1) (sym c.first_sender-first.ensures)))
    (λ q. c.if-sender-first-3.false (q ∙ ap (λ (n : ℕ). n + 2) (sym c.first_sender-first.ensures)))
    (sym c.four_senders.ensures ∙ c.if-four_senders.false))
