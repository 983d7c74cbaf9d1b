-- `word_of` meets its contract. Assumes nothing.
use mathlib.Core.Path.{sym, ◌∙◌}
use native.Mathlib.Omega.{arith}
use Rattle.arguments.proofs.Laws.Words.{all_listed, no_bytes, is_option, is_number, is_name}
use Rattle.arguments.proofs.word_of.Goals as goal

pub returns-in-empty : goal.returns-in-empty
returns-in-empty c = no_bytes _ _ _ (omega (arith, c.in-empty.len_below))

pub returns-in-45 : goal.returns-in-45
returns-in-45 c = c.option.ensures ∙ is_option _ _ _ (λ e. omega (arith, e)) (omega arith)

pub number-requires : goal.number-requires
number-requires c = all_listed _ ∙ sym c.all_digits.ensures ∙ c.if-all_digits.true

pub returns-in_default : goal.returns-in_default
returns-in_default c = c.number.ensures ∙ is_number _ _ _ (λ e. omega (arith, e)) (λ e. omega (arith, e)) (all_listed _ ∙ sym c.all_digits.ensures ∙ c.if-all_digits.true)

pub returns-in_default-2 : goal.returns-in_default-2
returns-in_default-2 c = is_name _ _ _ (λ e. omega (arith, e)) (λ e. omega (arith, e)) (all_listed _ ∙ sym c.all_digits.ensures ∙ c.if-all_digits.false)
