-- `seam` meets its contract: the labels, and what follows them by what the seam is. Assumes nothing.
use mathlib.Core.Path.{sym, ◌∙◌, ap}
use native.Mathlib.Omega.{arith}
use Rattle.std.specs.Prelude.{Ok}
use Rattle.seam.specs.declared.Seam.{Seam}
use Rattle.tables.specs.Word.{bytes}
use Rattle.seam_lines.specs.Seam.{seam_after}
use Rattle.columns.proofs.Laws.Wrote.{wrote_then, wrote_as}
use Rattle.tables.proofs.Laws.Word.{wrote_nothing}
use Rattle.seam_lines.proofs.Laws.Line.{closed_numbers}
use Rattle.seam_lines.proofs.seam.Goals as goal

pub closed_words-requires : goal.closed_words-requires
closed_words-requires c = (
  c.requires.tables.0,
  closed_numbers _ _ _ _ _ (ap (λ (s : Seam). Ok s) (sym (rw c.in-Ok-Closed.is at c.in-Ok-Closed.field-0-is)) ∙ sym c.in-Ok-Closed.is ∙ c.joined-answer.ensures),
  omega (arith, c.labels-words.ensures.upper_bound, c.labels-words.ensures.wrote.as_long, c.requires.marks_len.3),
)

pub returns-in-Ok-Closed : goal.returns-in-Ok-Closed
unfolding seam_after
returns-in-Ok-Closed c = let a = c.args in
    wrote_as (wrote_then c.labels-words.ensures.wrote c.closed_words.ensures)
    (ap (seam_after (bytes a.head.length a.head.word) a.a a.b) (ap (λ (s : Seam). Ok s) (sym (rw c.in-Ok-Closed.is at c.in-Ok-Closed.field-0-is)) ∙ sym c.in-Ok-Closed.is ∙ c.joined-answer.ensures))

pub returns-in-Ok-Open : goal.returns-in-Ok-Open
unfolding seam_after
returns-in-Ok-Open c = let a = c.args in
    wrote_as (wrote_then c.labels-words.ensures.wrote c.open_words.ensures)
    (ap (seam_after (bytes a.head.length a.head.word) a.a a.b) (ap (λ (s : Seam). Ok s) (sym (rw c.in-Ok-Open.is at c.in-Ok-Open.field-0-is)) ∙ sym c.in-Ok-Open.is ∙ c.joined-answer.ensures))

pub returns-in-Err : goal.returns-in-Err
unfolding seam_after
returns-in-Err c = let a = c.args in
    wrote_as (wrote_nothing c.labels-words.ensures.wrote (omega (arith, c.requires.marks_len.3)))
    (ap (seam_after (bytes a.head.length a.head.word) a.a a.b) (sym c.in-Err.is ∙ c.joined-answer.ensures))
