-- `hand_in` meets its contract. Assumes nothing.
use Rattle.std.proofs.Common.{◌≡◌, Ok, sym, ◌∙◌, ap}
use Rattle.seam.specs.declared.Seam.TheVariants.{Closed, Open}
use Rattle.waves.specs.Wave.{wave, answer, refused}
use Rattle.waves.specs.State.{seam_word, word, handed}
use Rattle.waves.proofs.Laws.Wave.{closed_times}
use Rattle.waves.proofs.Waves.hand_in.Goals.{In-Ok-Closed, In-Ok-Open}
use Rattle.waves.proofs.Waves.hand_in.Goals as goal

-- the seam, closed or open
closed : (c : In-Ok-Closed) → c.join-seam.result ≡ Ok (Closed c.in-Ok-Closed.field-0-0)
closed c = let a : c.in-Ok-Closed.field-0 ≡ Closed c.in-Ok-Closed.field-0-0 = rw c.in-Ok-Closed.is at c.in-Ok-Closed.field-0-is in c.in-Ok-Closed.is ∙ ap Ok a

opened : (c : In-Ok-Open) → c.join-seam.result ≡ Ok (Open c.in-Ok-Open.field-0-0)
opened c = let a : c.in-Ok-Open.field-0 ≡ Open c.in-Ok-Open.field-0-0 = rw c.in-Ok-Open.is at c.in-Ok-Open.field-0-is in c.in-Ok-Open.is ∙ ap Ok a

pub word-requires : goal.word-requires
word-requires c = let a = c.args in
    closed_times a.left a.left_faulty a.right a.right_faulty _ (sym c.join-seam.ensures ∙ closed (goal.at.word-requires c).In-Ok-Closed)

pub returns-in-Ok-Closed : goal.returns-in-Ok-Closed
unfolding handed refused word seam_word answer wave
returns-in-Ok-Closed c = rw (← c.join-seam.ensures, closed (goal.at.returns-in-Ok-Closed c).In-Ok-Closed, c.put-waves.ensures, c.word.ensures)

pub returns-in-Ok-Open : goal.returns-in-Ok-Open
unfolding handed refused word seam_word answer wave
returns-in-Ok-Open c = rw (← c.join-seam.ensures, opened (goal.at.returns-in-Ok-Open c).In-Ok-Open, c.put-waves-in-Ok-Open.ensures)

pub returns-in-Err : goal.returns-in-Err
unfolding handed refused word seam_word answer wave
returns-in-Err c = rw (← c.join-seam.ensures, c.in-Err.is)
