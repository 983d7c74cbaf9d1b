-- What a step of a wall file answers and leaves: the number, the wall, the rows that it writes and the offset of a refusal. Assumes nothing.
use Rattle.std.specs.Prelude.{cond, List, ℕ, eqb, length, get_or, Option, Some, None, Result, Ok, Err}
use Rattle.settings.specs.Refusal.{number}
use Rattle.row.specs.Row.{Pulses}
use Rattle.stages.specs.declared.Wall.{Wall}
use Rattle.steps.specs.Take.{answer_of, row_after}
use Rattle.steps.specs.declared.RefusedAt.{RefusedAt}
use Rattle.layout.specs.Words.{unfit, place_in, wall_in, wall_words, refused_words, refused_number, takes}

-- §17.3 a file that is turned away, by its number, which its words may hold whatever it is, and its offset
pub record Away : Type 0 where
  pub number : ℕ
  pub offset : ℕ

-- §17.3 the same of a refusal
unfoldable pub away : RefusedAt → Away
away r = record { number = number r.refusal; offset = r.offset }

-- §17.3 and of a step, which is none where what is lent does not fit
unfoldable pub stepped : Option (Result Wall RefusedAt) → Option (Result Wall Away)
stepped (Some (Ok x)) = Some (Ok x)
stepped (Some (Err r)) = Some (Err (away r))
stepped None = None

-- §17.3 a file that is turned away is turned away again; words that are no wall's, and a part longer than is due, are unfit
unfoldable pub step_answer : (words part row : List ℕ) → (held : Pulses) → Option (Result Wall Away)
step_answer ws bs ts held =
    cond (eqb (refused_number ws) 0)
    (cond (takes ws (length bs)) (stepped (answer_of (wall_in ws) bs ts held)) None)
    (Some (Err (record { number = refused_number ws; offset = get_or ws 9 0 })))

-- §17.3 the rows that it writes, of times and of letters
unfoldable pub next_left : (words part row : List ℕ) → (held : Pulses) → Pulses
next_left ws bs ts held =
    cond (eqb (refused_number ws) 0) (cond (takes ws (length bs)) (row_after (wall_in ws) bs ts held) held) held

-- §17.1 the number of a step
unfoldable pub step_number : Option (Result Wall Away) → ℕ
step_number (Some (Ok x)) = 0
step_number (Some (Err a)) = a.number
step_number None = unfit

-- §17.3 the wall afterwards, which keeps its settings where it is over
unfoldable pub wall_left : Option (Result Wall Away) → (held : List ℕ) → List ℕ
wall_left (Some (Ok x)) held = wall_words x (place_in held)
wall_left (Some (Err a)) held = refused_words a.number a.offset (place_in held)
wall_left None held = held

-- §17.3 the offset of a refusal
unfoldable pub offset_left : Option (Result Wall Away) → (held : ℕ) → ℕ
offset_left (Some (Ok x)) held = held
offset_left (Some (Err a)) held = a.offset
offset_left None held = held
