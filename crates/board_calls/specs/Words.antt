-- The state as the words of bindings/c/polzaintu.h: settings, count, stamps[4], repeats[4], reading, stage. Assumes nothing.
use Rattle.std.specs.Prelude.{Bool, cond, ◌&&◌, List, [], ◌∷◌, ℕ, eqb, leb, get_or}
use Rattle.layout.specs.Words.{settings_from}
use Rattle.senders.specs.declared.Senders.{Senders}
use Rattle.board.specs.State.{fits}
use Rattle.board.specs.declared.stand.Stage.{Stage}
use Rattle.board.specs.declared.stand.Stage.TheVariants as stage
use Rattle.board.specs.declared.stand.Answer.{Answer}
use Rattle.board.specs.declared.stand.Answer.TheVariants as answer
use Rattle.counted.specs.State.{counted}
use Rattle.counted.specs.declared.Counted.{Counted}

-- §E5.9 a stage; a number over 2 is none, and its words do not fit
unfoldable pub stage_in : (word : ℕ) → Stage
stage_in n = cond (eqb n 0) stage.Running (cond (eqb n 1) stage.Pulsed stage.Ended)

-- §E5.9 the word of a stage
unfoldable pub stage_word : Stage → ℕ
stage_word stage.Running = 0
stage_word stage.Pulsed = 1
stage_word stage.Ended = 2

-- §E5.9 the word of a close's answer
unfoldable pub answer_word : Answer → ℕ
answer_word answer.Waits = 0
answer_word answer.Pulsed = 1
answer_word answer.Done = 2

-- §E5.9 the senders: count and stamps, from word 7 on
unfoldable pub senders_in : (words : List ℕ) → Senders
senders_in ws = record { count = get_or ws 7 0; stamps = get_or ws 8 0 ∷ get_or ws 9 0 ∷ get_or ws 10 0 ∷ get_or ws 11 0 ∷ [] }

-- §E6.4 the state of 18 words, with the counts after the stamps
unfoldable pub tile_in : (words : List ℕ) → Counted
tile_in ws =
    counted
    (record { settings = settings_from 0 ws; senders = senders_in ws; stand = record { reading = get_or ws 16 0; stage = stage_in (get_or ws 17 0) } })
    (get_or ws 12 0 ∷ get_or ws 13 0 ∷ get_or ws 14 0 ∷ get_or ws 15 0 ∷ [])

-- §E6.4 the words of a state
unfoldable pub tile_words : Counted → List ℕ
tile_words t =
    let b = t.board in
    let s = b.settings in
    let x = b.senders in
    s.width ∷ s.rows ∷ s.delay ∷ s.uncertainty ∷ s.hold ∷ s.drift ∷ s.unit
    ∷ x.count ∷ get_or x.stamps 0 0 ∷ get_or x.stamps 1 0 ∷ get_or x.stamps 2 0 ∷ get_or x.stamps 3 0
    ∷ get_or t.repeats 0 0 ∷ get_or t.repeats 1 0 ∷ get_or t.repeats 2 0 ∷ get_or t.repeats 3 0
    ∷ b.stand.reading ∷ stage_word b.stand.stage ∷ []

-- §E5.9 words of a state that fits, with a stage; the counts are not looked at
unfoldable pub fits_in : (words : List ℕ) → Bool
fits_in ws = leb (get_or ws 17 0) 2 && fits (tile_in ws).board
