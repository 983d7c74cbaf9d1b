-- Lists of calls from a start, known by the operations' contracts alone, and their plain reading: what each call is to
-- answer, from the waves handed in before it. Assumes nothing.
use Rattle.std.specs.Prelude.{◌≡◌, true, List, [], ◌∷◌, ◌++◌, ℕ, Result, None}
use Rattle.settings.specs.declared.refusal.Refusal.{Refusal}
use Rattle.seam.specs.declared.Seam.{Seam}
use Rattle.waves.specs.Wave.{Wave, answer}
use Rattle.waves.specs.Reading.{reading}
use Rattle.waves.specs.State.{fits, started, handed, asked}
use Rattle.waves.specs.declared.Waves.{Waves}
use Rattle.waves.specs.declared.Started.{Started}
use Rattle.waves.specs.declared.HandedIn.{HandedIn}
use Rattle.waves.specs.declared.Extremes.{Extremes}

-- §E1.5 a call with its answer: a wave handed in and the seam, or a question and what it is told
pub data Call : Type 0 where
  hands_in : Wave → Result Seam Refusal → Call
  asks : Result Extremes Refusal → Call

-- §E1.5 calls from one state to another. A hand-in leaves the state that the next call is given; a question leaves the one that it was given. Of each
-- call only what its operation ensures is known.
pub data Calls : (from : Waves) → List Call → (to : Waves) → Type 0 where
  done : {s : Waves} → Calls s [] s
  hand_in : {s t : Waves} {cs : List Call} (w : Wave) (r : HandedIn) → r ≡ handed s w → Calls r.waves cs t →
      Calls s (hands_in w r.seam ∷ cs) t
  ask : {s t : Waves} {cs : List Call} (a : Result Extremes Refusal) → a ≡ asked s → Calls s cs t → Calls s (asks a ∷ cs) t

-- §E1.5 each call is answered by a plain reading of the waves handed in before it: a hand-in by the seam, a question by the full reading
unfoldable pub Read : (n : ℕ) → (before : List Wave) → List Call → Type 0
Read n ws [] = Unit {0}
Read n ws (hands_in w a ∷ cs) = (a ≡ answer w) × Read n (ws ++ w ∷ []) cs
Read n ws (asks a ∷ cs) = (a ≡ reading n ws) × Read n ws cs

-- §E1.5 so are all calls after a start, whatever they are and however many
unfoldable pub CallsRead : Type 0
CallsRead =
    (n : ℕ) (r : Started) (cs : List Call) (t : Waves) → r ≡ started n → r.refusal ≡ None → Calls r.waves cs t → Read n [] cs

-- §E1.6 the state after them fits
unfoldable pub CallsFit : Type 0
CallsFit =
    (n : ℕ) (r : Started) (cs : List Call) (t : Waves) → r ≡ started n → r.refusal ≡ None → Calls r.waves cs t → fits t ≡ true
