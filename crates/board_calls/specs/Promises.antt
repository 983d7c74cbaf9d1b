-- What is promised of the words of a state. Each statement is proved in proofs/Promises.antt, under its name in small letters. Assumes nothing.
use Rattle.std.specs.Prelude.{◌≡◌, List, [], ◌∷◌, ℕ}
use Rattle.settings.specs.declared.Settings.{Settings}
use Rattle.board.specs.Stand.{stand}
use Rattle.board.specs.declared.stand.Stage.{Stage}
use Rattle.counted.specs.State.{counted}
use Rattle.counted.specs.declared.Counted.{Counted}
use Rattle.board_calls.specs.Words.{tile_in, tile_words}
use Rattle.board_calls.specs.Answers.{pulse_number, pulse_left}

-- §E5.9 a number for own and for each of three neighbours
pub record Four : Type 0 where
  pub own : ℕ
  pub one : ℕ
  pub two : ℕ
  pub three : ℕ

-- §E5.9 in their places
unfoldable pub places : Four → List ℕ
places f = f.own ∷ f.one ∷ f.two ∷ f.three ∷ []

-- §E6.4 a state with four stamps and four counts
unfoldable pub state : Settings → (count : ℕ) → (stamps counts : Four) → (reading : ℕ) → Stage → Counted
state s n f g v x = counted (record { settings = s; senders = record { count = n; stamps = places f }; stand = stand v x }) (places g)

-- §E6.4 a state that is written is read back
unfoldable pub ReadBack : Type 0
ReadBack =
    (s : Settings) (n : ℕ) (f g : Four) (v : ℕ) (x : Stage) → let t = state s n f g v x in tile_in (tile_words t) ≡ t

-- §E5.9 54 leaves the words as they were
unfoldable pub WrongLeft : Type 0
WrongLeft =
    (s : Settings) (n : ℕ) (f g : Four) (v : ℕ) (x : Stage) (k : ℕ) →
    let ws = tile_words (state s n f g v x) in
    pulse_number ws k ≡ 54 → pulse_left ws k ≡ ws
