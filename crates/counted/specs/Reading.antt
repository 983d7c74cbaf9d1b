-- What a plain reading of a list of events counts. Assumes nothing.
use Rattle.std.specs.Prelude.{cond, List, [], ◌∷◌, ℕ, suc, ◌-◌, min, eqb}
use Rattle.board.specs.Events.{Event, pulse, close}
use Rattle.board_runs.specs.Reading.{at_places}
use Rattle.counted.specs.State.{most}

-- §E6.2 how often a sender pulses
unfoldable pub pulses_of : (sender : ℕ) → List Event → ℕ
pulses_of k [] = 0
pulses_of k (pulse j ∷ es) = cond (eqb j k) (suc (pulses_of k es)) (pulses_of k es)
pulses_of k (close ∷ es) = pulses_of k es

-- §E6.2 its repeats: all of them but the first
unfoldable pub repeats_of : (sender : ℕ) → List Event → ℕ
repeats_of k es = pulses_of k es - 1

-- §E6.2 the count of a sender: its repeats, 65,535 where there are more
unfoldable pub count_of : (sender : ℕ) → List Event → ℕ
count_of k es = min (repeats_of k es) most

-- §E6.2 the four counts; one past the neighbour count is 0
unfoldable pub counts_in : (count : ℕ) → List Event → List ℕ
counts_in n es = at_places n 0 (λ k. count_of k es)
