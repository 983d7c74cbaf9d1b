-- What is known of a tile's senders. Assumes nothing.
use Rattle.std.specs.Prelude.{Bool, cond, not, ◌&&◌, ◌||◌, List, [], ◌∷◌, map, ℕ, ◌+◌, eqb, leb, get_or, set, replicate, take}
use Rattle.rule.specs.Stamp.{Stamp, silence, stamp_of, unheard_of, unheard_in}
use Rattle.senders.specs.declared.Senders.{Senders}

-- §E5.3 the last reading that opens: 2^42 - 1
abbrev pub last : ℕ
last = 4398046511103

-- §E5.2 the neighbours, of two or of three
unfoldable pub neighbours : (count : ℕ) → List ℕ
neighbours n = take n (1 ∷ 2 ∷ 3 ∷ [])

-- §E5.9 the number at a sender's place: the reading at which it was first heard, or 2^64 - 1
unfoldable pub code_at : Senders → (sender : ℕ) → ℕ
code_at x k = get_or x.stamps k 0

-- §E5.3 a sender's stamp
unfoldable pub stamp_at : Senders → (sender : ℕ) → Stamp
stamp_at x k = stamp_of (code_at x k)

-- §E5.3 own's
unfoldable pub own_stamp : Senders → Stamp
own_stamp x = stamp_at x 0

-- §E5.3 and the neighbours'
unfoldable pub neighbour_stamps : Senders → List Stamp
neighbour_stamps x = map (stamp_at x) (neighbours x.count)

-- §E5.3 how many of them are unheard
unfoldable pub unheard : Senders → ℕ
unheard x = unheard_of (own_stamp x) + unheard_in (neighbour_stamps x)

-- §E5.1 nothing is heard
unfoldable pub unheard_all : (count : ℕ) → Senders
unheard_all n = record { count = n; stamps = replicate 4 silence }

-- §E5.2 a sender that has pulsed, so that its next pulse is a repeat
unfoldable pub is_heard : Senders → (sender : ℕ) → Bool
is_heard x k = not (eqb (code_at x k) silence)

-- §E5.2 a pulse at a reading: the first of its sender is heard then, a repeat changes nothing
unfoldable pub heard_by : Senders → (sender reading : ℕ) → Senders
heard_by x k v = cond (is_heard x k) x (record { count = x.count; stamps = set x.stamps k v })

-- §E5.9 a number that is a stamp's: silence, or a reading
unfoldable pub stamp_fits : ℕ → Bool
stamp_fits v = eqb v silence || leb v last

-- §E5.9 two neighbours or three, and four stamps
unfoldable pub fit : Senders → Bool
fit x =
    leb 2 x.count
    && leb x.count 3
    && stamp_fits (code_at x 0)
    && stamp_fits (code_at x 1)
    && stamp_fits (code_at x 2)
    && stamp_fits (code_at x 3)
