-- What each operation makes of any state. Assumes nothing.
use Rattle.std.specs.Prelude.{Bool, false, cond, ◌&&◌, List, [], ◌∷◌, ℕ, zero, suc, eqb, leb, ltb, Option, Some, None}
use Rattle.settings.specs.Refusal.{Test, first, ◌when◌, or_else, refused, outside}
use Rattle.settings.specs.Settings.{settings_cause, settings_refusal}
use Rattle.settings.specs.declared.refusal.Refusal.{Refusal}
use Rattle.settings.specs.declared.refusal.Refusal.TheVariants.{Neighbours, Stamp, Sender}
use Rattle.settings.specs.declared.Settings.{Settings}
use Rattle.rule.specs.Stamp.{latest_stamp}
use Rattle.senders.specs.Due.{reaches}
use Rattle.senders.specs.Senders.{last, own_stamp, neighbour_stamps, unheard_all, is_heard, heard_by, fit}
use Rattle.board.specs.Stand.{stand, closing, told, is_running}
use Rattle.board.specs.declared.Board.{Board}
use Rattle.board.specs.declared.Started.{Started}
use Rattle.board.specs.declared.Heard.{Heard}
use Rattle.board.specs.declared.Closed.{Closed}
use Rattle.board.specs.declared.stand.Stand.{Stand}
use Rattle.board.specs.declared.stand.Stage.{Stage}
use Rattle.board.specs.declared.stand.Stage.TheVariants.{Running, Ended}
use Rattle.board.specs.declared.stand.Answer.TheVariants.{Done}

-- §E5.3 the reading that a close looks at: the one that it closes
unfoldable pub looked_at : Board → ℕ
looked_at b = b.stand.reading

-- §E5.3 that reading has come to P + A, the unheard being silent
unfoldable pub reached : Board → Bool
reached b = reaches b.settings (own_stamp b.senders) (neighbour_stamps b.senders) (looked_at b)

-- §E5.9 a state that a start and calls may have left: checked settings, senders that fit, a reading that opens
unfoldable pub fits : Board → Bool
fits b = eqb (settings_refusal b.settings) 0 && fit b.senders && leb b.stand.reading last

-- §E5.4 a tile takes events while its run is not over; one that does not fit takes none (§E5.9)
unfoldable pub runs : Board → Bool
runs b = is_running b.stand.stage && fits b

-- §E5.1 11 and 12
unfoldable pub start_tests : (count reading : ℕ) → List Test
start_tests n v = Neighbours when outside 2 3 n ∷ Stamp when ltb latest_stamp v ∷ []

-- §E5.1 why a start is turned away: what the settings are turned away with, then 11 and 12
unfoldable pub start_cause : Settings → (count reading : ℕ) → Option Refusal
start_cause s n v = or_else (settings_cause s) (first (start_tests n v))

-- §E5.1 its number, 0 where a start is accepted
unfoldable pub start_refusal : Settings → (count reading : ℕ) → ℕ
start_refusal s n v = refused (start_cause s n v)

-- §E5.1 nothing heard so far, at a stand
unfoldable pub fresh : Settings → (count : ℕ) → Stand → Board
fresh s n x = record { settings = s; senders = unheard_all n; stand = x }

-- §E5.1 the run of a tile that is turned away is over
unfoldable pub first_stage : (cause : Option Refusal) → Stage
first_stage None = Running
first_stage (Some why) = Ended

-- §E5.1 the first reading is open; a tile that is turned away takes no event
unfoldable pub started : Settings → (count reading : ℕ) → Started
started s n v =
    let cause = start_cause s n v in
    record { refusal = cause; board = fresh s n (stand v (first_stage cause)) }

-- §E5.2 a pulse from a sender, heard at the open reading
unfoldable pub hears : Board → (sender : ℕ) → Board
hears b k = record { settings = b.settings; senders = heard_by b.senders k b.stand.reading; stand = b.stand }

-- §E5.2 a pulse: why it is turned away, whether it is a repeat, and the state after it. 54 leaves that, and so does any pulse once the run is over (§E5.4)
unfoldable pub pulsed : Board → (sender : ℕ) → Heard
pulsed b k =
    cond (runs b)
    (cond (ltb b.senders.count k)
    (record { refusal = Some Sender; repeat = false; board = b })
    (record { refusal = None; repeat = is_heard b.senders k; board = hears b k }))
    (record { refusal = None; repeat = false; board = b })

-- §E5.3 the tile at a stand
unfoldable pub at : Board → Stand → Board
at b x = record { settings = b.settings; senders = b.senders; stand = x }

-- §E5.3 the state after one close
unfoldable pub shut : Board → Board
shut b = cond (runs b) (at b (closing (reached b) b.stand.reading)) b

-- §E5.5 after n closes, one by one
unfoldable pub shut_many : (n : ℕ) → Board → Board
shut_many zero b = b
shut_many (suc n) b = shut_many n (shut b)

-- §E5.3 a tile that took closes, and its answer; one whose run is over is done
unfoldable pub answered : (before after : Board) → Closed
answered b c = record { answer = cond (runs b) (told c.stand.stage) Done; board = c }

-- §E5.3 one close
unfoldable pub closed : Board → Closed
closed b = answered b (shut b)

-- §E5.5 n closes, one by one
unfoldable pub closed_many : Board → (n : ℕ) → Closed
closed_many b n = answered b (shut_many n b)
