-- What is promised of clocks and the rule. Each statement is proved in proofs/Promises.antt, under its name in small
-- letters. Assumes nothing.
use Rattle.std.specs.Prelude.{◌≡◌, List, map, ℕ, ◌+◌, ◌-◌, ◌*◌, ◌≤◌, ◌<◌, min, max, ℤ, pos, ◌+ℤ◌, ◌-ℤ◌, length, ◌≤ℤ◌, ◌<ℤ◌}
use Rattle.settings.specs.Settings.{step_of, settings_refusal}
use Rattle.rule.specs.Clock.{reads, first_tick}
use Rattle.rule.specs.Signed.{natural}
use Rattle.rule.specs.Stamp.{Stamp, heard, ◌≼◌, ◌≼*◌, ◌∈◌, earliest, latest, after, FromTo, All, AllButOne, unheard_of, unheard_in}
use Rattle.rule.specs.Forward.{larger_at, D, P}
use Rattle.rule.specs.Closed.{middle, closed_P}
use Rattle.rule.specs.Pulse.{tile_P, tile_letter}
use Rattle.settings.specs.declared.Settings.{Settings}
use Rattle.rule.specs.declared.letter.Letter.{Letter}
use Rattle.rule.specs.declared.letter.Letter.TheVariants.{Kept, Early, Middle, Back, Late}

-- §3.4 the tick of a reading is the least that reads enough, for every drift and phase
unfoldable pub TickLeast : Type 0
TickLeast = (p q v t : ℕ) → (v ≤ reads p q (first_tick p q v)) × (t < first_tick p q v → reads p q t < v)

-- §4.1 D is attained at some s, and at most the value at every s
pub record Least (h own least most : ℕ) : Type 0 where
  pub s : ℕ
  pub attained : D h own least most ≡ larger_at h own least most s -ℤ pos h
  pub below : (s : ℕ) → D h own least most ≤ℤ (larger_at h own least most s -ℤ pos h)

-- §4.1 D is the least over all s
unfoldable pub DLeast : Type 0
DLeast = (h own least most : ℕ) → 0 < h → least ≤ most → Least h own least most

-- §12.2 P as written, with its signed correction, three cases and silence, is what the code computes in constant time
unfoldable pub RuleClosed : Type 0
RuleClosed =
    (h j : ℕ) (own least most : Stamp) → 0 < h → least ≼ most → P h j own least most ≡ pos (closed_P h j own least most)

-- §1.3 what follows is of a tile with checked settings, its own stamp and those of its two neighbours or more
pub record Tile (s : Settings) (ns : List Stamp) : Type 0 where
  pub checked : settings_refusal s ≡ 0
  pub two : 2 ≤ length ns

-- §4.3 P is never below zero
unfoldable pub PExact : Type 0
PExact =
    (s : Settings) (own : Stamp) (ns : List Stamp) → Tile s ns →
    P s.unit (step_of s) own (earliest ns) (latest ns) ≡ pos (tile_P s own ns)

-- §E3.2 what a letter says of P
pub data Says (h j : ℕ) : (own least most : Stamp) → Letter → (p : ℤ) → Type 0 where
  says_k : {o : ℕ} {l m : Stamp} → Says h j (heard o) l m Kept (pos o)
  -- own waits
  says_e : {o l : ℕ} {m : Stamp} → pos o <ℤ (pos l -ℤ pos (3 * h)) → Says h j (heard o) (heard l) m Early (pos l -ℤ pos (3 * h))
  says_m : {o l m : ℕ} → Says h j (heard o) (heard l) (heard m) Middle (pos (middle h l m) +ℤ pos h)
  says_b : {o l m : ℕ} → Says h j (heard o) (heard l) (heard m) Back (pos o -ℤ pos j)
  says_l : {own l : Stamp} {m : ℕ} → Says h j own l (heard m) Late (pos m +ℤ pos (3 * h))

-- §E3.2 a tile's letter says so of its P
unfoldable pub LetterSays : Type 0
LetterSays =
    (s : Settings) (own : Stamp) (ns : List Stamp) → Tile s ns → unheard_of own + unheard_in ns ≤ 1 →
    Says s.unit (step_of s) own (earliest ns) (latest ns) (tile_letter s own ns) (P s.unit (step_of s) own (earliest ns) (latest ns))

-- §E3.2 so letter and stamps leave one P
unfoldable pub LetterGives : Type 0
LetterGives = (h j : ℕ) (own l m : Stamp) (x : Letter) (p q : ℤ) → Says h j own l m x p → Says h j own l m x q → p ≡ q

-- §5.1 a later stamp, or silence in its place, gives no earlier P
unfoldable pub PMonotone : Type 0
PMonotone =
    (s : Settings) (own own' : Stamp) (ns ns' : List Stamp) → Tile s ns → own ≼ own' → ns ≼* ns' → unheard_of own' + unheard_in ns' ≤ 1 →
    tile_P s own ns ≤ tile_P s own' ns'

-- §11.7 all stamps n later give P n later
unfoldable pub PShifts : Type 0
PShifts =
    (s : Settings) (own : Stamp) (ns : List Stamp) (n : ℕ) → Tile s ns → unheard_of own + unheard_in ns ≤ 1 →
    tile_P s (after n own) (map (after n) ns) ≡ tile_P s own ns + n

-- §1.4 any one predecessor is arbitrary or silent, the others are heard from lo to hi
pub data OneFree (lo hi : ℕ) : (own : Stamp) → (neighbours : List Stamp) → Type 0 where
  own_free : {own : Stamp} {ns : List Stamp} → All (FromTo lo hi) ns → OneFree lo hi own ns
  neighbour_free : {own : Stamp} {ns : List Stamp} → FromTo lo hi own → AllButOne (FromTo lo hi) ns → OneFree lo hi own ns

-- §12.3 then P lies from lo - 3h to hi + 3h
unfoldable pub Envelope : Type 0
Envelope =
    (s : Settings) (lo hi : ℕ) (own : Stamp) (ns : List Stamp) → Tile s ns → OneFree lo hi own ns →
    (lo ≤ tile_P s own ns + 3 * s.unit) × (tile_P s own ns ≤ hi + 3 * s.unit)

-- §12.3 whatever the other neighbours are, P lies between own and any one of them, give or take J and 3h
unfoldable pub BetweenTwo : Type 0
BetweenTwo =
    (s : Settings) (o a : ℕ) (ns : List Stamp) → Tile s ns → heard a ∈ ns →
    (min (o - step_of s) (a + 3 * s.unit) ≤ tile_P s (heard o) ns) × (tile_P s (heard o) ns ≤ max o (a - 3 * s.unit))

-- §4.2 with all stamps heard, P lies from the earliest neighbour less 3h, or own, to the latest and 3h, or own
unfoldable pub ForwardBetween : Type 0
ForwardBetween =
    (s : Settings) (o l m : ℕ) → settings_refusal s ≡ 0 → l ≤ m →
    let p = natural (P s.unit (step_of s) (heard o) (heard l) (heard m)) in (min o (l - 3 * s.unit) ≤ p) × (p ≤ max o (m + 3 * s.unit))
