-- The state as words, and what each operation makes of any. Assumes nothing.
use Rattle.std.specs.Prelude.{Bool, cond, ◌&&◌, List, [], ◌∷◌, ◌++◌, ℕ, zero, suc, ◌+◌, ◌-◌, eqb, leb, ltb, ℤ, pos, ◌-ℤ◌, get_or, set, replicate, Result, Ok, Err, Some, None}
use Rattle.std.proofs.Math.Option.{Option, none, some}
use Rattle.settings.specs.Refusal.{outside}
use Rattle.settings.specs.declared.refusal.Refusal.{Refusal}
use Rattle.settings.specs.declared.refusal.Refusal.TheVariants as refusal
use Rattle.seam.specs.declared.Seam.{Seam}
use Rattle.seam.specs.declared.Seam.TheVariants as seam
use Rattle.waves.specs.Wave.{Wave, answer, refused}
use Rattle.waves.specs.Reading.{with_some, extremes}
use Rattle.waves.specs.declared.Waves.{Waves}
use Rattle.waves.specs.declared.Started.{Started}
use Rattle.waves.specs.declared.HandedIn.{HandedIn}
use Rattle.waves.specs.declared.Extremes.{Extremes}

-- §E1.6 n, in word 64
unfoldable pub size : Waves → ℕ
size s = get_or s.words 64 0

-- §E1.6 the place of the next wave, in word 65
unfoldable pub next : Waves → ℕ
next s = get_or s.words 65 0

-- §E1.6 there are at most 64 places, and the next wave's is one of them
unfoldable pub fits : Waves → Bool
fits s = leb (size s) 64 && ltb (next s) (size s)

-- §E1.6 n and no wave
unfoldable pub blank : (n : ℕ) → Waves
blank n = record { words = set (replicate 66 0) 64 n }

-- §E1.1 n waves at most, 1 to 64, or 51 and a state without a place
unfoldable pub started : (n : ℕ) → Started
started n = cond (outside 1 64 n) (record { refusal = Some refusal.Waves; waves = blank 0 }) (record { refusal = None; waves = blank n })

-- §E1.6 the word of a gap of 0
abbrev pub level : ℕ
level = 2199023255552

-- §E1.6 the largest word of a gap, 2^42 - 1
abbrev pub most : ℕ
most = 4398046511103

-- §E1.6 the word of a gap: right less left, and 2^41
unfoldable pub word_of : (left right : ℕ) → ℕ
word_of l r = level + r - l

-- §E1.6 the word of a seam: that of its gap where it is closed, otherwise 0
unfoldable pub seam_word : Result Seam Refusal → (left right : ℕ) → ℕ
seam_word (Ok (seam.Closed h)) l r = word_of l r
seam_word (Ok (seam.Open s)) l r = 0
seam_word (Err why) l r = 0

-- §E1.6 the word of a wave
unfoldable pub word : Wave → ℕ
word w = seam_word (answer w) w.left w.right

-- §E1.6 the place after a place, the first after the last
unfoldable pub following : (place n : ℕ) → ℕ
following i n = cond (eqb (suc i) n) 0 (suc i)

-- §E1.2 the next place taken; a state that does not fit stays
unfoldable pub put : Waves → (word : ℕ) → Waves
put s x = cond (fits s) (record { words = set (set s.words (next s) x) 65 (following (next s) (size s)) }) s

-- §E1.2 one wave more: the state after it, which a wave that is turned away leaves, and the seam
unfoldable pub handed : Waves → Wave → HandedIn
handed s w = record { waves = cond (refused w) s (put s (word w)); seam = answer w }

-- §E1.6 a word is that of no gap: the words of gaps begin at 1
unfoldable pub no_gap : (word : ℕ) → Bool
no_gap x = outside 1 most x

-- §E1.6 the gap of a word
unfoldable pub signed : (word : ℕ) → ℤ
signed x = pos x -ℤ pos level

-- §E1.6 the gap of a word that is a gap's; every other gives no number
unfoldable pub gap_at : (word : ℕ) → Option ℤ
gap_at x = cond (no_gap x) none (some (signed x))

-- §E1.6 the gaps of words
unfoldable pub gaps_at : List ℕ → List ℤ
gaps_at [] = []
gaps_at (x ∷ xs) = with_some (gap_at x) (gaps_at xs)

-- §E1.6 the first n words
unfoldable pub front : (n : ℕ) → List ℕ → List ℕ
front zero ws = []
front (suc n) ws = front n ws ++ (get_or ws n 0 ∷ [])

-- §E1.6 the places in use, none where the state does not fit
unfoldable pub places : Waves → List ℕ
places s = cond (fits s) (front (size s) s.words) []

-- §E1.3 the answer to the question, of any state
unfoldable pub asked : Waves → Result Extremes Refusal
asked s = extremes (gaps_at (places s))
