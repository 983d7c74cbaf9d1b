-- What each function answers and leaves, by the words of the state: the number, and what is lent to be written, which a refusal leaves as
-- it was. Assumes nothing.
use Rattle.std.specs.Prelude.{cond, List, ℕ, Option, Some, None}
use Rattle.settings.specs.Refusal.{refused}
use Rattle.settings.specs.declared.Settings.{Settings}
use Rattle.settings.specs.declared.refusal.Refusal.{Refusal}
use Rattle.layout.specs.Words.{unfit}
use Rattle.counted.specs.State.{started, pulsed, closed, closed_many}
use Rattle.board_calls.specs.Words.{answer_word, tile_in, tile_words, fits_in}

-- §E5.9 the words of a state, which a refusal does not write
unfoldable pub unless_refused : Option Refusal → (words held : List ℕ) → List ℕ
unless_refused None ws held = ws
unless_refused (Some r) ws held = held

-- §E5.9 0, or 1 to 9, 11 or 12
unfoldable pub start_number : Settings → (count reading : ℕ) → ℕ
start_number s n v = refused (started s n v).refusal

-- §E5.9 the state of a start, which a refusal does not write
unfoldable pub start_left : Settings → (count reading : ℕ) → (held : List ℕ) → List ℕ
start_left s n v held = unless_refused (started s n v).refusal (tile_words (started s n v).tile) held

-- §E5.9 0 or 54; a state that no start left is unfit
unfoldable pub pulse_number : (words : List ℕ) → (sender : ℕ) → ℕ
pulse_number ws k = cond (fits_in ws) (refused (pulsed (tile_in ws) k).refusal) unfit

-- §E5.9 the state after a pulse
unfoldable pub pulse_left : (words : List ℕ) → (sender : ℕ) → List ℕ
pulse_left ws k = cond (fits_in ws) (tile_words (pulsed (tile_in ws) k).tile) ws

-- §E5.9 0; a state that no start left is unfit
unfoldable pub close_number : (words : List ℕ) → ℕ
close_number ws = cond (fits_in ws) 0 unfit

-- §E5.9 the state after a close
unfoldable pub close_left : (words : List ℕ) → List ℕ
close_left ws = cond (fits_in ws) (tile_words (closed (tile_in ws)).tile) ws

-- §E5.9 its answer
unfoldable pub close_answer : (words : List ℕ) → (held : ℕ) → ℕ
close_answer ws held = cond (fits_in ws) (answer_word (closed (tile_in ws)).answer) held

-- §E5.9 the state after n closes
unfoldable pub many_left : (words : List ℕ) → (n : ℕ) → List ℕ
many_left ws n = cond (fits_in ws) (tile_words (closed_many (tile_in ws) n).tile) ws

-- §E5.9 their answer
unfoldable pub many_answer : (words : List ℕ) → (n held : ℕ) → ℕ
many_answer ws n held = cond (fits_in ws) (answer_word (closed_many (tile_in ws) n).answer) held
