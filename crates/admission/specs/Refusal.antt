-- When a row call is turned away: the numbers 21 to 26, and 53 among them. Assumes nothing.
use Rattle.std.specs.Prelude.{Bool, not, ◌&&◌, List, [], ◌∷◌, ℕ, ◌+◌, ◌*◌, ltb, leb, eqb, length, get_or, Option}
use Rattle.settings.specs.Refusal.{Test, ◌when◌, first, any_below, or_else, refused}
use Rattle.settings.specs.Settings.{settings_cause}
use Rattle.settings.specs.declared.Settings.{Settings}
use Rattle.settings.specs.declared.refusal.Refusal.{Refusal}
use Rattle.settings.specs.declared.refusal.Refusal.TheVariants.{Lengths, StrayMark, LateTime, Crowded, TileDrift, Phase, Link}
use Rattle.rule.specs.Clock.{phase_most}
use Rattle.columns.specs.Columns.{predecessors}
use Rattle.admission.specs.Call.{Call}
use Rattle.links.specs.Links.{latest_time, bad_links}
use Rattle.columns.specs.Marks.{marked, mark_bytes, faulty_among}

-- §7.4 not 21: W times before, W / 8 rounded up bytes of marks, W drifts, W phases (§E4.2), 3W + 2 links, room for W times, and
-- for W letters (§E3.4)
unfoldable pub lengths_are : (w before marks drifts phases links room letter_room : ℕ) → Bool
lengths_are w before marks drifts phases links room letter_room =
    eqb before w && eqb marks (mark_bytes w) && eqb drifts w && eqb phases w && eqb links (3 * w + 2) && eqb room w && eqb letter_room w

-- §7.4 not 21, of what a call is lent
unfoldable pub lengths_right : (w : ℕ) → (before : List ℕ) → Call → Bool
lengths_right w ts x = lengths_are w (length ts) (length x.marks) (length x.drifts) (length x.phases) (length x.links) x.room x.letter_room

-- §7.4 22: bit k is set, and there is no column k
unfoldable pub stray_mark : (w : ℕ) → (marks : List ℕ) → (k : ℕ) → Bool
stray_mark w ms k = leb w k && marked ms k

-- §7.4 23: column c is correct, and its time over 2^40 - 1
unfoldable pub late_time : (before marks : List ℕ) → (c : ℕ) → Bool
late_time ts ms c = not (marked ms c) && ltb latest_time (get_or ts c 0)

-- §7.5 24: the ones among the marks of tile c's predecessors are two or more
unfoldable pub crowded : (w : ℕ) → (marks : List ℕ) → (c : ℕ) → Bool
crowded w ms c = ltb 1 (faulty_among ms (predecessors w c))

-- §7.4 25: the drift of tile c is over the limit; §E4.3 53: its phase is
unfoldable pub over : (limit : ℕ) → (values : List ℕ) → (c : ℕ) → Bool
over most vs c = ltb most (get_or vs c 0)

-- §7.4 the tests of a row, 21 to 26, with 53 before 26 (§E4.3), each wherever in the row it applies
unfoldable pub row_tests : Settings → (before : List ℕ) → Call → List Test
row_tests s ts x =
    Lengths when not (lengths_right s.width ts x)
    ∷ StrayMark when any_below (8 * mark_bytes s.width) (stray_mark s.width x.marks)
    ∷ LateTime when any_below s.width (late_time ts x.marks)
    ∷ Crowded when any_below s.width (crowded s.width x.marks)
    ∷ TileDrift when any_below s.width (over s.drift x.drifts)
    ∷ Phase when any_below s.width (over phase_most x.phases)
    ∷ Link when any_below s.width (bad_links s x.marks x.links)
    ∷ []

-- §7.4 why a row call is turned away, if it is: its settings, or else the first of these tests that applies
unfoldable pub row_cause : Settings → (before : List ℕ) → Call → Option Refusal
row_cause s ts x = or_else (settings_cause s) (first (row_tests s ts x))

-- §7.4 the number under which a row call is turned away, 0 where it is accepted
unfoldable pub row_refusal : Settings → (before : List ℕ) → Call → ℕ
row_refusal s ts x = refused (row_cause s ts x)
