-- `show` meets its contract. Assumes nothing.
use mathlib.Core.Path.{◌≡◌, sym, ◌∙◌, ap}
use mathlib.Core.Bool.{true}
use mathlib.Core.List.{List}
use Prim.Native.Nat.{ℕ, ◌+◌, ◌/◌}
use lib.ListN.{length}
use Rattle.columns.specs.Marks.{mark_bytes}
use Rattle.columns.proofs.Laws.Wrote.{wrote_none, wrote_as}
use Rattle.fields.specs.Field.{body}
use Rattle.contents.specs.Contents.{marks_in}
use Rattle.show.specs.Text.{texts_of}
use Rattle.steps.specs.Shown.{row_shown, number_shown, offset_shown}
use Rattle.stages.specs.Fit.{place_fits, wall_fits}
use Rattle.steps.specs.Step.{step_of}
use Rattle.row.specs.Row.{Pulses, pulses}
use Rattle.lines.specs.Line.{refused_line}
use Rattle.settings.specs.Refusal.{number}
use Rattle.settings.proofs.Laws.Refusal.{numbered}
use Rattle.steps.specs.Take.{taken_of}
use Rattle.stages.specs.declared.Place.{Place}
use Rattle.stages.specs.declared.Wall.TheVariants.{Row, End}
use Rattle.stages.proofs.Laws.{Fit, fit_of}
use Rattle.show.proofs.Laws.{taken_err, taken_ok, away_shows, new_shows, over_shows, start_shows, row_shows, row_marks, end_shows}
use Rattle.show.proofs.show.Goals.{In-Ok, In-Err, Start}
use Rattle.show.proofs.show.Goals as goal

-- the row that is shown
abbrev last : Start → Pulses
last s = pulses s.args.row.now s.args.letters.now

-- the refusal is the one that the step shows
refusal : (c : In-Err) → let a = c.args in let xs = (step_of a.wall (pulses a.row.now a.letters.now) a.part.now).shows in
    (number c.in-Err.refused.refusal ≡ number_shown xs) × (c.in-Err.refused.offset ≡ offset_shown xs)
unfolding taken_of
refusal c = taken_err _ _ (sym c.requires.4 ∙ c.in-Err.is)

accepted : (c : In-Ok) →
    number_shown (step_of c.args.wall (pulses c.args.row.now c.args.letters.now) c.args.part.now).shows ≡ 0
unfolding taken_of
accepted c = taken_ok _ _ (sym c.requires.4 ∙ c.in-Ok.is)

-- the wall's place fits its rows
row_fits : (s : Start) {p : Place} → s.args.wall ≡ Row p → (place_fits p (length s.args.row.now) ≡ true) × (place_fits p (length s.args.letters.now) ≡ true)
unfolding wall_fits
row_fits s w = (rw w at s.requires.1, rw w at s.requires.2)

end_fits : (s : Start) {p : Place} → s.args.wall ≡ End p → (place_fits p (length s.args.row.now) ≡ true) × (place_fits p (length s.args.letters.now) ≡ true)
unfolding wall_fits
end_fits s w = (rw w at s.requires.1, rw w at s.requires.2)

marks : (s : Start) {p : Place} {ms : List ℕ} → Fit p (length s.args.row.now) → ms ≡ body ((length s.args.row.now + 7) / 8) s.args.part.now → ms ≡ marks_in p.settings.width s.args.part.now
unfolding marks_in mark_bytes
marks s f e = e ∙ ap (λ (n : ℕ). body ((n + 7) / 8) s.args.part.now) f.long

pub returns-in-Err : goal.returns-in-Err
returns-in-Err c = let a = c.args in
    let r = refusal (goal.at.returns-in-Err c).In-Err in
    let is = c.from-number.ensures ∙ c.number.ensures in
    wrote_as c.refused_line.ensures
    (ap (λ (n : ℕ). refused_line n c.in-Err.refused.offset) (is ∙ r.0)
    ∙ ap (refused_line _) r.1
    ∙ sym (away_shows a.wall (last (goal.at.returns-in-Err c).Start) a.part.now (λ z. numbered c.in-Err.refused.refusal (r.0 ∙ z))))

pub lines-requires : goal.lines-requires
unfolding marks_in mark_bytes
lines-requires c = let a = c.args in
    let g = row_fits (goal.at.lines-requires c).Start c.in-Row.is in
    let f = fit_of _ _ g.0 in
    (c.requires.0, g.0, g.1, ap length (marks (goal.at.lines-requires c).Start f c.body-marks.ensures) ∙ row_marks a.wall (last (goal.at.lines-requires c).Start) a.part.now (accepted (goal.at.lines-requires c).In-Ok) c.in-Row.is ∙ ap mark_bytes (sym f.long), c.requires.3)

pub last_lines-requires : goal.last_lines-requires
last_lines-requires c = let g = end_fits (goal.at.last_lines-requires c).Start c.in-End.is in
    (c.requires.0, g.0, g.1, c.requires.3)

pub returns-in-New : goal.returns-in-New
returns-in-New c = let a = c.args in
    wrote_as (wrote_none a.out.now a.at) (sym (new_shows a.wall (last (goal.at.returns-in-New c).Start) a.part.now (accepted (goal.at.returns-in-New c).In-Ok) c.in-New.is))

pub returns-in-Start : goal.returns-in-Start
returns-in-Start c = let a = c.args in
    wrote_as (wrote_none a.out.now a.at) (sym (start_shows a.wall (last (goal.at.returns-in-Start c).Start) a.part.now (accepted (goal.at.returns-in-Start c).In-Ok) c.in-Start.is))

pub returns-in-Row : goal.returns-in-Row
unfolding marks_in mark_bytes
returns-in-Row c = let a = c.args in
    let p = c.in-Row.place in
    wrote_as c.lines.ensures
    (ap (λ (ms : List ℕ). texts_of (row_shown p.settings p.row ms (last (goal.at.returns-in-Row c).Start))) (marks (goal.at.returns-in-Row c).Start (fit_of _ _ (row_fits (goal.at.returns-in-Row c).Start c.in-Row.is).0) c.body-marks.ensures)
    ∙ sym (row_shows a.wall (last (goal.at.returns-in-Row c).Start) a.part.now (accepted (goal.at.returns-in-Row c).In-Ok) c.in-Row.is))

pub returns-in-End : goal.returns-in-End
returns-in-End c = let a = c.args in
    wrote_as c.last_lines.ensures (sym (end_shows a.wall (last (goal.at.returns-in-End c).Start) a.part.now (accepted (goal.at.returns-in-End c).In-Ok) c.in-End.is))

pub returns-in-Over : goal.returns-in-Over
returns-in-Over c = let a = c.args in
    wrote_as (wrote_none a.out.now a.at) (sym (over_shows a.wall (last (goal.at.returns-in-Over c).Start) a.part.now (accepted (goal.at.returns-in-Over c).In-Ok) c.in-Over.is))
