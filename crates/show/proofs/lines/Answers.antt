-- `lines` meets its contract. Assumes nothing.
use mathlib.Core.Path.{refl, sym, ◌∙◌, ap}
use Prim.Native.Nat.{ℕ}
use lib.ListN.{length}
use native.Mathlib.Omega.{arith}
use Rattle.settings.proofs.Laws.Settings.{limits}
use Rattle.lines.specs.Row.{row_text, row_room}
use Rattle.columns.proofs.Laws.Wrote.{wrote_none, wrote_as}
use Rattle.row.specs.Row.{pulses}
use Rattle.stages.proofs.Laws.{fit_of}
use Rattle.show.proofs.Laws.{no_lines, row_lines}
use Rattle.show.proofs.lines.Goals as goal

pub returns-then-place-eq0 : goal.returns-then-place-eq0
returns-then-place-eq0 c = let s = c.args in
    wrote_as (wrote_none s.out.now s.at) (sym (no_lines s.place.settings s.marks.now (pulses s.row.now s.letters.now) s.place.row c.if-place-eq0.true))

pub row_lines-requires : goal.row_lines-requires
unfolding row_room
row_lines-requires c = let f = fit_of c.args.place (length c.args.row.now) c.requires.1 in
    let k = limits c.args.place.settings f.pass in record {
      tables = (c.requires.0, omega (arith, f.long, k.width), omega (arith, f.long, k.width), omega (arith, f.row, k.rows));
      marks_len = (c.requires.3, refl, (fit_of _ _ c.requires.2).long ∙ sym f.long, omega (arith, f.long, k.width));
    }

pub returns : goal.returns
returns c = let a = c.args in
    let f = fit_of a.place (length a.row.now) c.requires.1 in
    wrote_as c.row_lines.ensures
    (ap (λ (w : ℕ). row_text w a.place.row a.marks.now a.row.now a.letters.now) f.long
    ∙ sym (row_lines a.place.settings a.marks.now (pulses a.row.now a.letters.now) a.place.row c.if-place-eq0.false))
