-- The search range from a wall on, step by step. Assumes nothing.
use mathlib.Core.Path.{refl, ◌∙◌, ap}
use mathlib.Core.List.{List, [], ◌++◌}
use lib.ListN.{drop}
use Rattle.stages.specs.Fit.{due_size}
use Rattle.steps.proofs.Laws.Answer.{times_same}
use Rattle.telling.specs.Telling.{telling}
use Rattle.range.proofs.Laws.File.{from, part_told, one_step}
use Rattle.asked.specs.Asked.{told_of}
use Rattle.asked.specs.declared.Asked.TheVariants as asked
use Rattle.asked.proofs.Laws.Onward.{Tale}
use Prim.Native.Nat.{ℕ}

unfoldable pub range_tale : (rows : List ℕ) → Tale (told_of asked.Range rows)
unfolding told_of
range_tale rows =
    record {
      from = λ x m r bs. from rows x m r.times bs;
      goes = λ x m r bs i.
          one_step rows x m r.times bs i
          ∙ (let t = telling rows x m r.times bs in
          ap (λ (l : List ℕ). t.text ++ from rows t.wall t.kept l (drop (due_size x) bs)) (times_same x r.times bs [] r.letters));
      part = λ x m r bs. part_told rows x m r.times bs;
      start = λ p m us vs bs. refl;
      over = λ m r bs. refl;
    }
