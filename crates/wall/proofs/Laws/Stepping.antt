-- What a step with its text leaves, where all fits and where not. Assumes nothing.
use mathlib.Core.Path.{◌≡◌, refl, sym, ◌∙◌}
use mathlib.Core.Bool.{true, false, true≢false}
use mathlib.Core.List.{List}
use Prim.Native.Nat.{ℕ}
use lib.ListN.{length}
use Rattle.columns.specs.Wrote.{Wrote}
use Rattle.row.specs.Row.{Pulses}
use Rattle.show.specs.Text.{texts_of}
use Rattle.steps.specs.Step.{step_of}
use Rattle.wall.specs.Operation.{fits, went_to, Stepping}
use Rattle.stages.specs.declared.Wall.{Wall}
use Rattle.std.specs.Prelude.{Some, None}

module _ (x : Wall) (part : List ℕ) (row : Pulses) (held : List ℕ) (at : ℕ) where
  pub unfit : fits x row (length held) at ≡ false → Stepping x part row held at None row held
  unfit e =
      record { answered = rw e; row_left = rw e; text = λ t. absurd (true≢false (sym t ∙ e)); kept = λ t. refl }

  pub went : {y : Wall} {end : ℕ} {after : Pulses} {out : List ℕ} → fits x row (length held) at ≡ true → y ≡ (step_of x row part).next →
      Wrote held at (texts_of (step_of x row part).shows) out end → after ≡ (step_of x row part).row →
      Stepping x part row held at (Some (record { wall = y; end = end })) after out
  unfolding went_to
  went e next text is_row =
      let goes = text.goes in
      record {
        answered = rw (e, next, goes);
        row_left = rw e is_row;
        text = λ t. rw (← goes) text;
        kept = λ t. absurd (true≢false (sym e ∙ t));
      }
