-- `of` meets its contract: the whole gap fits, its cast loses nothing, and one product with one half is exact. Assumes nothing.
use mathlib.Core.Path.{◌≡◌, refl}
use mathlib.Core.Bool.{false}
use Prim.Native.Nat.{ℕ}
use native.Mathlib.Omega.{arith}
use lib.IntN.{pos, ◌-ℤ◌}
use mir.Syntax.{w64}
use mir.Val.{SFits, to_z, of_z}
use mir.ValLaws.{to_z_pos, to_z-of_z}
use Rattle.rule.proofs.Laws.Signed.{minus_fits}
use Rattle.seam.proofs.Laws.{halved, cast_whole}
use Rattle.waves.specs.Reading.{half_gap}
use Rattle.waves.specs.State.{no_gap, signed, level}
use Rattle.waves.specs.Ends.{half_gap_at}
use Rattle.waves.proofs.Laws.Ends.{gap_word, signed_small}
use Rattle.waves.proofs.half_gap.HalfGap.of.Goals as goal

module _ (x : ℕ) (n : no_gap x ≡ false) where
  gap_fits : SFits w64 (to_z w64 x -ℤ pos level)
  gap_fits = let i = gap_word x n in rw (to_z_pos w64 x (omega arith)) (minus_fits x level (omega arith) (omega arith))

  gap_read : to_z w64 (of_z w64 (to_z w64 x -ℤ pos level)) ≡ signed x
  unfolding signed
  gap_read =
      let i = gap_word x n in
      rw (to_z-of_z w64 (to_z w64 x -ℤ pos level) gap_fits, to_z_pos w64 x (omega arith))

pub overflow_cast-gap : goal.overflow_cast-gap
overflow_cast-gap c = let i = gap_word c.args.word c.requires in record { sfits = omega arith }

pub overflow_sub-gap : goal.overflow_sub-gap
overflow_sub-gap c = gap_fits c.args.word c.requires

pub int_to_float-whole_gap : goal.int_to_float-whole_gap
int_to_float-whole_gap c = rw (gap_read c.args.word c.requires) (cast_whole (signed c.args.word) (signed_small c.args.word c.requires))

pub returns : goal.returns
unfolding half_gap_at half_gap
returns c = rw (gap_read c.args.word c.requires, halved (signed c.args.word) (signed_small c.args.word c.requires)) refl
