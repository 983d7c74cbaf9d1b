-- `head::Head::of` meets its contract. Assumes nothing.
use mathlib.Core.Path.{refl}
use Prim.Native.Nat.{◌+◌, ◌*◌}
use native.Mathlib.Omega.{arith}
use Rattle.tables.proofs.Laws.Digits.{spaced_most, word_small}
use Rattle.words.proofs.Laws.Head.{head_bytes}
use Rattle.words.proofs.head.Head.of.Goals as goal

pub overflow_mul-result : goal.overflow_mul-result
overflow_mul-result c = omega (arith, c.short.ensures, word_small c.args.row (omega arith))

pub overflow_add-result : goal.overflow_add-result
overflow_add-result c = omega (arith, c.short.ensures, word_small c.args.row (omega arith))

pub overflow_mul-result-2 : goal.overflow_mul-result-2
overflow_mul-result-2 c = omega (arith, c.short.ensures, word_small c.args.row (omega arith))

pub overflow_add-result-2 : goal.overflow_add-result-2
overflow_add-result-2 c = omega (arith, c.short.ensures, word_small c.args.row (omega arith))

pub overflow_add-result-3 : goal.overflow_add-result-3
overflow_add-result-3 c = omega (arith, c.short_length.ensures, spaced_most c.args.row (omega arith))

pub returns : goal.returns
returns c = let a = c.args in
    let w = c.short.result in
    let n = c.short_length.result in (
      head_bytes a.letter a.row w n (a.letter + 256 * (32 + 256 * w)) (2 + n) (omega arith) c.short.ensures c.short_length.ensures refl refl,
      omega (arith, c.short_length.ensures, spaced_most a.row (omega arith)),
    )
