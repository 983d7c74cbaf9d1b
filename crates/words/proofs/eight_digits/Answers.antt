-- `eight_digits` meets its contract. Assumes nothing.
use Prim.Native.Nat.{◌-◌, ◌*◌, ◌/◌, ◌<◌}
use native.Mathlib.Omega.{arith}
use Rattle.tables.specs.Word.{Holds}
use Rattle.tables.proofs.Laws.Pairs.{decimal_pair_small, eight_decimal}
use Rattle.words.proofs.eight_digits.Goals as goal

pub overflow_add-result-3 : goal.overflow_add-result-3
overflow_add-result-3 c = let n = c.args.n in
    let t = c.requires.0 in
    let h = n / 10000 in
    let l = n - h * 10000 in
    let a = h / 100 in
    let b = h - a * 100 in
    let f = l / 100 in
    let d = l - f * 100 in
    let i : a < 100 = omega arith in
    let j : b < 100 = omega arith in
    let k : f < 100 = omega arith in
    let m : d < 100 = omega arith in
    unfold Holds in omega (arith, t.first_digits a i, t.second_digits b j, t.third_digits f k, t.fourth_digits d m, decimal_pair_small a i, decimal_pair_small b j, decimal_pair_small f k, decimal_pair_small d m)

pub overflow_add-result-5 : goal.overflow_add-result-5
overflow_add-result-5 c = let n = c.args.n in
    let t = c.requires.0 in
    let h = n / 10000 in
    let l = n - h * 10000 in
    let a = h / 100 in
    let b = h - a * 100 in
    let f = l / 100 in
    let d = l - f * 100 in
    let i : a < 100 = omega arith in
    let j : b < 100 = omega arith in
    let k : f < 100 = omega arith in
    let m : d < 100 = omega arith in
    unfold Holds in omega (arith, t.first_digits a i, t.second_digits b j, t.third_digits f k, t.fourth_digits d m, decimal_pair_small a i, decimal_pair_small b j, decimal_pair_small f k, decimal_pair_small d m)

pub overflow_add-result-7 : goal.overflow_add-result-7
overflow_add-result-7 c = let n = c.args.n in
    let t = c.requires.0 in
    let h = n / 10000 in
    let l = n - h * 10000 in
    let a = h / 100 in
    let b = h - a * 100 in
    let f = l / 100 in
    let d = l - f * 100 in
    let i : a < 100 = omega arith in
    let j : b < 100 = omega arith in
    let k : f < 100 = omega arith in
    let m : d < 100 = omega arith in
    unfold Holds in omega (arith, t.first_digits a i, t.second_digits b j, t.third_digits f k, t.fourth_digits d m, decimal_pair_small a i, decimal_pair_small b j, decimal_pair_small f k, decimal_pair_small d m)

pub returns : goal.returns
returns c = let n = c.args.n in
    let t = c.requires.0 in
    let h = n / 10000 in
    let l = n - h * 10000 in
    let a = h / 100 in
    let b = h - a * 100 in
    let f = l / 100 in
    let d = l - f * 100 in
    let i : a < 100 = omega arith in
    let j : b < 100 = omega arith in
    let k : f < 100 = omega arith in
    let m : d < 100 = omega arith in
    unfold Holds in omega (arith, t.first_digits a i, t.second_digits b j, t.third_digits f k, t.fourth_digits d m, decimal_pair_small a i, decimal_pair_small b j, decimal_pair_small f k, decimal_pair_small d m, eight_decimal a b f d n i j k m (omega arith))
