-- `eight_hexadecimal` meets its contract. Assumes nothing.
use Prim.Native.Nat.{◌/◌, ◌%◌, ◌<◌}
use native.Mathlib.Omega.{arith}
use Rattle.tables.specs.Word.{Holds}
use Rattle.tables.proofs.Laws.Pairs.{hexadecimal_pair_small, triple_small, eight_hexadecimal}
use Rattle.words.proofs.eight_hexadecimal.Goals as goal

pub overflow_add-result-3 : goal.overflow_add-result-3
overflow_add-result-3 c = let n = c.args.n in
    let t = c.requires in
    let a = n / 1048576 in
    let b = n / 256 % 4096 in
    let d = n % 256 in
    let i : a < 4096 = omega arith in
    let j : b < 4096 = omega arith in
    let m : d < 256 = omega arith in
    let sa = triple_small a i in
    let sb = triple_small b j in
    let sd = hexadecimal_pair_small d m in
    unfold Holds in omega (arith, t.first_triples a i, t.next_triples b j, t.last_pairs d m, sa, sb, sd)

pub overflow_add-result-5 : goal.overflow_add-result-5
overflow_add-result-5 c = let n = c.args.n in
    let t = c.requires in
    let a = n / 1048576 in
    let b = n / 256 % 4096 in
    let d = n % 256 in
    let i : a < 4096 = omega arith in
    let j : b < 4096 = omega arith in
    let m : d < 256 = omega arith in
    let sa = triple_small a i in
    let sb = triple_small b j in
    let sd = hexadecimal_pair_small d m in
    unfold Holds in omega (arith, t.first_triples a i, t.next_triples b j, t.last_pairs d m, sa, sb, sd)

pub returns : goal.returns
returns c = let n = c.args.n in
    let t = c.requires in
    let a = n / 1048576 in
    let b = n / 256 % 4096 in
    let d = n % 256 in
    let i : a < 4096 = omega arith in
    let j : b < 4096 = omega arith in
    let m : d < 256 = omega arith in
    let sa = triple_small a i in
    let sb = triple_small b j in
    let sd = hexadecimal_pair_small d m in
    unfold Holds in omega (arith, t.first_triples a i, t.next_triples b j, t.last_pairs d m, sa, sb, sd, eight_hexadecimal a b d n i j m (omega arith))
