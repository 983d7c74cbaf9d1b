-- `take_in` meets its contract. Assumes nothing.
use Prim.Native.Nat.{◌≤◌, ◌-◌}
use native.Mathlib.Omega.{arith}
use borrow.Rule.Slice.PartMut.{same_len_mid, take_put}
use lib.ListN.{length, length-take, length-drop}
use Rattle.window.proofs.Laws.Window.{read_behind}
use Rattle.window.proofs.take_in.Goals as goal

pub returns : goal.returns
returns g c = let args = c.args in
    let a = args.window.end in
    let k = length args.input.now - a in
    let size = same_len_mid a k args.input.now c.read_some.new.room c.read_some.auto.room in
    let long = simp (length-take, length-drop) at c.read_some.auto.room in
    let few : c.in_ok-n.n ≤ length c.read_some.new.room = c.in_ok-n.ensures.0 in
    let ordered = c.requires.0 in
    let room : args.window.end ≤ length args.input.now = omega arith in
    read_behind args.window _ _ c.in_ok-n.n ordered (rw size (omega (arith, few, long, room))) (take_put a k args.input.now c.read_some.new.room room)
