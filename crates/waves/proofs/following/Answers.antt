-- `following` meets its contract. Assumes nothing.
use Rattle.std.proofs.Common.{suc, ◌<◌, arith, add-one}
use Rattle.std.proofs.Math.Nat.{mod_self, mod-eq_of_lt}
use Rattle.settings.proofs.Laws.Cases.{by_equal}
use Rattle.waves.proofs.Laws.State.{after_last, after_inner}
use Rattle.waves.proofs.following.Goals as goal

pub returns : goal.returns
returns c = let a = c.args in
    by_equal (suc a.place) a.n
    (λ e. rw (add-one, after_last a.place a.n e, e, mod_self a.n))
    (λ k. let below : suc a.place < a.n = omega arith in rw (add-one, after_inner a.place a.n k, mod-eq_of_lt below))
