-- `unheard` meets its contract: own, and two neighbours or three. Assumes nothing.
use mir.Val.{bool_byte}
use Rattle.std.proofs.Common.{◌≡◌, refl, sym, ℕ, ◌+◌, Bool, true, false, arith, cond, eqb}
use Rattle.std.proofs.lemmas.Bool.{ne_eqb}
use Rattle.rule.specs.Stamp.{heard, silent, silence, stamp_of, unheard_of}
use Rattle.senders.specs.Senders.{code_at, stamp_at}
use Rattle.senders.proofs.Laws.Senders.{fit_is, unheard_two, unheard_three}
use Rattle.senders.proofs.Senders.unheard.Goals.{then-self-eq3, else-self-eq3}
use Rattle.senders.proofs.Senders.unheard.Goals as goal

-- a comparison with silence, as a number
one_is : (v : ℕ) → unheard_of (stamp_of v) ≡ bool_byte (eqb v silence)
unfolding unheard_of stamp_of
one_is v = by (eqb v silence)
  where
    by : (b : Bool) → unheard_of (cond b silent (heard v)) ≡ bool_byte b
    by true = refl
    by false = refl

pub returns : goal.returns
unfolding stamp_at code_at
returns c = let f = fit_is c.args.self c.requires in
    rw (c.from.ensures, c.from-2.ensures, c.from-3.ensures, c.from-4.ensures)
    (elim c.if-self-eq3.branch [
      | then-self-eq3 w ↦ rw (unheard_three c.args.self w.if-self-eq3.true, w.third-is) (simp one_is)
      | else-self-eq3 w ↦ rw (unheard_two c.args.self (omega (arith, f.least, f.most)), w.third-is, ne_eqb _ _ w.if-self-eq3.false) (simp one_is (omega arith))
    ])
