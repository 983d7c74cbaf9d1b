-- No two columns passed are wider apart, nor are the ends.
use Rattle.reach.proofs.Laws.Gap.{Gapped}
use Rattle.reach.proofs.widest.Given as goal

abbrev pub invariant-loop-c : goal.invariant-loop-c
invariant-loop-c l = Gapped l.row l.most l.c
