-- The proofs of what specs/Promises.antt and specs/Finding.antt state. Assumes nothing.
use mathlib.Core.List.{List}
use Prim.Native.Nat.{ℕ}
use Rattle.steps.specs.Shown.{Shown}
use Rattle.file.specs.File.{shown}
use Rattle.file.specs.Promises.{SeamsHold, Every, no_more, also, OthersRefused, SeamsAnswered}
use Rattle.file.proofs.Promises.{others_refused, seams_answered}
use Rattle.found.specs.Promises.{FoundFirst, NoKept, NotLate, NeverLate}
use Rattle.found.specs.Finding.{RefusalFirst}
use Rattle.found.proofs.Laws.First.{firsts, quiet_number}
use Rattle.found.proofs.Laws.Late.{not_late}
use Rattle.found.proofs.Laws.Finding.{told_away, told_on}

pub found_first : FoundFirst
unfolding FoundFirst
found_first n xs = let f = firsts n xs in (f.wides, f.refusals, f.nothing)

pub no_kept : NoKept
unfolding NoKept OthersRefused
no_kept n file e = let q = (firsts n (shown file)).nothing e in (others_refused file (quiet_number n q), q)

every : (n : ℕ) {xs : List Shown} → Every SeamsHold xs → Every (NotLate n) xs
every n no_more = no_more
every n (also h hs) = also (not_late n _ h) (every n hs)

pub never_late : NeverLate
unfolding NeverLate SeamsAnswered
never_late n file = every n (seams_answered file)

pub refusal_first : RefusalFirst
unfolding RefusalFirst
refusal_first n x m ts bs = (told_away n x m ts bs, told_on n x m ts bs)
