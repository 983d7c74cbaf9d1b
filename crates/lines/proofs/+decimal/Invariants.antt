-- The measure of the recursion of `decimal` is the number.
use Rattle.lines.proofs.+decimal.Given as goal

abbrev pub decreases-decimal : goal.decreases-decimal
decreases-decimal l = l.n
