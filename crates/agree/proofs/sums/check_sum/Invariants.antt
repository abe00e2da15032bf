-- What is left to sum, from a and b on, gives the whole check sum.
use lib.ListN.{take}
use Rattle.agree.proofs.Laws.{Summing}
use Rattle.agree.proofs.sums.check_sum.Given as goal

abbrev pub invariant-loop-x : goal.invariant-loop-x
invariant-loop-x g l = Summing (g.T.Into.converts) (take l.x-index l.numbers) l.a l.b
