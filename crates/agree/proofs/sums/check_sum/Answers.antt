use native.Mathlib.Omega.{arith}
use Rattle.agree.proofs.Laws.{summed_one, summed_all}
use Rattle.agree.proofs.sums.check_sum.Goals as goal

pub loop-x-preserved : goal.loop-x-preserved
loop-x-preserved g c = summed_one _ _ c.loop-x.invariant (omega arith) c.x-item.is c.into-number.ensures c.add-a.ensures c.add-b.ensures

pub returns : goal.returns
returns g c = summed_all _ _ c.loop-x.invariant (omega arith)
