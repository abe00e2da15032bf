-- `cursor::texts::no_zero` meets its contract. The loop keeps: what was found so far, and the bytes that are left, make the answer.
-- Assumes nothing.
use Rattle.cursor.proofs.TextLoops.{more, none}
use Rattle.cursor.proofs.texts.no_zero.Goals as goal

pub loop-x-preserved : goal.loop-x-preserved
loop-x-preserved c = more _ _ c.loop-x.good c.loop-x-test.true c.loop-x.invariant

pub returns : goal.returns
returns c = none _ _ _ c.loop-x-test.false c.loop-x.invariant
