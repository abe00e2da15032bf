-- `frame::reading::ending` meets its contract.
-- Assumes nothing.
use Rattle.frame.specs.Views.{ending_of}
use Rattle.frame.proofs.reading.ending.Goals as goal

pub returns : goal.returns
unfolding ending_of
returns c = rw (← c.may_end.ensures, c.if-not-may_end.false, c.word.ensures)

pub returns-then-not-may_end : goal.returns-then-not-may_end
unfolding ending_of
returns-then-not-may_end c = rw (← c.may_end.ensures, c.if-not-may_end.true, c.at.ensures)
