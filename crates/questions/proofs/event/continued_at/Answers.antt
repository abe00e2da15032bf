-- `questions::event::continued_at` meets its contract.
-- Assumes nothing.
use Rattle.questions.proofs.EventAnswers.{continue_read}
use Rattle.questions.proofs.event.continued_at.Goals as goal

pub returns : goal.returns
returns c = let a = c.args in continue_read a.s.now a.at _ _ c.long.ensures c.end_size.ensures
