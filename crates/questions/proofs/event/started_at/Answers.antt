-- `questions::event::started_at` meets its contract.
-- Assumes nothing.
use Rattle.questions.proofs.EventAnswers.{start_read}
use Rattle.questions.proofs.event.started_at.Goals as goal

pub returns : goal.returns
returns c =
    let a = c.args in
    start_read a.s.now a.at _ _ _ _ _ c.requires.1 c.of_word.ensures c.time.ensures c.long.ensures c.end_size.ensures
