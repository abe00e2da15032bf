-- `questions::items::Items::find_sample` meets its contract.
-- Assumes nothing.
use Rattle.questions.proofs.WordAnswers.{sample_behind}
use Rattle.questions.proofs.items.Items.find_sample.Goals as goal

pub returns : goal.returns
returns c = sample_behind _ _ _ _ _ _ c.in_ok-at.ensures _ c.seek_sample.ensures
