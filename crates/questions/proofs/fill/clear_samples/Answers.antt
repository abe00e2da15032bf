-- `questions::fill::clear_samples` meets its contract.
-- Assumes nothing.
use borrow.Author.Rules.{rules}
use Rattle.questions.proofs.Filling.{filled}
use Rattle.questions.proofs.fill.clear_samples.Goals as goal

pub returns : goal.returns
returns c = filled 512 0xFFFF _ _ c.requires (c.fill.ensures.after (search rules))
