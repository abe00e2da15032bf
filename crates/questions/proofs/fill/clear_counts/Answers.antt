-- `questions::fill::clear_counts` meets its contract.
-- Assumes nothing.
use borrow.Author.Rules.{rules}
use Rattle.questions.proofs.Filling.{filled}
use Rattle.questions.proofs.fill.clear_counts.Goals as goal

pub returns : goal.returns
returns c = filled 4096 0 _ _ c.requires (c.fill.ensures.after (search rules))
