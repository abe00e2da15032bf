-- `questions::items::Items::find_histogram` meets its contract.
-- Assumes nothing.
use mathlib.Core.Path.{sym, subst, ◌∙◌}
use Rattle.format.specs.Rules.{Kind}
use Rattle.questions.specs.Sought.{Amid}
use Rattle.questions.proofs.Reading.{amid_of}
use Rattle.questions.proofs.KindTests.{monitor_is, not_monitor}
use Rattle.questions.proofs.CountsAnswers.{of_other}
use Rattle.questions.proofs.items.Items.find_histogram.Goals as goal

pub returns-then-ne : goal.returns-then-ne
returns-then-ne c = let a = c.args.self in of_other _ _ _ _ (amid_of _ a.content _ a.accepted) (not_monitor _ (sym c.ne.ensures ∙ c.if-ne.true))

pub seek_histogram-requires : goal.seek_histogram-requires
seek_histogram-requires c = let a = c.args.self in subst (λ (k : Kind). Amid a.bytes.now k 3) (monitor_is _ (sym c.ne.ensures ∙ c.if-ne.false)) (amid_of _ a.content _ a.accepted)
