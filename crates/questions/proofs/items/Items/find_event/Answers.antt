-- `questions::items::Items::find_event` meets its contract.
-- Assumes nothing.
use mathlib.Core.Path.{sym, subst, ◌∙◌}
use Rattle.format.specs.Rules.{Kind}
use Rattle.questions.specs.Sought.{Amid}
use Rattle.questions.proofs.Reading.{amid_of}
use Rattle.questions.proofs.KindTests.{data_is, not_data}
use Rattle.questions.proofs.EventAnswers.{no_events}
use Rattle.questions.proofs.items.Items.find_event.Goals as goal

pub returns-then-ne : goal.returns-then-ne
returns-then-ne c = let a = c.args.self in no_events _ _ _ (not_data _ (sym c.ne.ensures ∙ c.if-ne.true)) (amid_of _ a.content _ a.accepted)

pub seek_event-requires : goal.seek_event-requires
seek_event-requires c = let a = c.args.self in subst (λ (k : Kind). Amid a.bytes.now k 3) (data_is _ (sym c.ne.ensures ∙ c.if-ne.false)) (amid_of _ a.content _ a.accepted)
