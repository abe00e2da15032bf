-- `questions::event::event` meets its contract.
-- Assumes nothing.
use Prim.Native.Nat.{ℕ}
use mathlib.Core.Path.{ap, ◌∙◌}
use mathlib.Core.List.{List}
use Rattle.format.specs.Questions.{event_at}
use Rattle.questions.specs.Views.{view_event}
use Rattle.questions.proofs.Missing.{passed}
use Rattle.questions.proofs.Reading.{accepted_of}
use Rattle.questions.proofs.EventAnswers.{event_stopped, event_answered}
use Rattle.questions.proofs.event.event.Goals as goal

pub returns-in_err-items : goal.returns-in_err-items
returns-in_err-items c = ap view_event (passed _ _ c.from_residual.ensures.1) ∙ event_stopped _ _ _ _ c.in_err-items.ensures

pub returns : goal.returns
returns c =
    let x = c.in_ok-items.items in
    event_answered _ x.content _ _ _ (accepted_of _ _ x.accepted) c.event.ensures ∙ ap (λ (s : List ℕ). event_at s c.args.e) c.in_ok-items.ensures
