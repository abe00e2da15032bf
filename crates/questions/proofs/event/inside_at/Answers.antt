-- `questions::event::inside_at` meets its contract.
-- Assumes nothing.
use mathlib.Core.Path.{sym, ap}
use Rattle.format.specs.Questions.{Opened}
use Rattle.questions.proofs.EventAnswers.{is_continued, is_started}
use Rattle.questions.proofs.event.inside_at.Goals as goal

pub returns-then-is_continued : goal.returns-then-is_continued
returns-then-is_continued c =
    let a = c.args in
    sym (ap (λ (o : Opened). o.inside) (is_continued a.s.now a.at _ _ c.word-w.ensures c.is_continued.ensures c.if-is_continued.true))

pub returns : goal.returns
returns c =
    let a = c.args in
    sym (ap (λ (o : Opened). o.inside) (is_started a.s.now a.at _ _ c.word-w.ensures c.is_continued.ensures c.if-is_continued.false))
