-- `questions::event::event_at` meets its contract: the item at the word is a Start or a Continue event, by the word.
-- Assumes nothing.
use mathlib.Core.Path.{sym, ap, subst, ◌∙◌}
use Rattle.format.specs.Rules.{data_kind}
use Rattle.format.specs.Questions.{Opened}
use Rattle.questions.specs.Sought.{Amid}
use Rattle.questions.proofs.EventAnswers.{is_continued, is_started}
use Rattle.questions.proofs.event.event_at.Goals as goal

pub continued_at-requires : goal.continued_at-requires
continued_at-requires c =
    let a = c.args in
    (c.requires.0, subst (λ (o : Opened). Amid a.s.now data_kind o.inside) (is_continued a.s.now a.at _ _ c.word-w.ensures c.is_continued.ensures c.if-is_continued.true) c.requires.1)

pub returns-then-is_continued : goal.returns-then-is_continued
returns-then-is_continued c =
    let a = c.args in
    c.continued_at.ensures ∙ sym (ap (λ (o : Opened). o.event) (is_continued a.s.now a.at _ _ c.word-w.ensures c.is_continued.ensures c.if-is_continued.true))

pub started_at-requires : goal.started_at-requires
started_at-requires c =
    let a = c.args in
    (c.requires.0, c.word-w.ensures, subst (λ (o : Opened). Amid a.s.now data_kind o.inside) (is_started a.s.now a.at _ _ c.word-w.ensures c.is_continued.ensures c.if-is_continued.false) c.requires.1)

pub returns : goal.returns
returns c =
    let a = c.args in
    c.started_at.ensures ∙ sym (ap (λ (o : Opened). o.event) (is_started a.s.now a.at _ _ c.word-w.ensures c.is_continued.ensures c.if-is_continued.false))
