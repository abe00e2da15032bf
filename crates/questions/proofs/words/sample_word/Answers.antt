-- `questions::words::sample_word` meets its contract.
-- Assumes nothing.
use Prim.Native.Nat.{ℕ}
use mathlib.Core.Path.{ap, ◌∙◌}
use mathlib.Core.List.{List}
use Rattle.format.specs.Questions.{sample_word_at}
use Rattle.questions.specs.Views.{view_word}
use Rattle.questions.proofs.Missing.{passed}
use Rattle.questions.proofs.Reading.{accepted_of}
use Rattle.questions.proofs.WordAnswers.{told, sample_stopped, sample_answered}
use Rattle.questions.proofs.words.sample_word.Goals as goal

pub returns-in_err-items : goal.returns-in_err-items
returns-in_err-items c = ap view_word (passed _ _ c.from_residual.ensures.1) ∙ sample_stopped _ _ _ _ _ _ _ c.in_err-items.ensures

pub returns : goal.returns
returns c =
    let a = c.args in let x = c.in_ok-items.items in
    sample_answered _ x.content _ (accepted_of _ _ x.accepted) _ _ _ _ _ (told _ _ _ c.into.ensures c.ok_or.ensures.value ∙ c.find_sample-sample.ensures)
    ∙ ap (λ (s : List ℕ). sample_word_at s a.e a.chip a.channel a.time) c.in_ok-items.ensures
