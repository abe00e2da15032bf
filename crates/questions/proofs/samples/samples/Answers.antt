-- `questions::samples::samples` meets its contract.
-- Assumes nothing.
use Prim.Native.Nat.{ℕ}
use mathlib.Core.Path.{ap, subst}
use mathlib.Core.List.{List}
use native.Mathlib.Omega.{arith}
use Rattle.book.specs.Views.{refusal}
use Rattle.format.specs.Questions.{Sampled}
use Rattle.questions.specs.Views.{view_filled}
use Rattle.questions.proofs.Missing.{passed}
use Rattle.questions.proofs.Reading.{accepted_of}
use Rattle.questions.proofs.SamplesAnswers.{samples_stopped, samples_short, samples_answered}
use Rattle.questions.proofs.samples.samples.Goals as goal

pub returns-in_err-items : goal.returns-in_err-items
returns-in_err-items c = samples_stopped _ _ _ _ _ _ _ _ (ap view_filled (passed _ _ c.from_residual.ensures.1)) c.in_err-items.ensures

pub returns-then-out-lt-SAMPLES : goal.returns-then-out-lt-SAMPLES
returns-then-out-lt-SAMPLES c =
    let a = c.args in let x = c.in_ok-items.items in
    subst (λ (s : List ℕ). Sampled s a.e a.chip a.channel a.out.now (refusal c.into.result) a.out.now) c.in_ok-items.ensures
    (samples_short _ _ _ _ _ _ (accepted_of _ _ x.accepted) (omega arith) _ (ap refusal c.into.ensures))

pub returns : goal.returns
returns c =
    let a = c.args in let x = c.in_ok-items.items in
    subst (λ (s : List ℕ). Sampled s a.e a.chip a.channel a.out.now (view_filled c.samples.result) c.samples.new.out) c.in_ok-items.ensures
    (samples_answered _ _ _ _ _ _ (accepted_of _ _ x.accepted) x.content (omega arith) _ _ c.samples.ensures)
