-- `questions::items::Items::samples` meets its contract.
-- Assumes nothing.
use mathlib.Core.Path.{ap, subst}
use Rattle.questions.specs.Sought.{SamplesSought}
use Rattle.questions.specs.Views.{view_filled}
use Rattle.questions.proofs.Missing.{found, nothing, absent}
use Rattle.questions.proofs.SamplesAnswers.{samples_missing, samples_put}
use Rattle.questions.proofs.items.Items.samples.Goals as goal

pub returns-in_err-at : goal.returns-in_err-at
returns-in_err-at c =
    let a = c.args in
    samples_missing _ _ _ _ _ _ (ap view_filled (absent _ _ _ c.in_err-at.ensures.value c.from_residual.ensures.1))
    (subst (SamplesSought a.self.bytes.now a.e a.wanted.chip a.wanted.channel) (nothing _ _ c.in_err-at.ensures.value) c.find_channel.ensures)

pub returns : goal.returns
returns c =
    let a = c.args in
    samples_put _ _ _ _ _ _ _ _ (subst (SamplesSought a.self.bytes.now a.e a.wanted.chip a.wanted.channel) (found _ _ c.in_ok-at.ensures.value) c.find_channel.ensures) c.clear_samples.ensures c.fill_samples.ensures
