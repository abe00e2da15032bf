-- `questions::items::Items::counts` meets its contract.
-- Assumes nothing.
use mathlib.Core.Path.{ap, subst}
use Rattle.questions.specs.Sought.{HistogramSought}
use Rattle.questions.specs.Views.{view_filled}
use Rattle.questions.proofs.Missing.{found, nothing, absent}
use Rattle.questions.proofs.CountsAnswers.{counts_missing, counts_put}
use Rattle.questions.proofs.items.Items.counts.Goals as goal

pub returns-in_err-at : goal.returns-in_err-at
returns-in_err-at c =
    let a = c.args in
    counts_missing _ _ _ _ _ (ap view_filled (absent _ _ _ c.in_err-at.ensures.value c.from_residual.ensures.1))
    (subst (HistogramSought a.self.bytes.now a.wanted.chip a.wanted.channel) (nothing _ _ c.in_err-at.ensures.value) c.find_histogram.ensures)

pub returns : goal.returns
returns c =
    let a = c.args in
    counts_put _ _ _ _ _ _ _ (subst (HistogramSought a.self.bytes.now a.wanted.chip a.wanted.channel) (found _ _ c.in_ok-at.ensures.value) c.find_histogram.ensures) c.clear_counts.ensures c.fill_counts.ensures
