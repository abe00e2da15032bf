-- `records::judge` meets its contract: the header, the frame, then the history.
-- Assumes nothing.
use mathlib.Core.Path.{ap, ◌∙◌}
use Rattle.records.specs.Views.{view_judged}
use Rattle.records.proofs.RecordLaws.{passed_on, judged_refused, judged_history}
use Rattle.records.proofs.judge.Goals as goal

pub returns-in_err-history : goal.returns-in_err-history
returns-in_err-history c = ap view_judged (passed_on _ _ c.from_residual.ensures.1) ∙ judged_refused _ _ _ _ _ c.in_err-history.ensures

pub returns : goal.returns
returns c = judged_history _ _ _ _ _ _ c.in_ok-history.ensures _ c.judge.ensures
