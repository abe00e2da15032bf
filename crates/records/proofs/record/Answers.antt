-- `records::record` meets its contract.
-- Assumes nothing.
use mathlib.Core.Path.{ap, ◌∙◌}
use Rattle.records.specs.Views.{view_record}
use Rattle.records.proofs.RecordLaws.{passed_on, record_told}
use Rattle.records.proofs.record.Goals as goal

pub returns-in_err-judged : goal.returns-in_err-judged
returns-in_err-judged c = ap view_record (passed_on _ _ c.from_residual.ensures.1) ∙ record_told _ _ _ _ c.in_err-judged.ensures

pub returns : goal.returns
returns c = record_told _ _ _ _ c.in_ok-judged.ensures
