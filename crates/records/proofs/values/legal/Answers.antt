-- `records::values::legal` meets its contract.
-- Assumes nothing.
use mathlib.Core.Path.{ap, ◌∙◌}
use native.Mathlib.Omega.{arith}
use Rattle.records.specs.Views.{view_spot_kind}
use Rattle.records.proofs.RecordLaws.{legal_sample, legal_bin, legal_none}
use Rattle.records.proofs.values.legal.Goals as goal

pub returns-in-Ok-Sample : goal.returns-in-Ok-Sample
returns-in-Ok-Sample c = legal_sample _ _ (c.in-Ok-Sample.ensures ∙ ap view_spot_kind c.in-Ok-Sample.field-0-is)

pub returns-in-Ok-Bin : goal.returns-in-Ok-Bin
returns-in-Ok-Bin c = legal_bin _ _ (c.in-Ok-Bin.ensures ∙ ap view_spot_kind c.in-Ok-Bin.field-0-is) (omega arith)

pub returns-in-Err : goal.returns-in-Err
returns-in-Err c = legal_none _ _ c.in-Err.ensures.0 c.in-Err.ensures.1
