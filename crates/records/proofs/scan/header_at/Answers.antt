-- `records::scan::header_at` meets its contract.
-- Assumes nothing.
use mathlib.Core.Path.{ap, ◌∙◌}
use Rattle.records.specs.Views.{view_header}
use Rattle.records.proofs.Scanning.{header_shown, header_nothing}
use Rattle.records.proofs.scan.header_at.Goals as goal

pub returns-in_default : goal.returns-in_default
returns-in_default c =
    ap view_header (rw (c.default.ensures.0, c.default.ensures.1.0, c.default.ensures.1.1)) ∙ header_nothing _ _ c.in_default.ensures

pub returns : goal.returns
returns c =
    header_shown _ _ _ _ _ c.header_of.ensures c.in-Some.ensures
