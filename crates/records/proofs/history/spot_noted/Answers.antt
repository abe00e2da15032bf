-- `records::history::spot_noted` meets its contract.
-- Assumes nothing.
use native.Mathlib.Omega.{arith}
use mathlib.Core.Path.{ap, ◌∙◌}
use Rattle.records.specs.Views.{view_spot}
use Rattle.records.proofs.UndoLaws.{none_noted, none_stands, spot_told}
use Rattle.records.proofs.history.spot_noted.Goals as goal

pub returns-then-head-eq-NONE : goal.returns-then-head-eq-NONE
returns-then-head-eq-NONE c = none_noted c.args.map.now c.args.f.now c.requires _ (omega (arith, c.head_at-head.ensures))

pub returns-in_err-found : goal.returns-in_err-found
returns-in_err-found c = ap view_spot c.from_residual.ensures ∙ none_stands c.args.map.now c.args.f.now c.requires _ c.in_err-found.ensures

pub returns : goal.returns
returns c =
    spot_told c.args.map.now c.args.f.now c.requires _ (omega (arith, c.head_at-head.ensures)) _ _ c.in_ok-found.ensures _ c.head_at-head.ensures _ c.header_at-header.ensures _ c.spot_of.ensures
