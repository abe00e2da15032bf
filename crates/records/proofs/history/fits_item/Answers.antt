-- `records::history::fits_item` meets its contract.
-- Assumes nothing.
use mathlib.Core.Path.{sym, ◌∙◌}
use Rattle.records.specs.Views.{as_entry}
use Rattle.records.proofs.UndoLaws.{kind_number, other_kind, other_value, old_left}
use Rattle.records.proofs.history.fits_item.Goals as goal

pub returns-then-kind-e : goal.returns-then-kind-e
returns-then-kind-e c = other_kind (as_entry c.args.e) _ _ (λ q. c.if-kind-e.true (kind_number c.args.kind ∙ q))

pub returns-then-value-e : goal.returns-then-value-e
returns-then-value-e c =
    other_value (as_entry c.args.e) _ _ (sym (kind_number c.args.kind) ∙ c.if-kind-e.false) c.if-value-e.true

pub returns : goal.returns
returns c =
    old_left (as_entry c.args.e) _ _ (sym (kind_number c.args.kind) ∙ c.if-kind-e.false) c.if-value-e.false _ c.legal.ensures
