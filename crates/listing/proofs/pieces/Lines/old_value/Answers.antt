-- `listing::pieces::Lines::old_value` meets its contract.
-- Assumes nothing.
use native.Mathlib.Omega.{arith}
use borrow.Author.Tests.{eq-eqb, ne_eqb}
use Rattle.listing.proofs.Putting.{wider}
use Rattle.listing.proofs.pieces.Lines.old_value.Goals as goal

pub returns-then-kind : goal.returns-then-kind
returns-then-kind c =
    let k = c.args.kind in
    rw (eq-eqb k 1 (omega arith)) c.field.ensures

pub returns : goal.returns
returns c = rw (ne_eqb _ 1 c.if-kind.false) (wider 28 (omega arith) c.field-2.ensures)
