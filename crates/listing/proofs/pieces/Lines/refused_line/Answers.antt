-- `listing::pieces::Lines::refused_line` meets its contract.
-- Assumes nothing.
use native.Mathlib.Omega.{arith}
use Rattle.listing.proofs.Putting.{joined, wider}
use Rattle.listing.specs.Listing.{refused_line}
use Rattle.listing.proofs.pieces.Lines.refused_line.Goals as goal

pub returns : goal.returns
unfolding refused_line
returns c = rw c.number.ensures at (wider 180 (omega arith) (joined (joined c.field.ensures c.field-2.ensures) c.text.ensures))
