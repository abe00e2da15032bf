-- `listing::pieces::Lines::end_line` meets its contract.
-- Assumes nothing.
use native.Mathlib.Omega.{arith}
use Rattle.listing.proofs.Putting.{joined, wider}
use Rattle.listing.specs.Listing.{end_line}
use Rattle.listing.proofs.pieces.Lines.end_line.Goals as goal

pub returns : goal.returns
unfolding end_line
returns c = wider 180 (omega arith) (joined c.field.ensures c.text.ensures)
