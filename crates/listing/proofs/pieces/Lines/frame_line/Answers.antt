-- `listing::pieces::Lines::frame_line` meets its contract.
-- Assumes nothing.
use native.Mathlib.Omega.{arith}
use Rattle.listing.proofs.Putting.{joined, wider}
use Rattle.listing.specs.Listing.{frame_line}
use Rattle.listing.proofs.pieces.Lines.frame_line.Goals as goal

pub returns : goal.returns
unfolding frame_line
returns c = wider 180 (omega arith) (joined (joined (joined (joined (joined (joined c.kind_start.ensures c.field.ensures) c.text.ensures) c.hex.ensures) c.field-2.ensures) c.field-3.ensures) c.text-2.ensures)
