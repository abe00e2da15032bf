-- `listing::pieces::Lines::text` meets its contract.
-- Assumes nothing.
use native.Mathlib.Omega.{arith}
use Rattle.listing.proofs.Putting.{copied}
use Rattle.listing.proofs.pieces.Lines.text.Goals as goal

pub returns : goal.returns
returns c = copied _ _ _ _ _ (omega arith) c.copy.ensures (omega arith)
