-- `listing::pieces::Lines::entry_line` meets its contract.
-- Assumes nothing.
use native.Mathlib.Omega.{arith}
use Rattle.listing.proofs.Putting.{joined, wider}
use Rattle.listing.proofs.Listings.{entry_text, retold}
use Rattle.listing.proofs.pieces.Lines.entry_line.Goals as goal

pub returns : goal.returns
returns c =
    wider 180 (omega arith) (retold (entry_text _ _ _ _ c.entry_of-x.ensures) (joined c.change.ensures c.signer.ensures))
