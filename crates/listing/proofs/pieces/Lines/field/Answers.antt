-- `listing::pieces::Lines::field` meets its contract.
-- Assumes nothing.
use Rattle.listing.proofs.Putting.{joined}
use Rattle.listing.proofs.pieces.Lines.field.Goals as goal

pub returns : goal.returns
returns c = joined c.text.ensures c.number.ensures
