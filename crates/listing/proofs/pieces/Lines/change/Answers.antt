-- `listing::pieces::Lines::change` meets its contract.
-- Assumes nothing.
use Rattle.listing.proofs.Putting.{joined}
use Rattle.listing.specs.Listing.{change_text}
use Rattle.listing.proofs.pieces.Lines.change.Goals as goal

pub returns : goal.returns
unfolding change_text
returns c =
    joined (joined (joined c.field.ensures c.field-2.ensures) c.old_value.ensures) c.field-3.ensures
