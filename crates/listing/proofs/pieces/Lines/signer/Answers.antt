-- `listing::pieces::Lines::signer` meets its contract.
-- Assumes nothing.
use Rattle.listing.proofs.Putting.{joined}
use Rattle.listing.specs.Listing.{signer_text}
use Rattle.listing.proofs.pieces.Lines.signer.Goals as goal

pub returns : goal.returns
unfolding signer_text
returns c =
    joined (joined (joined c.field.ensures c.field-2.ensures) c.stamp_time.ensures) c.text.ensures
