-- `listing::pieces::Lines::hex` meets its contract.
-- Assumes nothing.
use Rattle.listing.specs.Text.{hex}
use Rattle.listing.proofs.pieces.Lines.hex.Goals as goal

pub returns : goal.returns
unfolding hex
returns c = rw (c.hex_digit-a.ensures, c.hex_digit-b.ensures, c.hex_digit-c.ensures, c.hex_digit-d.ensures) at c.text.ensures
