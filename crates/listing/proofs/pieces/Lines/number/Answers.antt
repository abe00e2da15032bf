-- `listing::pieces::Lines::number` meets its contract.
-- Assumes nothing.
use mathlib.Core.Path.{ap, ◌∙◌}
use lib.ListN.{length}
use native.Mathlib.Omega.{arith}
use Rattle.listing.proofs.Decimals.{twenty}
use Rattle.listing.proofs.Putting.{decimal_put}
use Rattle.listing.proofs.pieces.Lines.number.Goals as goal

pub text-requires : goal.text-requires
text-requires c = omega (arith, twenty _ c.ranges.n.fits, ap length (c.as_bytes.ensures.value ∙ c.format.ensures.text))

pub returns : goal.returns
returns c = decimal_put _ _ c.ranges.n.fits (c.as_bytes.ensures.value ∙ c.format.ensures.text) c.text.ensures
