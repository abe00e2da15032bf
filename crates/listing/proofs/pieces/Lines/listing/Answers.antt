-- `listing::pieces::Lines::listing` meets its contract.
-- Assumes nothing.
use native.Mathlib.Omega.{arith}
use Rattle.listing.proofs.Listings.{copied_text, listed_written, listed_short}
use Rattle.listing.proofs.pieces.Lines.listing.Goals as goal

pub slice_bounds-copy-end : goal.slice_bounds-copy-end
slice_bounds-copy-end c = omega (arith, c.all_lines.ensures.few)

pub returns-then-out-n : goal.returns-then-out-n
returns-then-out-n c =
    let p = rw c.requires at c.all_lines.ensures in
    rw c.into.ensures (listed_short _ _ _ p.behind c.if-out-n.true)

pub returns : goal.returns
returns c =
    let p = rw c.requires at c.all_lines.ensures in
    listed_written _ _ _ _ p.behind c.if-out-n.false (copied_text p (omega arith) _ _ c.copy.ensures)
