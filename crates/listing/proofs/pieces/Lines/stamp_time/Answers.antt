-- `listing::pieces::Lines::stamp_time` meets its contract.
-- Assumes nothing.
use Rattle.listing.proofs.Listings.{no_time, time_there, none_written, retold}
use Rattle.listing.proofs.pieces.Lines.stamp_time.Goals as goal

pub returns-in_default : goal.returns-in_default
returns-in_default c = rw c.in_default.is (retold no_time (none_written _ _ 24))

pub returns-in-Some : goal.returns-in-Some
returns-in-Some c =
    rw c.in-Some.is (retold (time_there _ _) c.field.ensures)
