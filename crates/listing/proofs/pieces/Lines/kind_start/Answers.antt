-- `listing::pieces::Lines::kind_start` meets its contract.
-- Assumes nothing.
use Rattle.listing.proofs.pieces.Lines.kind_start.Goals as goal

pub returns-in-Data : goal.returns-in-Data
returns-in-Data c = rw c.in-Data.is c.text.ensures

pub returns-in-Monitor : goal.returns-in-Monitor
returns-in-Monitor c = rw c.in-Monitor.is c.text-in-Monitor.ensures

pub returns-in-Command : goal.returns-in-Command
returns-in-Command c = rw c.in-Command.is c.text-in-Command.ensures
