-- `agree::cases::at` meets its contract.
-- Assumes nothing.
use Rattle.agree.proofs.cases.at.Goals as goal

pub returns : goal.returns
returns c =
    record {
      low = c.long-low.result;
      high = c.long-high.result;
      low_there = c.long-low.ensures;
      high_there = c.long-high.ensures;
      whole = c.number.ensures;
    }
