-- `frame::repeats::repeats_at` meets its contract.
-- Assumes nothing.
use Rattle.frame.proofs.Repeating.{ran_none}
use Rattle.frame.proofs.repeats.repeats_at.Goals as goal

pub returns-in-AfterSample : goal.returns-in-AfterSample
returns-in-AfterSample c = rw c.in-AfterSample.is (c.repeated_samples.ensures _ _ _)

pub returns-in-Inside : goal.returns-in-Inside
returns-in-Inside c = rw c.in-Inside.is (c.repeated_hits.ensures _ _)

pub returns-in-Headed : goal.returns-in-Headed
returns-in-Headed c = rw c.in-Headed.is (c.repeated_bins.ensures _ _ _)

pub returns-in_default : goal.returns-in_default
returns-in_default c = ran_none _ _ _ _ _ _ _ _ _
