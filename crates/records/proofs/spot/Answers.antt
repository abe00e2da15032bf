-- `records::spot` meets its contract.
-- Assumes nothing.
use Rattle.records.proofs.RecordLaws.{judge_accepted, nothing_stands}
use Rattle.records.proofs.spot.Goals as goal

pub spot_in-requires : goal.spot_in-requires
spot_in-requires c = record { bytes = λ i. (c.type_inv.f i).fits; judged = judge_accepted _ _ c.in-Ok.ensures }

pub returns-in-Err : goal.returns-in-Err
returns-in-Err c = nothing_stands _ _ _ _ c.in-Err.ensures
