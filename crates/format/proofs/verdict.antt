-- The verdict on a frame: acceptance and refusals, both ways (T5 to T9, T37).
pub mod WalkLaws
pub mod HeadLaws
pub mod Acceptance
pub mod FaultLaws
pub mod WalkFaults
pub mod RefusalLaws
