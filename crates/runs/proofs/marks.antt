-- The step by what reading a frame tells of it.
pub mod StandingLaws
pub mod LeadLaws
pub mod MarkedLaws
pub mod TakeByLaws
