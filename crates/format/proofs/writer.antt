-- Partial frames and the writer's calls (T15 to T20, T33 to T35).
pub mod PartialLaws
pub mod PartialRefusals
pub mod JoinLaws
pub mod WriterLaws
pub mod StoreLaws
pub mod WriterSteps
pub mod WriterNumbers
pub mod Completeness
pub mod HandingLaws
pub mod NoDeadEnd
pub mod PutSteps
