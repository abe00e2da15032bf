-- Front pages: what is promised of frames. Each theorem is stated in full and proved by citing one law.
pub mod Figures
pub mod Book
pub mod Questions
pub mod Refusals
pub mod Tree
pub mod Writing
pub mod Demand2
pub mod Stability
