pub mod Cases
pub mod Sums
