-- Front page: demand 3 at the calls.
pub mod Demand3
