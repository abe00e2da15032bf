-- Front page: demand 2 at the calls.
pub mod Demand2
