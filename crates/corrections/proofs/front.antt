-- Front page: many corrections in one call.
pub mod Corrections
