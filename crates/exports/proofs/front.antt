-- Front page: what a caller of these calls may go by, by the static library (exports_c) too.
pub mod Exports
