pub mod Views
pub mod Promises
pub mod Writes
pub mod Sequences
