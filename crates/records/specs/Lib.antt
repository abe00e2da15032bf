pub mod Views
pub mod Stored
pub mod Sound
pub mod Undoing
pub mod Promises
