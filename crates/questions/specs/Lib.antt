pub mod Views
pub mod Judged
pub mod Sought
pub mod Promises
