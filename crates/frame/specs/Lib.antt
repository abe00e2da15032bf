pub mod Views
pub mod Parts
pub mod PartialViews
pub mod Repeats
pub mod Promises
