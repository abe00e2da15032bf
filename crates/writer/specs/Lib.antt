pub mod Views
pub mod FrameCalls
pub mod Promises
