pub mod Follow
pub mod Sender
pub mod Paper
pub mod Promises
