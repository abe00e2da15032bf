pub mod Views
pub mod Refusals
pub mod Fields
pub mod Page
pub mod Promises
pub mod Refuses
