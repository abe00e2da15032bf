pub mod Flat
pub mod Given
pub mod Promises
pub mod FlatTells
