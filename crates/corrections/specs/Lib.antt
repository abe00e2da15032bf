pub mod Lists
pub mod Views
pub mod Promises
pub mod Singly
