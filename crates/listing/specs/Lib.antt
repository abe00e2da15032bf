pub mod Ascii
pub mod Text
pub mod Listing
pub mod Figures
pub mod Writes
pub mod Views
pub mod Promises
