pub mod TextLoops
pub mod Shows
pub mod Unique
pub mod Once
