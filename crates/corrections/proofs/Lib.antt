pub mod front
pub mod Relent
pub mod Turns
pub mod SinglyLaws
pub mod MixedLaws
pub mod Unique
