pub mod StepLaws
pub mod Unique
pub mod Once
