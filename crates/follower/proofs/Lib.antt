pub mod front
pub mod LineLaws
pub mod LossLaws
pub mod SenderLaws
pub mod Unique
