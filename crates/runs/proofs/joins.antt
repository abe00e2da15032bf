-- A frame's items behind all earlier items of its run.
pub mod Joined
pub mod ListLaws
pub mod PartLaws
pub mod BeginLaws
pub mod OpenLaws
