-- One step of an assembler: when it is accepted, and why it is refused.
pub mod LinkLaws
pub mod TakeLaws
