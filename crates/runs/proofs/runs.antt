-- All frames of a list taken: runs, and what an assembler holds behind one.
pub mod RunLaws
pub mod HeldLaws
