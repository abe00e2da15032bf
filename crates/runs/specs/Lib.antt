pub mod Assembly
pub mod Runs
pub mod Reasons
pub mod Held
pub mod Marked
pub mod Figures
