pub mod front
pub mod joins
pub mod cuts
pub mod steps
pub mod runs
pub mod marks
