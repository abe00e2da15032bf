-- Front pages: what is promised of runs. Each theorem is stated in full and proved by citing one law.
pub mod Figures
pub mod Runs
