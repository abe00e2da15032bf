-- Front pages: demand 3 and the figures of records. Each theorem is stated in full and proved by citing one law.
pub mod Demand3
pub mod Figures
pub mod PlaneDemand3
pub mod PlaneFigures
pub mod Versions
