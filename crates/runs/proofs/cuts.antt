-- The items of a run glued, and cut at each Start event.
pub mod FormLaws
pub mod EventLaws
pub mod CutLaws
pub mod GlueLaws
