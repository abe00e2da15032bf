pub mod front
pub mod answers
pub mod records
pub mod histories
pub mod calls
pub mod plane
