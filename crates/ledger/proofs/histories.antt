-- Histories of edits, forward and backward (T29 to T31, request 13).
pub mod Edits
pub mod Holding
pub mod Orders
pub mod Forward
pub mod Backward
pub mod Earlier
pub mod Swapping
