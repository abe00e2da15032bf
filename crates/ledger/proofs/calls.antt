-- The calls on a record, one by one (T27, T28, T32 to T34).
pub mod Opening
pub mod Editing
pub mod Changing
pub mod Restoring
pub mod Telling
pub mod Writes
