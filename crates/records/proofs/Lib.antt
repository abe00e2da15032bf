pub mod Scanning
pub mod Storing
pub mod UndoLaws
pub mod RecordLaws
pub mod Unique
