-- Answers by lists of tests: what refuses first, and that it is what document 01 says is due (T7, T35, T37).
pub mod Answering
pub mod Due
pub mod EntryReasons
pub mod AnswersDue
pub mod Refusals
