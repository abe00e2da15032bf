-- Bytes, words and texts; items written and read back (T3, T4).
pub mod WordLaws
pub mod StoringLaws
pub mod TextLaws
pub mod ItemLaws
pub mod WrittenLaws
pub mod PartLaws
