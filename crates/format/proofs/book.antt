-- The word book: prefixes, classes and their ranges, fields (T1, T2, T3).
pub mod BookFigures
pub mod PrefixLaws
pub mod BookLaws
pub mod RangeLaws
pub mod PageLaws
pub mod Unassigned
pub mod FieldLaws
pub mod TableLaws
