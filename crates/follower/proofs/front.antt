-- Front page: what is promised of sequence numbers.
pub mod Sequence
