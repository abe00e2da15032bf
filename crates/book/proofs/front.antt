-- Front page: the book as a page of 256 rows.
pub mod Page
