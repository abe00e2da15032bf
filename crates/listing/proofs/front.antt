-- Front pages: what a listing prints, and that it hides nothing.
pub mod Figures
pub mod NothingHidden
