-- What the questions answer (T10 to T14, T41).
pub mod ItemQuestions
pub mod EventQuestions
pub mod MarkLaws
pub mod FillLaws
pub mod StandLaws
pub mod FindLaws
pub mod FillQuestions
pub mod WordFinds
pub mod WordQuestions
