-- For a reader that goes by a state: its turns, its tests in order, where an item stands.
pub mod StateLaws
pub mod StepLaws
pub mod TurnLaws
pub mod CursorLaws
pub mod HeadTests
pub mod JudgeLaws
pub mod Placed
pub mod TextPlaced
pub mod PartialJudging
