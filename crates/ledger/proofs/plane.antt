-- The frames of document 01 and the entries of both versions as a lawful book and lawful formats.
pub mod StampLaws
pub mod VersionLaws
pub mod PlaneFrames
pub mod OneJudge
pub mod PlaneEdits
