-- What the list call promises: its answer, and the whole of what it leaves in the buffer.
-- Assumes nothing.
use Rattle.std.specs.Prelude.{ℕ, ◌≡◌, List}
use Rattle.ledger.specs.Formats.{Correction}
use Rattle.ledger.specs.Calls.{edit_answer, edit_exit}
use Rattle.ledger.specs.VersionTwo.{version_two}
use Rattle.ledger.specs.PlaneFrames.{plane_frames}
use Rattle.corrections.specs.Lists.{ListAnswer, at_position, list_answer, list_exit}

-- the correction at position i of a list
pub record CorrectedAt (found : List ℕ) (c : Correction) (i : ℕ) (answer : ListAnswer) (exit : List ℕ) : Type 0 where
  pub answered : answer ≡ at_position i (edit_answer plane_frames version_two found c)
  pub left : exit ≡ edit_exit plane_frames version_two found c

-- a list of corrections of the record in a buffer
pub record CorrectedAll (found : List ℕ) (cs : List Correction) (answer : ListAnswer) (exit : List ℕ) : Type 0 where
  pub answered : answer ≡ list_answer plane_frames version_two found cs
  pub left : exit ≡ list_exit plane_frames version_two found cs
