-- What each call promises: its answer, and the whole of what it leaves in the memory lent to it.
-- Assumes nothing.
use Rattle.std.specs.Prelude.{ℕ, ◌≡◌, List}
use Rattle.format.specs.Answers.{Done}
use Rattle.ledger.specs.Formats.{Correction}
use Rattle.ledger.specs.Calls.{open_answer, open_exit, edit_answer, edit_exit, restore_answer, restore_exit}
use Rattle.ledger.specs.VersionTwo.{version_two}
use Rattle.ledger.specs.Versions.{format_in}
use Rattle.ledger.specs.PlaneFrames.{plane_frames}

-- opening a record of the frame f in a buffer: of version 2
pub record Opened (f found : List ℕ) (answer : Done) (exit : List ℕ) : Type 0 where
  pub answered : answer ≡ open_answer plane_frames version_two f found
  pub left : exit ≡ open_exit plane_frames version_two f found

-- an edit of the record in a buffer, as version 2 has it
pub record Edited (found : List ℕ) (c : Correction) (answer : Done) (exit : List ℕ) : Type 0 where
  pub answered : answer ≡ edit_answer plane_frames version_two found c
  pub left : exit ≡ edit_exit plane_frames version_two found c

-- restoring the record b, of the version that it names, to k, into a second buffer
pub record Restored (b : List ℕ) (k : ℕ) (found : List ℕ) (answer : Done) (exit : List ℕ) : Type 0 where
  pub answered : answer ≡ restore_answer plane_frames (format_in b) b k found
  pub left : exit ≡ restore_exit plane_frames (format_in b) b k found
