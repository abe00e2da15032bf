-- What the functions of this crate leave in the memory lent to them, and what the private ones are told.
-- Assumes nothing.
use Rattle.std.specs.Prelude.{ℕ, ◌+◌, ◌≤◌, ◌≡◌, List, length}
use Rattle.std.proofs.lemmas.List.Edits.{sets}
use Rattle.format.specs.Answers.{accepted}
use Rattle.ledger.specs.Records.{length_in, count_in, record_verdict}
use Rattle.ledger.specs.Versions.{format_in}
use Rattle.ledger.specs.PlaneFrames.{plane_frames}

-- a text of at most so many bytes was put at byte `at`; the byte behind it is `next`
pub record Put (most : ℕ) (found : List ℕ) (at : ℕ) (text left : List ℕ) (next : ℕ) : Type 0 where
  pub stored : left ≡ sets found at text
  pub behind : next ≡ at + length text
  pub few : next ≤ at + most

-- a record that is accepted, with the frame length and the entry count that its header has
pub record Known (b : List ℕ) (size count : ℕ) : Type 0 where
  pub judged : record_verdict plane_frames (format_in b) b ≡ accepted tt
  pub length : size ≡ length_in b
  pub entries : count ≡ count_in b
