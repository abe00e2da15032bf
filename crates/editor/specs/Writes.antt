-- What holds where the private functions of this crate write: they are called only after all tests.
-- Assumes nothing.
use Rattle.std.specs.Prelude.{ℕ, ◌≡◌, List}
use Rattle.std.proofs.Math.Option.{some}
use Rattle.format.specs.Answers.{accepted}
use Rattle.format.specs.Spots.{Header}
use Rattle.ledger.specs.Formats as formats
use Rattle.ledger.specs.Records.{length_in, count_in, total_in, frame_in, record_verdict}
use Rattle.ledger.specs.Calls.{Summary, edit_answer}
use Rattle.ledger.specs.VersionTwo.{version_two}
use Rattle.ledger.specs.PlaneFrames.{plane_frames}

-- what was judged of a record in a format: it is accepted, and these are its lengths and its entry count
pub record Known (F : formats.Format) (b : List ℕ) (x : Summary) : Type 0 where
  pub judged : record_verdict plane_frames F b ≡ accepted tt
  pub length : x.length ≡ length_in b
  pub count : x.count ≡ count_in b
  pub total : x.total ≡ total_in F b

-- at word w of the record's frame stands an item of that kind, which holds that value
pub record Holds (b : List ℕ) (w kind value : ℕ) : Type 0 where
  pub header : Header
  pub stands : plane_frames.spot (frame_in b) w ≡ some (record { kind = kind; value = value; header = header })

-- an edit that was accepted, and the item that it changes
pub record Editable (b : List ℕ) (x : Summary) (c : formats.Correction) (kind value : ℕ) : Type 0 where
  pub known : Known version_two b x
  pub accepted : edit_answer plane_frames version_two b c ≡ accepted tt
  pub holds : Holds b c.word kind value
