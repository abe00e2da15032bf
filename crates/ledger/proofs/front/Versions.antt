-- Two versions of the record and one judge (document 02, request 3): "Version 1 records are still read, restored and listed, not edited." A buffer is
-- judged, restored and listed by the format that its version word says, `format_in b`; opening and edits are version 2's. Assumes nothing.
use Prim.Native.Nat.{ℕ}
use mathlib.Core.Path.{◌≡◌}
use mathlib.Core.Logic.{◌↔◌, ◌⊎◌}
use mathlib.Core.List.{List}
use Rattle.format.specs.Words.{Bytes, word_at}
use Rattle.format.specs.Answers.{accepted, refused}
use Rattle.ledger.specs.Formats.{Correction}
use Rattle.ledger.specs.Records.{record_verdict}
use Rattle.ledger.specs.Calls.{edit_answer, edit_exit}
use Rattle.ledger.specs.Histories.{Sequence}
use Rattle.ledger.specs.Versions.{Version, v1, v2, format_of, format_in}
use Rattle.ledger.specs.PlaneFrames.{plane_frames}
use Rattle.ledger.specs.Layout.{number_of}
use Rattle.ledger.proofs.plane.OneJudge as law

-- the version word decides, so that what PlaneDemand3 says of a version holds of every buffer that names it
pub judged_by_word : (v : Version) (b : List ℕ) → word_at b 0 ≡ number_of v → format_in b ≡ format_of v
judged_by_word = law.by_word

-- any other number is 20
pub no_other_version : (b : List ℕ) → (word_at b 0 ≡ 1 → ⊥) → (word_at b 0 ≡ 2 → ⊥) → record_verdict plane_frames (format_in b) b ≡ refused 20 0
no_other_version = law.other_word

-- an accepted record names its version
pub version_of_accepted : (v : Version) (b : List ℕ) → record_verdict plane_frames (format_of v) b ≡ accepted tt → word_at b 0 ≡ number_of v
version_of_accepted = law.names_version

-- "editing a version 1 record is 20, before its frame is judged": whatever follows its version word; and the edit changes nothing
pub old_not_edited : (b : List ℕ) (c : Correction) → (word_at b 0 ≡ 2 → ⊥)
    → (edit_answer plane_frames (format_of v2) b c ≡ refused 20 0) × (edit_exit plane_frames (format_of v2) b c ≡ b)
old_not_edited = law.not_edited

-- "accepted exactly when some such sequence makes its bytes": the calls of today, or the old editor's
pub accepted_exactly : (b : List ℕ) → Bytes b
    → (record_verdict plane_frames (format_in b) b ≡ accepted tt) ↔ (Sequence plane_frames (format_of v1) b ⊎ Sequence plane_frames (format_of v2) b)
accepted_exactly = law.either_made

-- never both: a record of one version is none of the other
pub never_both : (b : List ℕ) → record_verdict plane_frames (format_of v1) b ≡ accepted tt → record_verdict plane_frames (format_of v2) b ≡ refused 20 0
never_both = law.not_both_versions
