-- What the answers of this crate say in document 01, and what an edit asks.
-- Assumes nothing.
use Rattle.std.specs.Prelude.{ℕ, ◌+◌, [], ◌∷◌, not, ◌&&◌, leb, ltb, eqb, Result}
use Rattle.format.specs.Answers as answers
use Rattle.format.specs.Answers.{need, first_of}
use Rattle.book.specs.declared.refusal.Refusal.{Refusal}
use Rattle.book.specs.Views.{view_result}
use Rattle.ledger.specs.Formats as formats
use Rattle.ledger.specs.Records.{signed}
use Rattle.ledger.specs.Calls.{Summary}
use Rattle.ledger.specs.VersionTwo.{time_in}
use Rattle.ledger.specs.PlaneFrames.{plane_frames}
use Rattle.editor.specs.declared.editing.Correction.{Correction}

-- what a call answers: accepted, only that
abbrev pub Answer : Type 0
Answer = Result (Unit {0}) Refusal

abbrev pub view_done : Answer → answers.Done
view_done = view_result (λ u. u)

-- what an edit asks: after the reason a time, at desk 0
abbrev pub asked : Correction → formats.Correction
asked c = record { word = c.word; value = c.value; operator = c.operator; reason = c.reason; extra = c.time ∷ 0 ∷ [] }

-- the tests of an edit of an accepted record at an item of the kind with the value, in a buffer of `room` bytes
unfoldable pub item_tests : formats.Correction → Summary → ℕ → ℕ → ℕ → answers.Done
item_tests c x kind value room =
    first_of
    (need (plane_frames.legal kind c.value && not (eqb value c.value)) 23 0
    ∷ need (signed c.operator c.reason && leb (time_in c.extra) 281474976710655) 24 0
    ∷ need (ltb x.count 512) 25 0
    ∷ need (leb (x.total + 24) room) 12 0
    ∷ [])
