-- Many corrections in one call (document 02, request 2), over any frame book and entry format: "apply it in order. It stops at the first refusal
-- and returns its position (from 0); the earlier ones stand".
-- Assumes nothing.
use Rattle.std.specs.Prelude.{ℕ, ◌+◌, List, [], ◌∷◌}
use Rattle.format.specs.Answers.{Done, accepted, refused, leaves}
use Rattle.ledger.specs.Frames.{FrameBook}
use Rattle.ledger.specs.Formats.{Correction, Format}
use Rattle.ledger.specs.Calls.{edit_answer, edit_exit}

-- every correction was made; or the one at a position was refused, by a number at a place
pub data ListAnswer : Type 0 where
  done : ListAnswer
  stopped : (position number place : ℕ) → ListAnswer

-- what the edit at position i answers to the list
abbrev pub at_position : ℕ → Done → ListAnswer
at_position i (accepted u) = done
at_position i (refused n p) = stopped i n p

-- the answer of an edit, or of the corrections behind it where it was made
abbrev pub or_later : ListAnswer → ListAnswer → ListAnswer
or_later done later = later
or_later (stopped i n p) later = stopped i n p

module _ (B : FrameBook) (F : Format) where
  -- the corrections from position i on, each on what the one before it left
  unfoldable pub answer_from : ℕ → List ℕ → List Correction → ListAnswer
  answer_from i b [] = done
  answer_from i b (c ∷ cs) = or_later (at_position i (edit_answer B F b c)) (answer_from (i + 1) (edit_exit B F b c) cs)

  abbrev pub list_answer : List ℕ → List Correction → ListAnswer
  list_answer b cs = answer_from 0 b cs

  -- the buffer: where a correction is refused it is as the earlier ones left it
  unfoldable pub list_exit : List ℕ → List Correction → List ℕ
  list_exit b [] = b
  list_exit b (c ∷ cs) = leaves (edit_answer B F b c) b (list_exit (edit_exit B F b c) cs)
