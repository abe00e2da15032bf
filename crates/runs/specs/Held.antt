-- What an assembler holds behind a run, and what becomes of a frame of it that is written again.
-- Assumes nothing.
use Rattle.std.specs.Prelude.{ℕ, ◌≤◌, ◌≡◌, List, [], ◌∷◌, ◌++◌, map, length, drop}
use Rattle.format.specs.Answers.{accepted}
use Rattle.format.specs.Items.{Item, StartEvent, whole}
use Rattle.format.specs.Rules.{gather, channel_key}
use Rattle.format.specs.Frames.{Frame, verdict}
use Rattle.format.specs.Steps.{above_all}
use Rattle.format.specs.WriterCalls.{calls_done, write_all}
use Rattle.runs.specs.Assembly.{Open}
use Rattle.runs.specs.Runs.{bytes_of, EndsInside}

-- the event that is open behind some items: its number, its bytes so far from its Start event on, and the least key above those of its Channel headers
pub record Holds (items : List Item) (o : Open) : Type 0 where
  pub inside_of : EndsInside items o.number
  pub size : o.size ≡ bytes_of (StartEvent inside_of.kind inside_of.timestamp o.number ∷ inside_of.inside)
  pub key : o.key ≡ above_all (gather channel_key inside_of.inside)

-- the items of some events, one after the other
unfoldable pub together : List (List Item) → List Item
together [] = []
together (e ∷ es) = e ++ together es

-- begin, adds and close leave the frame's bytes in a buffer that takes them, and the rest of it as found
abbrev pub Writes : Frame → List ℕ → Type 0
Writes f s =
    (buf : List ℕ) → length s ≤ length buf
    → write_all buf f.kind f.card f.sequence (map whole f.items) ≡ calls_done (accepted (length s)) (s ++ drop (length s) buf)

-- some bytes are accepted alone, as a frame that is written as the same bytes
pub record SameBytes (s : List ℕ) : Type 0 where
  pub frame : Frame
  pub alone : verdict s ≡ accepted frame
  pub again : Writes frame s
