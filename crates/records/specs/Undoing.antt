-- What holds while the entries of a record are undone, newest first, on a copy of its frame: the map has the words of the headers for every frame
-- on the way, since an entry that fits puts a legal value and that changes no item's place or class.
-- Assumes nothing.
use Rattle.std.specs.Prelude.{ℕ, ◌+◌, ◌-◌, ◌*◌, ◌≤◌, ◌≡◌, ◌&&◌, List, leb, length, get_or, take, Result, Err, is_ok, IsOk, ⊤}
use Rattle.std.proofs.lemmas.List.Edits.{sets}
use Rattle.format.specs.Words.{pick, word_at}
use Rattle.format.specs.Answers.{accepted}
use Rattle.format.specs.Scans.{head}
use Rattle.ledger.specs.Frames.{Accepted}
use Rattle.ledger.specs.Formats.{Format, size}
use Rattle.ledger.specs.Records.{length_in, frame_in, entries_to, history_verdict}
use Rattle.ledger.specs.Calls.{Summary, undone}
use Rattle.ledger.specs.Versions.{format_in}
use Rattle.ledger.specs.PlaneFrames.{plane_frames}
use Rattle.book.specs.declared.refusal.Refusal.{Refusal}
use Rattle.book.specs.Views.{refusal}
use Rattle.records.specs.Views.{unfit, framed_answer}

-- at each word where an item begins the word of the header that it stands under, 0 elsewhere
abbrev pub Heads : List ℕ → List ℕ → Type 0
Heads f map = (w : ℕ) → get_or map w 0 ≡ head f w

pub record Undoing (map f : List ℕ) : Type 0 where
  pub frame : Accepted plane_frames f
  pub heads : Heads f map

-- the accepted frame of a record in b, which has n entries behind it
pub record Framed (F : Format) (frame b : List ℕ) (n : ℕ) : Type 0 where
  pub accepted : Accepted plane_frames frame
  pub whole : length frame ≡ length_in b
  pub inside : 16 + length_in b + size F * n ≤ length b

-- room for a copy of it, and a map of zeros
pub record Room (frame f map : List ℕ) : Type 0 where
  pub copy : length f ≡ length frame
  pub long : 4096 ≤ length map
  pub zeros : (i : ℕ) → get_or map i 0 ≡ 0

-- the history of the record in b: a buffer, the frame in it, and the version
pub record HistoryIn (b : List ℕ) (x : Summary) (buf frame : List ℕ) (version : ℕ) : Type 0 where
  pub answered : accepted x ≡ framed_answer (format_in b) b
  pub lent : buf ≡ b
  pub part : frame ≡ frame_in b
  pub first : version ≡ word_at b 0

-- the entries from number n down to number k + 1, undone in f, which left g: the history is refused as the first that does not fit says, or each
-- fits, and what the older ones are judged by is g
pub record Walked (F : Format) (map f b : List ℕ) (n k : ℕ) (done : Result ⊤ Refusal) (g : List ℕ) : Type 0 where
  pub stops : (r : Refusal) → done ≡ Err r → history_verdict plane_frames F f (entries_to F b n) ≡ refusal r
  pub goes_on : IsOk done → history_verdict plane_frames F g (entries_to F b k) ≡ history_verdict plane_frames F f (entries_to F b n)
  pub undoes : IsOk done → g ≡ undone plane_frames f (take (n - k) (entries_to F b n))
  pub undoing : IsOk done → Undoing map g

-- the frame as it stood after the first k of n entries, written to the start of a second buffer where all entries fit, there are so many, and it has room
pub record Kept (F : Format) (frame b : List ℕ) (n k : ℕ) (found : List ℕ) (done : Result ⊤ Refusal) (exit : List ℕ) : Type 0 where
  pub verdict : unfit done ≡ history_verdict plane_frames F frame (entries_to F b n)
  pub left : exit ≡ pick ((is_ok done && leb k n) && leb (length frame) (length found)) (sets found 0 (undone plane_frames frame (take (n - k) (entries_to F b n)))) found
