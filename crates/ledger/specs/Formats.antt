-- What an entry of the history is, what an edit asks, and what may differ from one version of the record to the next: the fields after the
-- reason and their tests, and how many entries may stand. Records are written and proved over ANY such format that has the laws below.
-- Assumes nothing.
use Rattle.std.specs.Prelude.{ℕ, ◌+◌, ◌≤◌, ◌<◌, ◌≡◌, Bool, true, List, [], ◌∷◌, ◌++◌, length, take}
use Rattle.format.specs.Words.{Bytes}
use Rattle.format.specs.Answers.{accepted, Done}
use Rattle.format.specs.Spots.{Spot, revalued}
use Rattle.ledger.specs.Frames.{FrameBook, LawfulBook}

-- an entry of the history; `extra` is the content of the fields after the reason, a list of numbers
pub record Entry : Type 0 where
  pub word : ℕ
  pub kind : ℕ
  pub old : ℕ
  pub new : ℕ
  pub operator : ℕ
  pub reason : ℕ
  pub extra : List ℕ

-- an edit as it is asked
pub record Correction : Type 0 where
  pub word : ℕ
  pub value : ℕ
  pub operator : ℕ
  pub reason : ℕ
  pub extra : List ℕ

pub record Format : Type 0 where
  pub version : ℕ
  -- the bytes of an entry after its first 16
  pub extra : ℕ
  -- their content as bytes, and the content that a list of bytes begins with
  pub written : List ℕ → List ℕ
  pub read : List ℕ → List ℕ
  -- a content that may be kept: 24 in an edit, 21 in an entry
  pub good : List ℕ → Bool
  -- a content against the item it is kept for: 22 in an edit, 21 in an entry
  pub suits : List ℕ → Spot → Bool
  -- a test of an edit's content before 22
  pub asked : List ℕ → Done
  -- these entries, newest first, may stand: 20 in a record, 25 in an edit
  pub limit : List Entry → Bool

-- the bytes of an entry
abbrev pub size : Format → ℕ
size F = 16 + F.extra

pub record LawfulFormat (F : Format) : Type 0 where
  -- version, size and totals fit their fields
  pub version_fits : F.version < 65536
  pub extra_small : F.extra ≤ 8
  -- a good content has the bytes of the field and is read from them, whatever follows; and no bit of those bytes is free
  pub written_length : (x : List ℕ) → F.good x ≡ true → length (F.written x) ≡ F.extra
  pub written_bytes : (x : List ℕ) → F.good x ≡ true → Bytes (F.written x)
  pub read_written : (x t : List ℕ) → F.good x ≡ true → F.read (F.written x ++ t) ≡ x
  pub written_read : (s : List ℕ) → Bytes s → F.extra ≤ length s → F.good (F.read s) ≡ true → F.written (F.read s) ≡ take F.extra s
  -- what suits an item suits it at every value, and may be asked
  pub suits_revalued : (x : List ℕ) (s : Spot) (v : ℕ) → F.suits x (revalued s v) ≡ F.suits x s
  pub asked_suits : (x : List ℕ) (s : Spot) → F.good x ≡ true → F.suits x s ≡ true → F.asked x ≡ accepted tt
  -- no entries may stand; with some entries each older part of them, and the newest two in either order; never more than 512
  pub limit_none : F.limit [] ≡ true
  pub limit_older : (e : Entry) (es : List Entry) → F.limit (e ∷ es) ≡ true → F.limit es ≡ true
  pub limit_swap : (d e : Entry) (es : List Entry) → F.limit (d ∷ e ∷ es) ≡ true → F.limit (e ∷ d ∷ es) ≡ true
  pub limit_few : (es : List Entry) → F.limit es ≡ true → length es ≤ 512

-- what demand 3's theorems ask of a book and a format
pub record Lawful (B : FrameBook) (F : Format) : Type 0 where
  pub book : LawfulBook B
  pub format : LawfulFormat F
