-- What an accepted record stands for, with no word of the order of testing: a right header, and a chain of frames f_0 .. f_c, f_c the one
-- that stands, in which each entry leads from a frame to the next; and what an edit may ask.
-- Assumes nothing.
use Rattle.std.specs.Prelude.{ℕ, suc, ◌+◌, ◌≤◌, ◌<◌, ◌≡◌, true, List, ◌∷◌, length}
use Rattle.std.proofs.Math.Option.{some}
use Rattle.format.specs.Words.{word_at}
use Rattle.format.specs.Answers.{accepted}
use Rattle.format.specs.Spots.{Spot}
use Rattle.ledger.specs.Frames.{FrameBook}
use Rattle.ledger.specs.Formats.{Entry, Correction, Format, size}
use Rattle.ledger.specs.Records.{length_in, count_in, total_in, frame_in, numbered, entries_in, before}
use Rattle.ledger.specs.Calls.{entry_for}

-- the header words, the room and the number of entries
pub record Header (F : Format) (b : List ℕ) : Type 0 where
  pub long : 16 ≤ length b
  pub version : word_at b 0 ≡ F.version
  pub one : word_at b 1 ≡ 1
  pub sixteen : word_at b 2 ≡ 16
  pub history : word_at b 4 ≡ 16 + length_in b
  pub total : word_at b 6 ≡ total_in F b
  pub nought : word_at b 7 ≡ 0
  pub room : total_in F b ≤ length b
  pub limit : F.limit (entries_in F b) ≡ true

module _ (B : FrameBook) (F : Format) where
  -- an entry that fits a frame
  pub record Fits (f : List ℕ) (e : Entry) : Type 0 where
    pub spot : Spot
    pub stands : B.spot f e.word ≡ some spot
    pub kind : spot.kind ≡ e.kind
    pub new : spot.value ≡ e.new
    pub old : B.legal e.kind e.old ≡ true
    pub changed : e.old ≡ e.new → ⊥
    pub operator : (1 ≤ e.operator) × (e.operator ≤ 65535)
    pub reason : (1 ≤ e.reason) × (e.reason ≤ 5)
    pub good : F.good e.extra ≡ true
    pub suits : F.suits e.extra spot ≡ true

  -- frames f_low .. f_c, f_c the one standing: each entry above `low` fits its frame, and the frame before it has the old value there
  pub record Chain (b : List ℕ) (low : ℕ) (f : ℕ → List ℕ) : Type 0 where
    pub standing : f (count_in b) ≡ frame_in b
    pub fit : (j : ℕ) → low ≤ j → j < count_in b → Fits (f (suc j)) (numbered F b (suc j))
    pub back : (j : ℕ) → low ≤ j → j < count_in b → f j ≡ before B (f (suc j)) (numbered F b (suc j))

  -- a correction that no listed reason forbids
  pub record Allowed (b : List ℕ) (c : Correction) : Type 0 where
    pub asked : F.asked c.extra ≡ accepted tt
    pub spot : Spot
    pub stands : B.spot (frame_in b) c.word ≡ some spot
    pub suits : F.suits c.extra spot ≡ true
    pub legal : B.legal spot.kind c.value ≡ true
    pub changed : spot.value ≡ c.value → ⊥
    pub operator : (1 ≤ c.operator) × (c.operator ≤ 65535)
    pub reason : (1 ≤ c.reason) × (c.reason ≤ 5)
    pub good : F.good c.extra ≡ true
    pub limit : F.limit (entry_for B (frame_in b) c ∷ entries_in F b) ≡ true
    pub room : total_in F b + size F ≤ length b
