-- Histories: any run of edit calls on one buffer, the accepted ones among them, and the frame and the entries that these leave.
-- Assumes nothing.
use Rattle.std.specs.Prelude.{ℕ, ◌+◌, ◌*◌, ◌≤◌, ◌≡◌, List, [], ◌∷◌, ◌++◌, length, take, drop}
use Rattle.std.proofs.Math.Path.{refl}
use Rattle.format.specs.Words.{Bytes}
use Rattle.format.specs.Answers.{accepted, refused, Done}
use Rattle.ledger.specs.Frames.{FrameBook}
use Rattle.ledger.specs.Formats.{Entry, Correction, Format, size}
use Rattle.ledger.specs.Records.{header, length_in, total_in, entry_bytes}
use Rattle.ledger.specs.Calls.{entry_for, open_answer, open_exit, edit_answer, edit_exit, restored}

-- a list the other way round: entries are read newest first and stand oldest first
unfoldable pub oldest_first : {A : Type 0} → List A → List A
oldest_first [] = []
oldest_first (x ∷ xs) = oldest_first xs ++ (x ∷ [])

pub oldest_none : {A : Type 0} → oldest_first {A = A} [] ≡ []
unfolding oldest_first
oldest_none = refl

pub oldest_more : {A : Type 0} (x : A) (xs : List A) → oldest_first (x ∷ xs) ≡ oldest_first xs ++ (x ∷ [])
unfolding oldest_first
oldest_more x xs = refl

-- the bytes of some entries, in order
unfoldable pub bytes_of : Format → List Entry → List ℕ
bytes_of F [] = []
bytes_of F (e ∷ es) = entry_bytes F e ++ bytes_of F es

-- a call, where it was accepted, before the later ones
abbrev pub keep : Done → Correction → List Correction → List Correction
keep (accepted u) c cs = c ∷ cs
keep (refused n p) c cs = cs

-- the correction that an entry tells of
abbrev pub correction_of : Entry → Correction
correction_of e = record { word = e.word; value = e.new; operator = e.operator; reason = e.reason; extra = e.extra }

module _ (B : FrameBook) where
  -- the frame after some edits, in order
  unfoldable pub frame_after : List ℕ → List Correction → List ℕ
  frame_after f [] = f
  frame_after f (c ∷ cs) = frame_after (B.put f c.word c.value) cs

  pub after_none : (f : List ℕ) → frame_after f [] ≡ f
  unfolding frame_after
  after_none f = refl

  pub after_more : (f : List ℕ) (c : Correction) (cs : List Correction) → frame_after f (c ∷ cs) ≡ frame_after (B.put f c.word c.value) cs
  unfolding frame_after
  after_more f c cs = refl

  -- the entries that they make, in order: each has the value that stood before it as its old one
  unfoldable pub entries_of : List ℕ → List Correction → List Entry
  entries_of f [] = []
  entries_of f (c ∷ cs) = entry_for B f c ∷ entries_of (B.put f c.word c.value) cs

  pub entries_after : (f : List ℕ) (c : Correction) (cs : List Correction) → entries_of f (c ∷ cs) ≡ entry_for B f c ∷ entries_of (B.put f c.word c.value) cs
  unfolding entries_of
  entries_after f c cs = refl

module _ (B : FrameBook) (F : Format) where
  -- the buffer after some edit calls, in order, each of them accepted or refused
  unfoldable pub edit_all : List ℕ → List Correction → List ℕ
  edit_all b [] = b
  edit_all b (c ∷ cs) = edit_all (edit_exit B F b c) cs

  pub edit_all_none : (b : List ℕ) → edit_all b [] ≡ b
  unfolding edit_all
  edit_all_none b = refl

  pub edit_all_more : (b : List ℕ) (c : Correction) (cs : List Correction) → edit_all b (c ∷ cs) ≡ edit_all (edit_exit B F b c) cs
  unfolding edit_all
  edit_all_more b c cs = refl

  -- the calls among them that are accepted
  unfoldable pub made : List ℕ → List Correction → List Correction
  made b [] = []
  made b (c ∷ cs) = keep (edit_answer B F b c) c (made (edit_exit B F b c) cs)

  pub made_none : (b : List ℕ) → made b [] ≡ []
  unfolding made
  made_none b = refl

  pub made_accepted : (b : List ℕ) (c : Correction) (cs : List Correction) → edit_answer B F b c ≡ accepted tt → made b (c ∷ cs) ≡ c ∷ made (edit_exit B F b c) cs
  unfolding made
  made_accepted b c cs e = rw e

  pub made_refused : (b : List ℕ) (c : Correction) (cs : List Correction) (n p : ℕ) → edit_answer B F b c ≡ refused n p → made b (c ∷ cs) ≡ made (edit_exit B F b c) cs
  unfolding made
  made_refused b c cs n p e = rw e

  -- a frame put into a record in a buffer, and then some calls: the buffer after them, and the edits that were accepted, in order
  abbrev pub record_after : List ℕ → List ℕ → List Correction → List ℕ
  record_after f buf cs = edit_all (open_exit B F f buf) cs

  abbrev pub accepted_edits : List ℕ → List ℕ → List Correction → List Correction
  accepted_edits f buf cs = made (open_exit B F f buf) cs

  -- a point among some calls on b: those before it, k of them accepted, and those after it
  pub record Point (b : List ℕ) (cs : List Correction) (k : ℕ) : Type 0 where
    pub earlier : List Correction
    pub later : List Correction
    pub parts : cs ≡ earlier ++ later
    pub count : length (made b earlier) ≡ k

  -- opening a frame in some buffer and making some calls on it makes the bytes that b begins with
  pub record Sequence (b : List ℕ) : Type 0 where
    pub origin : List ℕ
    pub buffer : List ℕ
    pub calls : List Correction
    pub bytes : Bytes origin
    pub opened : open_answer B F origin buffer ≡ accepted tt
    pub whole : total_in F (record_after origin buffer calls) ≤ length b
    pub same : take (total_in F (record_after origin buffer calls)) b ≡ take (total_in F (record_after origin buffer calls)) (record_after origin buffer calls)

  -- the record as it stood after its first k entries: their header, the frame restored to k, and those entries
  unfoldable pub earlier_record : List ℕ → ℕ → List ℕ
  earlier_record b k = header F (length_in b) k ++ (restored B F b k ++ take (size F * k) (drop (16 + length_in b) b))
