-- A sequence of calls, as the code is called: a record is opened, then edited, each call on what the one before it left, some of them refused, with
-- nothing else writing. Corrections, answers and buffers are the code's own.
-- Assumes nothing.
use Rattle.std.specs.Prelude.{ℕ, ◌≤◌, ◌<◌, ◌≡◌, List, [], ◌∷◌, ◌++◌, map, length, take, Some, Ok, Err}
use Rattle.format.specs.Words.{Bytes}
use Rattle.format.specs.Spots.{Spot}
use Rattle.ledger.specs.Formats.{Entry}
use Rattle.ledger.specs.Histories.{frame_after, entries_of}
use Rattle.ledger.specs.PlaneFrames.{plane_frames}
use Rattle.ledger.specs.Layout.{total_length}
use Rattle.ledger.specs.VersionTwo.{time_in}
use Rattle.ledger.specs.Versions.{v2}
use Rattle.records.specs.declared.answers.Entry as declared
use Rattle.editor.specs.declared.editing.Correction.{Correction}
use Rattle.editor.specs.Views.{Answer, view_done, asked}
use Rattle.editor.specs.Promises.{Opened, Edited}

-- ---- calls of `edit`

-- from the buffer b: the corrections asked for, what each call answered, and the buffer after them
pub data Calls : List ℕ → List Correction → List Answer → List ℕ → Type 0 where
  done : {b : List ℕ} → Calls b [] [] b
  then : {b m e : List ℕ} {c : Correction} {r : Answer} {cs : List Correction} {rs : List Answer}
      → Edited b (asked c) (view_done r) m → Calls m cs rs e → Calls b (c ∷ cs) (r ∷ rs) e

-- a correction before the later ones, where it was accepted
abbrev pub kept : Answer → Correction → List Correction → List Correction
kept (Ok u) c cs = c ∷ cs
kept (Err r) c cs = cs

-- the corrections that were accepted, in order
unfoldable pub made_by : List Correction → List Answer → List Correction
made_by [] rs = []
made_by (c ∷ cs) [] = []
made_by (c ∷ cs) (r ∷ rs) = kept r c (made_by cs rs)

-- the frame f with some corrections made, in order, and the entries that they make: each has the value that stood before it as its old one
abbrev pub corrected : List ℕ → List Correction → List ℕ
corrected f cs = frame_after plane_frames f (map asked cs)

abbrev pub entries_for : List ℕ → List Correction → List Entry
entries_for f cs = entries_of plane_frames f (map asked cs)

-- the entry of a correction as `entry` tells it: what was asked, with the kind and the value of the item p that stood there before
abbrev pub entry_made : Correction → Spot → declared.Entry
entry_made c p = record { word = c.word; kind = p.kind; old = p.value; new = c.value; operator = c.operator; reason = c.reason; stamp = Some (record { time = c.time; desk = 0 }) }

-- a moment among some calls from b to e: `buffer` as it stood when k of them had been accepted
pub record Moment (b : List ℕ) (cs : List Correction) (rs : List Answer) (e : List ℕ) (k : ℕ) : Type 0 where
  pub earlier : List Correction
  pub answers : List Answer
  pub buffer : List ℕ
  pub later : List Correction
  pub replies : List Answer
  pub before : Calls b earlier answers buffer
  pub after : Calls buffer later replies e
  pub all : cs ≡ earlier ++ later
  pub said : rs ≡ answers ++ replies
  pub count : length (made_by earlier answers) ≡ k

-- ---- a whole sequence

-- the correction that an entry tells of
abbrev pub correction_for : Entry → Correction
correction_for e = record { word = e.word; value = e.new; operator = e.operator; reason = e.reason; time = time_in e.extra }

-- a correction that can be given: each number is one of its type
pub record Given (c : Correction) : Type 0 where
  pub word : c.word < 18446744073709551616
  pub value : c.value < 4294967296
  pub operator : c.operator < 4294967296
  pub reason : c.reason < 4294967296
  pub time : c.time < 18446744073709551616

pub data AllGiven : List Correction → Type 0 where
  none : AllGiven []
  more : {c : Correction} {cs : List Correction} → Given c → AllGiven cs → AllGiven (c ∷ cs)

-- some sequence makes the bytes that b begins with: `open` accepts a frame into a buffer, then calls of `edit`
pub record Sequence (b : List ℕ) : Type 0 where
  pub frame : List ℕ
  pub buffer : List ℕ
  pub lent : Bytes frame × Bytes buffer
  pub opened : List ℕ
  pub opening : Opened frame buffer (view_done (Ok tt)) opened
  pub corrections : List Correction
  pub given : AllGiven corrections
  pub answers : List Answer
  pub left : List ℕ
  pub calls : Calls opened corrections answers left
  pub whole : total_length v2 left ≤ length b
  pub same : take (total_length v2 left) b ≡ take (total_length v2 left) left
