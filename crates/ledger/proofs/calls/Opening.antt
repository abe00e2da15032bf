-- T27. Opening a record: accepted exactly where the frame is and the buffer has room; every byte it leaves.
-- Assumes nothing but the laws of the book and the format.
use Prim.Native.Nat.{ℕ, ◌+◌, ◌≤◌, ◌<◌}
use mathlib.Core.Path.{◌≡◌, refl, ◌∙◌}
use mathlib.Core.Logic.{◌↔◌}
use mathlib.Core.List.{List, [], ◌++◌, append_assoc}
use native.Mathlib.Omega.{arith}
use lib.ListN.{length, drop, length-append}
use lib.Seq.{sets-eq}
use borrow.Author.Tests.{leb-true, le-leb, lt-leb}
use Rattle.format.specs.Words.{Bytes}
use Rattle.format.specs.Answers.{accepted, refused, first_of}
use Rattle.ledger.specs.Frames.{FrameBook}
use Rattle.ledger.specs.Formats.{Format, Lawful}
use Rattle.ledger.specs.Records.{header}
use Rattle.ledger.specs.Calls.{open_answer, open_exit}
use Rattle.ledger.proofs.answers.Answering.{need_holds, first_at}
use Rattle.ledger.proofs.records.Codecs.{header_length, entries_bytes}
use Rattle.ledger.proofs.histories.Edits.{frame_of, entries_made, valid_none}
use Rattle.ledger.proofs.histories.Holding.{Holds}

module _ (B : FrameBook) (F : Format) where
  open_parts : (f b : List ℕ) → open_answer B F f b ≡ accepted tt → (B.judge f ≡ accepted tt) × (16 + length f ≤ length b)
  unfolding open_answer
  open_parts f b e = (first_at _ 0 e, leb-true _ _ (need_holds _ 12 0 (first_at _ 1 e)))

  parts_open : (f b : List ℕ) → (B.judge f ≡ accepted tt) × (16 + length f ≤ length b) → open_answer B F f b ≡ accepted tt
  unfolding open_answer first_of
  parts_open f b w = rw (w.0, le-leb (16 + length f) (length b) w.1)

  pub open_exactly : (f b : List ℕ) → (open_answer B F f b ≡ accepted tt) ↔ ((B.judge f ≡ accepted tt) × (16 + length f ≤ length b))
  open_exactly f b = (open_parts f b, parts_open f b)

  -- so of an accepted frame where there is room
  pub open_room : (f b : List ℕ) → B.judge f ≡ accepted tt → (open_answer B F f b ≡ accepted tt) ↔ (16 + length f ≤ length b)
  open_room f b j = (λ e. (open_parts f b e).1, λ r. parts_open f b (j, r))

  pub open_refused : (f b : List ℕ) (n p : ℕ) → B.judge f ≡ refused n p → open_answer B F f b ≡ refused n p
  unfolding open_answer first_of
  open_refused f b n p e = rw e

  pub open_no_room : (f b : List ℕ) → B.judge f ≡ accepted tt → length b < 16 + length f → open_answer B F f b ≡ refused 12 0
  unfolding open_answer first_of
  open_no_room f b j l = rw (j, lt-leb (16 + length f) (length b) l)

  -- every byte: header, frame, and the buffer's own beyond
  pub open_whole : (f b : List ℕ) → open_answer B F f b ≡ accepted tt → open_exit B F f b ≡ header F (length f) 0 ++ (f ++ drop (16 + length f) b)
  unfolding open_exit
  open_whole f b e =
      let r = ((open_exactly f b).0 e).1 in
      let hd = header F (length f) 0 in
      let l : length (hd ++ f) ≡ 16 + length f = length-append hd f ∙ rw (header_length F (length f) 0) in
      let z : 0 + length (hd ++ f) ≡ 16 + length f = omega arith in
      rw e (sets-eq (hd ++ f) b 0 (omega arith) ∙ rw z (append_assoc hd f (drop (16 + length f) b)))

  pub open_holds : Lawful B F → (f b : List ℕ) → Bytes f → open_answer B F f b ≡ accepted tt → Holds B F f [] (open_exit B F f b)
  unfolding frame_of entries_made entries_bytes
  open_holds L f b y e = record {
    rest = drop (16 + length f) b;
    is = open_whole f b e;
    first = record { bytes = y; judged = ((open_exactly f b).0 e).0 };
    valid = valid_none B F f;
    limit = L.format.limit_none;
  }

  pub open_rest : (L : Lawful B F) (f b : List ℕ) (y : Bytes f) (e : open_answer B F f b ≡ accepted tt) → (open_holds L f b y e).rest ≡ drop (16 + length f) b
  unfolding open_holds
  open_rest L f b y e = refl
