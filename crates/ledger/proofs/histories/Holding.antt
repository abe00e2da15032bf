-- A buffer that holds the record of a frame with a history: what each question reads from it. Opening makes such a buffer and every edit
-- call keeps it one, so demand 3's sentences are read off here.
-- Assumes nothing but the laws of the book and the format.
use Prim.Native.Nat.{ℕ, ◌+◌, ◌-◌, ◌*◌, ◌≤◌, ◌<◌}
use mathlib.Core.Path.{◌≡◌, sym, ap, ◌∙◌}
use mathlib.Core.Bool.{true}
use mathlib.Core.List.{List, ◌++◌, append_assoc}
use native.Mathlib.Omega.{arith}
use lib.ListN.{length, take, drop, length-append}
use lib.Seq.{sets-eq, take_at, drop_at}
use borrow.Author.Tests.{le-leb, lt-leb}
use Rattle.format.specs.Words.{Bytes}
use Rattle.format.specs.Answers.{accepted, refused, first_of}
use Rattle.ledger.specs.Frames.{FrameBook, Accepted}
use Rattle.ledger.specs.Formats.{Correction, Format, Lawful, size}
use Rattle.ledger.specs.Records.{header, length_in, total_in, frame_in, entries_in, record_verdict}
use Rattle.ledger.specs.Calls.{restored, restore_answer, restore_exit}
use Rattle.ledger.specs.Chains.{Header}
use Rattle.ledger.proofs.records.Codecs.{Reads, header_reads, header_length, header_bytes, bytes_join, entries_bytes, entries_length, entries_there}
use Rattle.ledger.proofs.records.Headers.{header_right_lem}
use Rattle.ledger.proofs.records.Judging.{parts_verdict}
use Rattle.ledger.proofs.histories.Edits.{frame_of, entries_made, entries_count, Valid, valid_drop, frame_accepted, frame_same, entries_good, made_bytes, history_made, undone_made}

module _ (B : FrameBook) (F : Format) where
  -- the bytes of the record of f with the edits h, newest first
  abbrev pub record_of : List ℕ → List Correction → List ℕ
  record_of f h = header F (length f) (length h) ++ (frame_of B f h ++ entries_bytes F (entries_made B f h))

  pub record Holds (f : List ℕ) (h : List Correction) (b : List ℕ) : Type 0 where
    pub rest : List ℕ
    pub is : b ≡ header F (length f) (length h) ++ (frame_of B f h ++ (entries_bytes F (entries_made B f h) ++ rest))
    pub first : Accepted B f
    pub valid : Valid B F f h
    pub limit : F.limit (entries_made B f h) ≡ true

module _ (B : FrameBook) (F : Format) (L : Lawful B F) where
  module _ (f : List ℕ) (h : List Correction) (b : List ℕ) (H : Holds B F f h b) where
    pub holds_few : length h ≤ 512
    holds_few = rw (entries_count B f h) at (L.format.limit_few (entries_made B f h) H.limit)

    pub holds_reads : Reads F b (length f) (length h)
    holds_reads = rw H.is (header_reads F (length f) (length h) (frame_of B f h ++ (entries_bytes F (entries_made B f h) ++ H.rest)))

    pub made_length : length (entries_bytes F (entries_made B f h)) ≡ size F * length h
    made_length = entries_length F L.format (entries_made B f h) (entries_good B F L f h H.valid) ∙ rw (entries_count B f h)

    pub holds_frame : frame_in b ≡ frame_of B f h
    holds_frame =
        let q = entries_bytes F (entries_made B f h) ++ H.rest in
        let g = frame_of B f h in
        let d : drop 16 b ≡ g ++ q = ap (drop 16) H.is ∙ drop_at (header F (length f) (length h)) (g ++ q) 16 (header_length F (length f) (length h)) in
        rw (d, holds_reads.length_is) (take_at g q (length f) (frame_same B F L f h H.first H.valid))

    pub holds_head : length (header F (length f) (length h) ++ frame_of B f h) ≡ 16 + length f
    holds_head = length-append (header F (length f) (length h)) (frame_of B f h) ∙ rw (header_length F (length f) (length h), frame_same B F L f h H.first H.valid)

    pub holds_entries : entries_in F b ≡ entries_made B f h
    holds_entries =
        let hd = header F (length f) (length h) in
        let g = frame_of B f h in
        let es = entries_made B f h in
        let s : b ≡ (hd ++ g) ++ (entries_bytes F es ++ H.rest) = H.is ∙ sym (append_assoc hd g (entries_bytes F es ++ H.rest)) in
        let l : length (hd ++ g) ≡ 16 + length_in b = rw holds_reads.length_is holds_head in
        rw (holds_reads.count_is, ← entries_count B f h) (entries_there F L.format es b (hd ++ g) H.rest l (entries_good B F L f h H.valid) s)

    pub holds_total : total_in F b ≡ 16 + length f + size F * length h
    holds_total = rw (holds_reads.length_is, holds_reads.count_is)

    pub holds_record : length (record_of B F f h) ≡ total_in F b
    holds_record =
        let hd = header F (length f) (length h) in
        let g = frame_of B f h in
        let eb = entries_bytes F (entries_made B f h) in
        length-append hd (g ++ eb) ∙ rw (length-append g eb, header_length F (length f) (length h), frame_same B F L f h H.first H.valid, made_length, holds_total) (omega arith)

    -- the bytes of the record, and what stands beyond it
    pub holds_split : b ≡ record_of B F f h ++ H.rest
    holds_split = H.is ∙ sym (simp append_assoc)

    pub holds_taken : take (total_in F b) b ≡ record_of B F f h
    holds_taken = ap (take (total_in F b)) holds_split ∙ take_at (record_of B F f h) H.rest (total_in F b) holds_record

    pub holds_rest : drop (total_in F b) b ≡ H.rest
    holds_rest = ap (drop (total_in F b)) holds_split ∙ drop_at (record_of B F f h) H.rest (total_in F b) holds_record

    pub holds_length : length b ≡ 16 + length f + size F * length h + length H.rest
    holds_length = ap length holds_split ∙ length-append (record_of B F f h) H.rest ∙ rw (holds_record, holds_total)

    pub holds_header : Header F b
    holds_header =
        let r = holds_reads in
        let l = holds_length in
        record {
          long = omega arith;
          version = r.version;
          one = r.one;
          sixteen = r.sixteen;
          history = rw r.length_is r.history;
          total = rw (r.length_is, r.count_is) r.total;
          nought = r.nought;
          room = rw holds_total (omega arith);
          limit = rw holds_entries H.limit;
        }

    pub holds_judged : record_verdict B F b ≡ accepted tt
    holds_judged =
        let j : B.judge (frame_in b) ≡ accepted tt = rw holds_frame (frame_accepted B F L f h H.first H.valid).judged in
        parts_verdict B F b (header_right_lem F b holds_header) j ∙ rw (holds_frame, holds_entries) (history_made B F L f h H.first H.valid)

    -- the whole buffer is bytes where what stands beyond the record is
    pub holds_bytes : Bytes H.rest → Bytes b
    holds_bytes y =
        let hd = header F (length f) (length h) in
        let g = frame_of B f h in
        let eb = entries_bytes F (entries_made B f h) in
        rw H.is
        (bytes_join hd (g ++ (eb ++ H.rest)) (header_bytes F (length f) (length h) L.format (L.book.short f H.first) holds_few)
        (bytes_join g (eb ++ H.rest) (frame_accepted B F L f h H.first H.valid).bytes (bytes_join eb H.rest (made_bytes B F L f h H.first H.valid) y)))

    -- ---- restoring
    pub holds_restored : (k : ℕ) → restored B F b k ≡ frame_of B f (drop (length h - k) h)
    unfolding restored
    holds_restored k = rw (holds_frame, holds_entries, holds_reads.count_is) (undone_made B F L f h (length h - k) H.first H.valid)

    pub restored_length : (k : ℕ) → length (restored B F b k) ≡ length f
    restored_length k = rw (holds_restored k) (frame_same B F L f (drop (length h - k) h) H.first (valid_drop B F f h (length h - k) H.valid))

    pub holds_restores : (k : ℕ) (out : List ℕ) → k ≤ length h → length f ≤ length out → restore_answer B F b k out ≡ accepted tt
    unfolding restore_answer first_of
    holds_restores k out le room = rw (holds_judged, holds_reads.count_is, holds_reads.length_is, le-leb k (length h) le, le-leb (length f) (length out) room)

    pub holds_no_entry : (k : ℕ) (out : List ℕ) → length h < k → restore_answer B F b k out ≡ refused 26 0
    unfolding restore_answer first_of
    holds_no_entry k out lt = rw (holds_judged, holds_reads.count_is, lt-leb k (length h) lt)

    pub holds_no_room : (k : ℕ) (out : List ℕ) → k ≤ length h → length out < length f → restore_answer B F b k out ≡ refused 12 0
    unfolding restore_answer first_of
    holds_no_room k out le lt = rw (holds_judged, holds_reads.count_is, holds_reads.length_is, le-leb k (length h) le, lt-leb (length f) (length out) lt)

    pub holds_exit : (k : ℕ) (out : List ℕ) → k ≤ length h → length f ≤ length out
        → restore_exit B F b k out ≡ frame_of B f (drop (length h - k) h) ++ drop (length f) out
    unfolding restore_exit
    holds_exit k out le room =
        let g = restored B F b k in
        let l = restored_length k in
        let z : 0 + length g ≡ length f = omega arith in
        rw (holds_restores k out le room) (sets-eq g out 0 (omega arith) ∙ rw (z, holds_restored k))
