-- What an accepted edit leaves in an accepted record: every byte; the value asked for in the item asked for and every other item as it was; one
-- entry more. And what stays so after a refused one.
-- Assumes nothing but the laws of the book and the format.
use Prim.Native.Nat.{ℕ, suc, ◌+◌, ◌*◌}
use mathlib.Core.Path.{◌≡◌, sym, ap, ◌∙◌}
use mathlib.Core.List.{List, ◌∷◌, ◌++◌, append_assoc, map}
use mathlib.Core.Option.{some, some-injective}
use lib.ListN.{take, drop}
use lib.Seq.{drop-drop}
use Rattle.format.specs.Words.{Bytes}
use Rattle.format.specs.Answers.{accepted}
use Rattle.format.specs.Spots.{Spot, revalued}
use Rattle.format.proofs.items.WordLaws.{below_drop}
use Rattle.ledger.specs.Frames.{FrameBook, Settable}
use Rattle.ledger.specs.Formats.{Correction, Format, Lawful, size}
use Rattle.ledger.specs.Records.{header, length_in, count_in, total_in, frame_in, entry_bytes, entries_in, record_verdict}
use Rattle.ledger.specs.Calls.{entry_for, restored, edit_answer, edit_written, edit_exit}
use Rattle.ledger.specs.Chains.{Allowed}
use Rattle.ledger.specs.Histories.{correction_of}
use Rattle.ledger.proofs.records.Codecs.{bytes_part, entries_bytes, Good, entries_back}
use Rattle.ledger.proofs.records.Headers.{header_words}
use Rattle.ledger.proofs.records.Judging.{verdict_parts}
use Rattle.ledger.proofs.histories.Edits.{frame_of, entries_made, entries_good}
use Rattle.ledger.proofs.histories.Holding.{Holds, holds_reads, holds_frame, holds_entries, holds_rest, holds_bytes, holds_judged}
use Rattle.ledger.proofs.calls.Editing.{edit_judged, edit_exactly, edit_holds, edit_rest, exit_written}
use Rattle.ledger.proofs.histories.Backward.{accepted_holds}

module _ (B : FrameBook) (F : Format) (L : Lawful B F) where
  module _ (b : List ℕ) (c : Correction) (y : Bytes b) (e : edit_answer B F b c ≡ accepted tt) where
    origin : List ℕ
    origin = restored B F b 0

    edits : List Correction
    edits = map correction_of (entries_in F b)

    judged : record_verdict B F b ≡ accepted tt
    judged = edit_judged B F b c e

    pub allowed : Allowed B F b c
    allowed = (edit_exactly B F b c judged).0 e

    old_holds : Holds B F origin edits b
    unfolding origin edits
    old_holds = accepted_holds B F L b y judged

    new_holds : Holds B F origin (c ∷ edits) (edit_written B F b c)
    new_holds = edit_holds B F L origin edits b old_holds c allowed

    new_rest : new_holds.rest ≡ drop (total_in F b + size F) b
    unfolding new_holds
    new_rest =
        edit_rest B F L origin edits b old_holds c allowed
        ∙ ap (drop (size F)) (sym (holds_rest B F L origin edits b old_holds))
        ∙ drop-drop (size F) (total_in F b) b

    pub edit_accepted : record_verdict B F (edit_exit B F b c) ≡ accepted tt
    edit_accepted = rw (exit_written B F b c e) (holds_judged B F L origin (c ∷ edits) (edit_written B F b c) new_holds)

    -- every byte: header, the frame with the value put, the entries as they stood, the new one, and the buffer's own beyond
    pub edit_whole : edit_exit B F b c
        ≡ header F (length_in b) (suc (count_in b))
        ++ (B.put (frame_in b) c.word c.value
        ++ (take (size F * count_in b) (drop (16 + length_in b) b) ++ (entry_bytes F (entry_for B (frame_in b) c) ++ drop (total_in F b + size F) b)))
    unfolding frame_of entries_made entries_bytes
    edit_whole =
        let hr = header_words F b (verdict_parts B F b judged).0 in
        let r = holds_reads B F L origin edits b old_holds in
        let g : frame_in b ≡ frame_of B origin edits = holds_frame B F L origin edits b old_holds in
        let p : B.put (frame_in b) c.word c.value ≡ frame_of B origin (c ∷ edits) = ap (λ (x : List ℕ). B.put x c.word c.value) g in
        let n : entries_in F b ≡ entries_made B origin edits = holds_entries B F L origin edits b old_holds in
        let k : Good F (entries_in F b) = rw n (entries_good B F L origin edits old_holds.valid) in
        let x = entry_bytes F (entry_for B (frame_in b) c) in
        let t : entries_bytes F (entries_made B origin edits) ≡ take (size F * count_in b) (drop (16 + length_in b) b) = rw (← n) (entries_back F L.format b (count_in b) y hr.room k) in
        exit_written B F b c e
        ∙ rw (new_rest, ← g, ← r.length_is, ← r.count_is, t) at new_holds.is
        ∙ rw (append_assoc (take (size F * count_in b) (drop (16 + length_in b) b)) x (drop (total_in F b + size F) b), p)

    pub edit_bytes : Bytes (edit_exit B F b c)
    edit_bytes = rw (exit_written B F b c e) (holds_bytes B F L origin (c ∷ edits) (edit_written B F b c) new_holds (rw new_rest (below_drop (total_in F b + size F) b 256 y)))

    -- the frame, item by item
    pub edit_frame : frame_in (edit_exit B F b c) ≡ B.put (frame_in b) c.word c.value
    unfolding frame_of
    edit_frame = rw (exit_written B F b c e) (holds_frame B F L origin (c ∷ edits) (edit_written B F b c) new_holds ∙ rw (holds_frame B F L origin edits b old_holds))

    pub edit_settable : Settable B (frame_in b) c.word c.value allowed.spot
    edit_settable = record { frame = record { bytes = bytes_part b 16 (length_in b) y; judged = (verdict_parts B F b judged).1 }; stands = allowed.stands; legal = allowed.legal }

    pub edit_there : (s : Spot) → B.spot (frame_in b) c.word ≡ some s → B.spot (frame_in (edit_exit B F b c)) c.word ≡ some (revalued s c.value)
    edit_there s q =
        let k : s ≡ allowed.spot = some-injective s allowed.spot (sym q ∙ allowed.stands) in
        rw (edit_frame, k) (L.book.put_there (frame_in b) c.word c.value allowed.spot edit_settable)

    pub edit_elsewhere : (w : ℕ) → (w ≡ c.word → ⊥) → B.spot (frame_in (edit_exit B F b c)) w ≡ B.spot (frame_in b) w
    edit_elsewhere w n = rw edit_frame (L.book.put_elsewhere (frame_in b) c.word c.value allowed.spot w edit_settable n)

    -- the history, one entry longer
    pub edit_count : count_in (edit_exit B F b c) ≡ suc (count_in b)
    edit_count = rw (exit_written B F b c e) ((holds_reads B F L origin (c ∷ edits) (edit_written B F b c) new_holds).count_is ∙ ap suc (sym (holds_reads B F L origin edits b old_holds).count_is))

    pub edit_entries : entries_in F (edit_exit B F b c) ≡ entry_for B (frame_in b) c ∷ entries_in F b
    unfolding entries_made
    edit_entries =
        rw (exit_written B F b c e)
        (holds_entries B F L origin (c ∷ edits) (edit_written B F b c) new_holds ∙ rw (holds_frame B F L origin edits b old_holds, holds_entries B F L origin edits b old_holds))
