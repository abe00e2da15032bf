-- T29. A history forward: open an accepted frame, make any edit calls, accepted or not. The record stays accepted, holds the accepted edits in
-- their order and nothing more, restores to each of the frames that stood, and leaves the caller's own bytes beyond it.
-- Assumes nothing but the laws of the book and the format.
use Prim.Native.Nat.{ℕ, zero, suc, ◌+◌, ◌-◌, ◌*◌, ◌≤◌, ◌<◌}
use mathlib.Core.Path.{◌≡◌, refl, sym, ap, ◌∙◌}
use mathlib.Core.List.{List, [], ◌∷◌, ◌++◌}
use native.Mathlib.Nat.{mul-suc, mul-zero}
use native.Mathlib.Omega.{arith}
use lib.ListN.{length, take, drop, length-append}
use lib.Seq.{drop-drop, take-append_seam}
use Rattle.format.specs.Words.{Bytes}
use Rattle.format.specs.Answers.{accepted, refused, Done, leaves}
use Rattle.format.proofs.items.WordLaws.{below_drop}
use Rattle.ledger.specs.Frames.{FrameBook}
use Rattle.ledger.specs.Formats.{Correction, Format, Lawful, size}
use Rattle.ledger.specs.Records.{length_in, header, count_in, total_in, frame_in, entries_in, record_verdict}
use Rattle.ledger.specs.Calls.{open_answer, open_exit, edit_answer, edit_written, edit_exit, restore_answer, restore_exit}
use Rattle.ledger.specs.Histories.{oldest_first, keep, frame_after, entries_of, edit_all, made, record_after, accepted_edits, bytes_of, Point}
use Rattle.ledger.proofs.records.Codecs.{entries_bytes}
use Rattle.ledger.proofs.histories.Edits.{frame_of, entries_made}
use Rattle.ledger.proofs.histories.Holding.{Holds, holds_reads, holds_frame, holds_entries, holds_total, holds_rest, holds_bytes, holds_judged, holds_restores, holds_no_entry, holds_no_room, holds_exit}
use Rattle.ledger.proofs.calls.Opening.{open_holds, open_rest}
use Rattle.ledger.proofs.calls.Editing.{edit_judged, edit_exactly, edit_holds, edit_rest}
use Rattle.ledger.proofs.histories.Orders.{oldest_length, oldest_drop, frame_order, entries_order, bytes_order, gather, gather_order, made_append}

module _ (B : FrameBook) (F : Format) (L : Lawful B F) where
  -- the record of f with the edits h stands at the start of what was `own`, and the rest is as it was there
  pub record Stands (f : List ℕ) (h : List Correction) (own b : List ℕ) : Type 0 where
    pub holds : Holds B F f h b
    pub rest : holds.rest ≡ drop (16 + length f + size F * length h) own

  pub opened_stands : (f buf : List ℕ) → Bytes f → open_answer B F f buf ≡ accepted tt → Stands f [] buf (open_exit B F f buf)
  opened_stands f buf y e = record {
    holds = open_holds B F L f buf y e;
    rest = open_rest B F L f buf y e ∙ (let z : 16 + length f ≡ 16 + length f + size F * 0 = rw (mul-zero (size F)) (omega arith) in ap (λ (n : ℕ). drop n buf) z);
  }

  edited_stands : (f : List ℕ) (h : List Correction) (own b : List ℕ) (c : Correction) (o : Done) → edit_answer B F b c ≡ o → Stands f h own b
      → Stands f (keep o c h) own (leaves o b (edit_written B F b c))
  edited_stands f h own b c (accepted u) q S =
      let H = S.holds in
      let a = (edit_exactly B F b c (edit_judged B F b c q)).0 q in
      let n : 16 + length f + size F * length h + size F ≡ 16 + length f + size F * suc (length h) = rw (mul-suc (size F) (length h)) (omega arith) in
      record {
        holds = edit_holds B F L f h b H c a;
        rest = edit_rest B F L f h b H c a ∙ ap (drop (size F)) S.rest ∙ drop-drop (size F) (16 + length f + size F * length h) own ∙ ap (λ (k : ℕ). drop k own) n;
      }
  edited_stands f h own b c (refused n p) q S = S

  pub call_stands : (f : List ℕ) (h : List Correction) (own b : List ℕ) (c : Correction) → Stands f h own b
      → Stands f (keep (edit_answer B F b c) c h) own (edit_exit B F b c)
  unfolding edit_exit
  call_stands f h own b c S = edited_stands f h own b c (edit_answer B F b c) refl S

  pub edit_all_stands : (f : List ℕ) (h : List Correction) (own b : List ℕ) (cs : List Correction) → Stands f h own b → Stands f (gather B F b h cs) own (edit_all B F b cs)
  unfolding gather edit_all
  edit_all_stands f h own b [] S = S
  edit_all_stands f h own b (c ∷ cs) S = edit_all_stands f (keep (edit_answer B F b c) c h) own (edit_exit B F b c) cs (call_stands f h own b c S)

  -- ---- an accepted frame f, opened in a buffer; any calls cs
  module _ (f buf : List ℕ) (y : Bytes f) (e : open_answer B F f buf ≡ accepted tt) (cs : List Correction) where
    -- the edits that were accepted, newest first, and the buffer after the calls
    edits : List Correction
    edits = gather B F (open_exit B F f buf) [] cs

    last : List ℕ
    last = record_after B F f buf cs

    stands : Stands f edits buf last
    unfolding edits last
    stands = edit_all_stands f [] buf (open_exit B F f buf) cs (opened_stands f buf y e)

    in_order : oldest_first edits ≡ accepted_edits B F f buf cs
    unfolding edits oldest_first
    in_order = gather_order B F (open_exit B F f buf) [] cs

    as_many : length edits ≡ length (accepted_edits B F f buf cs)
    as_many = sym (oldest_length edits) ∙ ap length in_order

    pub forward_accepted : record_verdict B F (record_after B F f buf cs) ≡ accepted tt
    unfolding last
    forward_accepted = holds_judged B F L f edits last stands.holds

    pub forward_count : count_in (record_after B F f buf cs) ≡ length (accepted_edits B F f buf cs)
    unfolding last
    forward_count = (holds_reads B F L f edits last stands.holds).count_is ∙ as_many

    pub forward_length : length_in (record_after B F f buf cs) ≡ length f
    unfolding last
    forward_length = (holds_reads B F L f edits last stands.holds).length_is

    pub forward_frame : frame_in (record_after B F f buf cs) ≡ frame_after B f (accepted_edits B F f buf cs)
    unfolding last
    forward_frame = holds_frame B F L f edits last stands.holds ∙ frame_order B f edits ∙ ap (frame_after B f) in_order

    pub forward_entries : oldest_first (entries_in F (record_after B F f buf cs)) ≡ entries_of B f (accepted_edits B F f buf cs)
    unfolding last
    forward_entries = ap oldest_first (holds_entries B F L f edits last stands.holds) ∙ entries_order B f edits ∙ ap (entries_of B f) in_order

    pub forward_total : total_in F (record_after B F f buf cs) ≡ 16 + length f + size F * length (accepted_edits B F f buf cs)
    unfolding last
    forward_total = holds_total B F L f edits last stands.holds ∙ ap (λ (n : ℕ). 16 + length f + size F * n) as_many

    -- bytes at and past the total are the caller's own
    pub forward_rest : drop (total_in F (record_after B F f buf cs)) (record_after B F f buf cs) ≡ drop (total_in F (record_after B F f buf cs)) buf
    unfolding last
    forward_rest = holds_rest B F L f edits last stands.holds ∙ stands.rest ∙ ap (λ (n : ℕ). drop n buf) (sym (holds_total B F L f edits last stands.holds))

    -- every byte: the header of f's length and the count, the frame after the accepted edits, their entries in order, and the caller's own beyond
    pub forward_whole : record_after B F f buf cs
        ≡ header F (length f) (length (accepted_edits B F f buf cs))
        ++ (frame_after B f (accepted_edits B F f buf cs)
        ++ (bytes_of F (entries_of B f (accepted_edits B F f buf cs)) ++ drop (16 + length f + size F * length (accepted_edits B F f buf cs)) buf))
    unfolding last
    forward_whole =
        let g : frame_of B f edits ≡ frame_after B f (accepted_edits B F f buf cs) = frame_order B f edits ∙ ap (frame_after B f) in_order in
        let x : entries_bytes F (entries_made B f edits) ≡ bytes_of F (entries_of B f (accepted_edits B F f buf cs))
        = bytes_order F (entries_made B f edits) ∙ ap (bytes_of F) (entries_order B f edits ∙ ap (entries_of B f) in_order) in
        stands.holds.is ∙ rw (stands.rest, g, x, as_many)

    -- and the buffer holds bytes again
    pub forward_bytes : Bytes buf → Bytes (record_after B F f buf cs)
    unfolding last
    forward_bytes z = holds_bytes B F L f edits last stands.holds (rw stands.rest (below_drop (16 + length f + size F * length edits) buf 256 z))

    -- ---- restoring to k
    frame_k : (k : ℕ) → k ≤ length edits → frame_of B f (drop (length edits - k) edits) ≡ frame_after B f (take k (accepted_edits B F f buf cs))
    frame_k k h =
        let m : length edits - (length edits - k) ≡ k = omega arith in
        frame_order B f (drop (length edits - k) edits) ∙ ap (frame_after B f) (oldest_drop edits (length edits - k) (omega arith) ∙ rw (m, in_order))

    pub forward_restores : (k : ℕ) (out : List ℕ) → k ≤ length (accepted_edits B F f buf cs) → length f ≤ length out
        → (restore_answer B F (record_after B F f buf cs) k out ≡ accepted tt)
        × (restore_exit B F (record_after B F f buf cs) k out ≡ frame_after B f (take k (accepted_edits B F f buf cs)) ++ drop (length f) out)
    unfolding last
    forward_restores k out h room =
        let m : k ≤ length edits = rw as_many h in
        (holds_restores B F L f edits last stands.holds k out m room, holds_exit B F L f edits last stands.holds k out m room ∙ ap (λ (g : List ℕ). g ++ drop (length f) out) (frame_k k m))

    pub forward_no_entry : (k : ℕ) (out : List ℕ) → length (accepted_edits B F f buf cs) < k
        → restore_answer B F (record_after B F f buf cs) k out ≡ refused 26 0
    unfolding last
    forward_no_entry k out h = holds_no_entry B F L f edits last stands.holds k out (rw as_many h)

    pub forward_no_room : (k : ℕ) (out : List ℕ) → k ≤ length (accepted_edits B F f buf cs) → length out < length f
        → restore_answer B F (record_after B F f buf cs) k out ≡ refused 12 0
    unfolding last
    forward_no_room k out h room = holds_no_room B F L f edits last stands.holds k out (rw as_many h) room

    -- k = 0: the frame as recorded
    pub forward_first : (out : List ℕ) → length f ≤ length out → restore_exit B F (record_after B F f buf cs) 0 out ≡ f ++ drop (length f) out
    unfolding frame_after
    forward_first out room = (forward_restores 0 out (omega arith) room).1

  -- ---- the frame that stood: at a point of the calls with k accepted before it, the record's frame is the one that restoring to k gives later
  pub stood : (f buf : List ℕ) (y : Bytes f) (e : open_answer B F f buf ≡ accepted tt) (cs ds : List Correction) (out : List ℕ) → length f ≤ length out
      → (restore_answer B F (record_after B F f buf (cs ++ ds)) (length (accepted_edits B F f buf cs)) out ≡ accepted tt)
      × (restore_exit B F (record_after B F f buf (cs ++ ds)) (length (accepted_edits B F f buf cs)) out ≡ frame_in (record_after B F f buf cs) ++ drop (length f) out)
  stood f buf y e cs ds out room =
      let b = open_exit B F f buf in
      let m = made B F b cs in
      let t = made B F (edit_all B F b cs) ds in
      let q : made B F b (cs ++ ds) ≡ m ++ t = made_append B F b cs ds in
      let l : length m ≤ length (made B F b (cs ++ ds)) = rw (q, length-append m t) (omega arith) in
      let k : take (length m) (made B F b (cs ++ ds)) ≡ m = rw q (take-append_seam m t) in
      let r = forward_restores f buf y e (cs ++ ds) (length m) out l room in
      (r.0, r.1 ∙ rw (k, forward_frame f buf y e cs))

module _ (B : FrameBook) (F : Format) where
  -- there is such a point for every k up to the number of accepted calls
  point_after : (b : List ℕ) (c : Correction) (cs : List Correction) (k : ℕ) (o : Done) → edit_answer B F b c ≡ o → Point B F (edit_exit B F b c) cs k
      → Point B F b (c ∷ cs) (length (keep o c []) + k)
  unfolding made
  point_after b c cs k (accepted u) q P = record {
    earlier = c ∷ P.earlier;
    later = P.later;
    parts = ap (λ (l : List Correction). c ∷ l) P.parts;
    count = rw q (let h = P.count in omega arith);
  }
  point_after b c cs k (refused n p) q P = record {
    earlier = c ∷ P.earlier;
    later = P.later;
    parts = ap (λ (l : List Correction). c ∷ l) P.parts;
    count = rw q (let h = P.count in omega arith);
  }

  pub point : (b : List ℕ) (cs : List Correction) (k : ℕ) → k ≤ length (made B F b cs) → Point B F b cs k
  unfolding made
  point b [] k h = record { earlier = []; later = []; parts = refl; count = omega arith }
  point b (c ∷ cs) k h = go (edit_answer B F b c) refl (point (edit_exit B F b c) cs) k h
    where
      go : (o : Done) → edit_answer B F b c ≡ o → ((j : ℕ) → j ≤ length (made B F (edit_exit B F b c) cs) → Point B F (edit_exit B F b c) cs j)
          → (k : ℕ) → k ≤ length (keep (edit_answer B F b c) c (made B F (edit_exit B F b c) cs)) → Point B F b (c ∷ cs) k
      go o q P zero h = record { earlier = []; later = c ∷ cs; parts = refl; count = refl }
      go (accepted u) q P (suc k) h =
          let l : suc k ≤ suc (length (made B F (edit_exit B F b c) cs)) = rw q at h in
          let z : 1 + k ≡ suc k = omega arith in
          rw z at (point_after b c cs k (accepted u) q (P k (omega arith)))
      go (refused n p) q P (suc k) h =
          let z : 0 + suc k ≡ suc k = omega arith in
          rw z at (point_after b c cs (suc k) (refused n p) q (P (suc k) (rw q at h)))
