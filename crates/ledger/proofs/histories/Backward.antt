-- T30, T31. A history backward: an accepted record is what opening the frame it restores to, in that very buffer, and making its entries again
-- makes, every call accepted and every byte the same; and no other frame and no other accepted edits make it.
-- Assumes nothing but the laws of the book and the format.
use Prim.Native.Nat.{ℕ, ◌+◌, ◌-◌, ◌≤◌}
use mathlib.Core.Path.{◌≡◌, refl, sym, ap, ◌∙◌}
use mathlib.Core.Logic.{◌↔◌}
use mathlib.Core.Bool.{true}
use mathlib.Core.Option.{some}
use mathlib.Core.List.{List, [], ◌∷◌, ◌++◌, append_assoc, map}
use native.Mathlib.Omega.{arith}
use lib.ListN.{length, drop, length-append, take-append-drop}
use lib.Seq.{drop_at, drop-length, take_all}
use Rattle.format.specs.Words.{Bytes}
use Rattle.format.specs.Answers.{accepted}
use Rattle.format.specs.Spots.{revalued}
use Rattle.ledger.specs.Frames.{FrameBook, Accepted, Settable}
use Rattle.ledger.specs.Formats.{Entry, Correction, Format, Lawful, size}
use Rattle.ledger.specs.Records.{header, length_in, count_in, total_in, frame_in, entry_bytes, entries_in, length_entries, before, history_verdict, record_verdict}
use Rattle.ledger.specs.Calls.{entry_for, undone, restored, open_answer, open_exit, edit_answer, edit_exit}
use Rattle.ledger.specs.Chains.{Fits}
use Rattle.ledger.specs.Histories.{oldest_first, correction_of, edit_all, made, Sequence}
use Rattle.ledger.proofs.records.Codecs.{Good, entries_bytes, entry_length, bytes_part}
use Rattle.ledger.proofs.records.Headers.{header_words, frame_length, record_bytes}
use Rattle.ledger.proofs.records.Judging.{fits_right, step_accepted, verdict_parts}
use Rattle.ledger.proofs.histories.Edits.{frame_of, frame_none, entries_made, entries_count, Legal, Valid, valid_none, valid_more, valid_newest, valid_older, frame_same, entries_good}
use Rattle.ledger.proofs.histories.Holding.{Holds, holds_entries, holds_head, holds_length, holds_taken, holds_judged, holds_restored}
use Rattle.ledger.proofs.calls.Opening.{open_exactly, open_whole}
use Rattle.ledger.proofs.calls.Editing.{edit_holds, edit_rest, edit_exactly, legal_edit, exit_written}
use Rattle.ledger.proofs.histories.Orders.{oldest_map, correction_back, gather, gathered, edit_all_append, made_append}
use Rattle.ledger.proofs.histories.Forward.{opened_stands, edit_all_stands}

module _ (B : FrameBook) (F : Format) (L : Lawful B F) where
  -- ---- entries that fit, undone: the frame they lead back to, and their corrections as a history of it
  record Undone (g : List ℕ) (es : List Entry) : Type 0 where
    first : Accepted B (undone B g es)
    valid : Valid B F (undone B g es) (map correction_of es)
    frame : g ≡ frame_of B (undone B g es) (map correction_of es)
    entries : es ≡ entries_made B (undone B g es) (map correction_of es)

  module _ (g : List ℕ) (e : Entry) (j : Accepted B g) (t : Fits B F g e) where
    before_settable : Settable B g e.word e.old t.spot
    before_settable = record { frame = j; stands = t.stands; legal = rw t.kind t.old }

    before_spot : B.spot (before B g e) e.word ≡ some (revalued t.spot e.old)
    before_spot = L.book.put_there g e.word e.old t.spot before_settable

    new_legal : B.legal t.spot.kind e.new ≡ true
    new_legal = rw (← t.new) (L.book.standing g e.word t.spot j t.stands)

    -- on the frame before it the entry's correction may be made, makes this entry, and leads to the frame it fits
    before_legal : Legal B F (before B g e) (correction_of e)
    before_legal = record {
      spot = revalued t.spot e.old;
      stands = before_spot;
      suits = rw (L.format.suits_revalued e.extra t.spot e.old) t.suits;
      legal = new_legal;
      changed = t.changed;
      operator = t.operator;
      reason = t.reason;
      good = t.good;
    }

    before_entry : entry_for B (before B g e) (correction_of e) ≡ e
    before_entry = rw (before_spot, t.kind)

    before_again : B.put (before B g e) e.word e.new ≡ g
    before_again =
        let s : Settable B g e.word e.new t.spot = record { frame = j; stands = t.stands; legal = new_legal } in
        L.book.put_again g e.word e.old e.new t.spot before_settable s ∙ rw (← t.new) (L.book.put_back g e.word t.spot j t.stands)

  undone_step : (g : List ℕ) (e : Entry) (es : List Entry) → Accepted B g → Fits B F g e → Undone (before B g e) es → Undone g (e ∷ es)
  unfolding undone frame_of entries_made
  undone_step g e es j t U = record {
    first = U.first;
    valid = valid_more B F _ (correction_of e) (map correction_of es) (rw U.frame at (before_legal g e j t)) U.valid;
    frame = rw (← U.frame) (sym (before_again g e j t));
    entries = rw (← U.frame, before_entry g e j t, ← U.entries);
  }

  all_undone : (g : List ℕ) (es : List Entry) → Accepted B g → history_verdict B F g es ≡ accepted tt → Undone g es
  unfolding undone frame_of entries_made
  all_undone g [] j h = record { first = j; valid = valid_none B F g; frame = refl; entries = refl }
  all_undone g (e ∷ es) j h =
      let s = step_accepted B F g e es h in
      let t = fits_right B F g e s.0 in
      let p = before_settable g e j t in
      undone_step g e es j t (all_undone (before B g e) es (L.book.put_accepted g e.word e.old t.spot p) s.1)

  -- ---- an accepted record holds the frame that it restores to, with its entries' corrections
  restored_all : (b : List ℕ) → restored B F b 0 ≡ undone B (frame_in b) (entries_in F b)
  unfolding restored
  restored_all b = ap (undone B (frame_in b)) (take_all (count_in b - 0) (entries_in F b) (rw (length_entries F b (count_in b)) (omega arith)))

  pub accepted_holds : (b : List ℕ) → Bytes b → record_verdict B F b ≡ accepted tt → Holds B F (restored B F b 0) (map correction_of (entries_in F b)) b
  accepted_holds b y e =
      let p = verdict_parts B F b e in
      let hr = header_words F b p.0 in
      let U = all_undone (frame_in b) (entries_in F b) (record { bytes = bytes_part b 16 (length_in b) y; judged = p.1 }) p.2 in
      let f = undone B (frame_in b) (entries_in F b) in
      let h = map correction_of (entries_in F b) in
      let len : length f ≡ length_in b = sym (frame_same B F L f h U.first U.valid) ∙ rw (← U.frame) (frame_length F b hr) in
      let n : length h ≡ count_in b = sym (entries_count B f h) ∙ rw (← U.entries) (length_entries F b (count_in b)) in
      let g : Good F (entries_in F b) = rw U.entries (entries_good B F L f h U.valid) in
      rw (restored_all b)
      (record {
        rest = drop (total_in F b) b;
        is = rw (len, n, ← U.frame, ← U.entries) (record_bytes F L.format b hr y g);
        first = U.first;
        valid = U.valid;
        limit = rw (← U.entries) hr.limit;
      })

  -- ---- and the calls make it
  pub record Replayed (f : List ℕ) (h : List Correction) (b r : List ℕ) : Type 0 where
    pub bytes : edit_all B F b (oldest_first h) ≡ header F (length f) (length h) ++ (frame_of B f h ++ (entries_bytes F (entries_made B f h) ++ r))
    pub all : made B F b (oldest_first h) ≡ oldest_first h

  older_limit : (f : List ℕ) (c : Correction) (h : List Correction) → F.limit (entries_made B f (c ∷ h)) ≡ true → F.limit (entries_made B f h) ≡ true
  unfolding entries_made
  older_limit f c h m = L.format.limit_older (entry_for B (frame_of B f h) c) (entries_made B f h) m

  entries_cons : (f : List ℕ) (c : Correction) (h : List Correction)
      → entries_bytes F (entries_made B f (c ∷ h)) ≡ entries_bytes F (entries_made B f h) ++ entry_bytes F (entry_for B (frame_of B f h) c)
  unfolding entries_made entries_bytes
  entries_cons f c h = refl

  edit_all_one : (b : List ℕ) (c : Correction) → edit_all B F b (c ∷ []) ≡ edit_exit B F b c
  unfolding edit_all
  edit_all_one b c = refl

  made_one : (b : List ℕ) (c : Correction) → edit_answer B F b c ≡ accepted tt → made B F b (c ∷ []) ≡ c ∷ []
  unfolding made
  made_one b c e = rw e

  one_more : (f : List ℕ) (c : Correction) (h : List Correction) (b r : List ℕ) → Accepted B f → Valid B F f (c ∷ h) → F.limit (entries_made B f (c ∷ h)) ≡ true
      → Replayed f h b (entry_bytes F (entry_for B (frame_of B f h) c) ++ r) → Replayed f (c ∷ h) b r
  unfolding oldest_first
  one_more f c h b r j v m R =
      let x = entry_bytes F (entry_for B (frame_of B f h) c) in
      let l = valid_newest B F f c h v in
      let lx : length x ≡ size F = entry_length F L.format (entry_for B (frame_of B f h) c) l.good in
      let lr : size F ≤ length (x ++ r) = rw (length-append x r) (omega arith) in
      let b₂ = edit_all B F b (oldest_first h) in
      let H : Holds B F f h b₂ = record { rest = x ++ r; is = R.bytes; first = j; valid = valid_older B F f c h v; limit = older_limit f c h m } in
      let D : edit_answer B F b₂ c ≡ accepted tt = legal_edit B F L f h b₂ H c l m lr in
      let a = (edit_exactly B F b₂ c (holds_judged B F L f h b₂ H)).0 D in
      record {
        bytes =
            edit_all_append B F b (oldest_first h) (c ∷ [])
            ∙ edit_all_one b₂ c
            ∙ exit_written B F b₂ c D
            ∙ rw (edit_rest B F L f h b₂ H c a, drop_at x r (size F) lx) at (edit_holds B F L f h b₂ H c a).is;
        all = made_append B F b (oldest_first h) (c ∷ []) ∙ rw R.all (ap (λ (d : List Correction). oldest_first h ++ d) (made_one b₂ c D));
      }

  replay : (f : List ℕ) (h : List Correction) (b r : List ℕ) → Accepted B f → Valid B F f h → F.limit (entries_made B f h) ≡ true
      → b ≡ header F (length f) 0 ++ (f ++ (entries_bytes F (entries_made B f h) ++ r)) → Replayed f h b r
  unfolding oldest_first edit_all made frame_of
  replay f [] b r j v m e = record { bytes = e; all = refl }
  replay f (c ∷ h) b r j v m e =
      let eb = entries_bytes F (entries_made B f h) in
      let x = entry_bytes F (entry_for B (frame_of B f h) c) in
      let e₂ : b ≡ header F (length f) 0 ++ (f ++ (eb ++ (x ++ r))) = rw (entries_cons f c h, append_assoc eb x r) at e in
      one_more f c h b r j v m (replay f h b (x ++ r) j (valid_older B F f c h v) (older_limit f c h m) e₂)

  -- ---- T30: opening the restored frame in the very buffer, and making the entries again
  module _ (f : List ℕ) (h : List Correction) (b : List ℕ) (H : Holds B F f h b) where
    holds_opens : open_answer B F f b ≡ accepted tt
    holds_opens = let q = holds_length B F L f h b H in (open_exactly B F f b).1 (H.first.judged, omega arith)

    holds_replays : Replayed f h (open_exit B F f b) H.rest
    holds_replays =
        let hd = header F (length f) (length h) in
        let g = frame_of B f h in
        let q = entries_bytes F (entries_made B f h) ++ H.rest in
        let d : drop (16 + length f) b ≡ q = ap (drop (16 + length f)) (H.is ∙ sym (append_assoc hd g q)) ∙ drop_at (hd ++ g) q (16 + length f) (holds_head B F L f h b H) in
        replay f h (open_exit B F f b) H.rest H.first H.valid H.limit (rw d at (open_whole B F f b holds_opens))

    holds_makes : edit_all B F (open_exit B F f b) (oldest_first h) ≡ b
    holds_makes = holds_replays.bytes ∙ sym H.is

  module _ (b : List ℕ) (y : Bytes b) (e : record_verdict B F b ≡ accepted tt) where
    pub restored_first : Accepted B (restored B F b 0)
    restored_first = (accepted_holds b y e).first

    pub backward_opens : open_answer B F (restored B F b 0) b ≡ accepted tt
    backward_opens = holds_opens (restored B F b 0) (map correction_of (entries_in F b)) b (accepted_holds b y e)

    pub backward_makes : edit_all B F (open_exit B F (restored B F b 0) b) (map correction_of (oldest_first (entries_in F b))) ≡ b
    backward_makes = rw (← oldest_map correction_of (entries_in F b)) (holds_makes (restored B F b 0) (map correction_of (entries_in F b)) b (accepted_holds b y e))

    pub backward_all : made B F (open_exit B F (restored B F b 0) b) (map correction_of (oldest_first (entries_in F b))) ≡ map correction_of (oldest_first (entries_in F b))
    backward_all = rw (← oldest_map correction_of (entries_in F b)) (holds_replays (restored B F b 0) (map correction_of (entries_in F b)) b (accepted_holds b y e)).all

    -- all three at once
    pub backward_again : (open_answer B F (restored B F b 0) b ≡ accepted tt)
        × (edit_all B F (open_exit B F (restored B F b 0) b) (map correction_of (oldest_first (entries_in F b))) ≡ b)
        × (made B F (open_exit B F (restored B F b 0) b) (map correction_of (oldest_first (entries_in F b))) ≡ map correction_of (oldest_first (entries_in F b)))
    backward_again = (backward_opens, backward_makes, backward_all)

    -- so calls on any accepted record are calls that follow its own
    pub backward_continues : (cs : List Correction)
        → edit_all B F b cs ≡ edit_all B F (open_exit B F (restored B F b 0) b) (map correction_of (oldest_first (entries_in F b)) ++ cs)
    backward_continues cs = sym (edit_all_append B F (open_exit B F (restored B F b 0) b) (map correction_of (oldest_first (entries_in F b))) cs ∙ ap (λ (x : List ℕ). edit_all B F x cs) backward_makes)

    pub backward_sequence : Sequence B F b
    backward_sequence = record {
      origin = restored B F b 0;
      buffer = b;
      calls = map correction_of (oldest_first (entries_in F b));
      bytes = restored_first.bytes;
      opened = backward_opens;
      whole = rw backward_makes (header_words F b (verdict_parts B F b e).0).room;
      same = rw backward_makes;
    }

  -- ---- a sequence that makes the bytes b begins with
  sequence_holds : (b : List ℕ) (S : Sequence B F b) → Holds B F S.origin (gather B F (open_exit B F S.origin S.buffer) [] S.calls) b
  sequence_holds b S =
      let f = S.origin in
      let b₀ = open_exit B F f S.buffer in
      let b₂ = edit_all B F b₀ S.calls in
      let h = gather B F b₀ [] S.calls in
      let H = (edit_all_stands B F L f [] S.buffer b₀ S.calls (opened_stands B F L f S.buffer S.bytes S.opened)).holds in
      record {
        rest = drop (total_in F b₂) b;
        is = sym (take-append-drop (total_in F b₂) b) ∙ rw (S.same, holds_taken B F L f h b₂ H) (simp append_assoc);
        first = H.first;
        valid = H.valid;
        limit = H.limit;
      }

  pub sequence_accepted : (b : List ℕ) → Sequence B F b → record_verdict B F b ≡ accepted tt
  sequence_accepted b S = holds_judged B F L S.origin (gather B F (open_exit B F S.origin S.buffer) [] S.calls) b (sequence_holds b S)

  -- accepted exactly where some sequence makes its bytes
  pub accepted_exactly : (b : List ℕ) → Bytes b → (record_verdict B F b ≡ accepted tt) ↔ Sequence B F b
  accepted_exactly b y = (backward_sequence b y, sequence_accepted b)

  -- ---- T31: the frame and the accepted edits are the only ones
  holds_frame_only : (f : List ℕ) (h : List Correction) (b : List ℕ) → Holds B F f h b → f ≡ restored B F b 0
  holds_frame_only f h b H =
      let z : length h - 0 ≡ length h = omega arith in
      sym (holds_restored B F L f h b H 0 ∙ ap (frame_of B f) (rw z (drop-length h)) ∙ frame_none B f)

  holds_edits_only : (f : List ℕ) (h : List Correction) (b : List ℕ) → Holds B F f h b → h ≡ map correction_of (entries_in F b)
  holds_edits_only f h b H = sym (ap (map correction_of) (holds_entries B F L f h b H) ∙ correction_back B f h)

  pub sequence_only : (b : List ℕ) (S : Sequence B F b)
      → (S.origin ≡ restored B F b 0) × (made B F (open_exit B F S.origin S.buffer) S.calls ≡ map correction_of (oldest_first (entries_in F b)))
  sequence_only b S =
      let b₀ = open_exit B F S.origin S.buffer in
      let h = gather B F b₀ [] S.calls in
      let H = sequence_holds b S in
      (holds_frame_only S.origin h b H, sym (gathered B F b₀ S.calls) ∙ ap oldest_first (holds_edits_only S.origin h b H) ∙ oldest_map correction_of (entries_in F b))
