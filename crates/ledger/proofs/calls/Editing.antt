-- T28. An edit of an accepted record: accepted exactly where no listed reason forbids it, else refused by the first; and every byte it leaves.
-- Assumes nothing but the laws of the book and the format.
use Prim.Native.Nat.{ℕ, suc, ◌+◌, ◌*◌, ◌≤◌}
use mathlib.Core.Path.{◌≡◌, refl, sym, ◌∙◌}
use mathlib.Core.Logic.{◌↔◌}
use mathlib.Core.Bool.{true, ◌&&◌}
use mathlib.Core.List.{List, ◌∷◌, ◌++◌, append_assoc}
use mathlib.Core.Option.{some-injective}
use native.Mathlib.Nat.{mul-suc}
use native.Mathlib.Numerals.{add-one}
use native.Mathlib.Omega.{arith}
use lib.ListN.{length, take, drop, length-append, take-append-drop}
use lib.Seq.{sets, length-take-le}
use borrow.Author.Tests.{leb-true, eqb-false, le-leb, ne_eqb, not-true}
use Rattle.format.specs.Words.{bytes}
use Rattle.format.specs.Answers.{accepted, refused, first_of}
use Rattle.format.specs.Spots.{Spot}
use Rattle.format.proofs.book.PrefixLaws.{and_left, and_right}
use Rattle.ledger.specs.Tests.{FirstRefusal}
use Rattle.ledger.specs.Frames.{FrameBook}
use Rattle.ledger.specs.Formats.{Correction, Format, Lawful, size}
use Rattle.ledger.specs.Records.{header, frame_in, entry_bytes, signed, record_verdict}
use Rattle.ledger.specs.Calls.{entry_for, new_value, set_word, edit_tests, edit_answer, edit_written, edit_exit}
use Rattle.ledger.specs.Chains.{Allowed}
use Rattle.ledger.proofs.answers.Answering.{need_holds, first_at, refused_first, first_refused}
use Rattle.format.proofs.items.StoringLaws.{sets_mid}
use Rattle.ledger.proofs.records.Codecs.{header_length, entries_bytes, entry_length}
use Rattle.ledger.proofs.records.Judging.{signed_right, right_signed, at_spot_lem}
use Rattle.ledger.proofs.histories.Edits.{frame_of, entries_made, Legal, valid_more, settable, frame_accepted, frame_same}
use Rattle.ledger.proofs.histories.Holding.{Holds, made_length, holds_reads, holds_frame, holds_entries, holds_total, holds_length, holds_judged}

module _ (B : FrameBook) (F : Format) where
  -- ---- the listed reasons
  pub edit_judged : (b : List ℕ) (c : Correction) → edit_answer B F b c ≡ accepted tt → record_verdict B F b ≡ accepted tt
  unfolding edit_answer edit_tests
  edit_judged b c e = first_at _ 0 e

  new_right : (c : Correction) (s : Spot) → new_value B c s ≡ true → (B.legal s.kind c.value ≡ true) × (s.value ≡ c.value → ⊥)
  unfolding new_value
  new_right c s v = (and_left _ _ v, eqb-false _ _ (not-true _ (and_right (B.legal s.kind c.value) _ v)))

  right_new : (c : Correction) (s : Spot) → B.legal s.kind c.value ≡ true → (s.value ≡ c.value → ⊥) → new_value B c s ≡ true
  unfolding new_value
  right_new c s l n = rw (l, ne_eqb _ _ n)

  edit_allowed : (b : List ℕ) (c : Correction) → edit_answer B F b c ≡ accepted tt → Allowed B F b c
  unfolding edit_answer edit_tests
  edit_allowed b c e =
      let o = B.spot (frame_in b) c.word in
      let t = at_spot_lem o (F.suits c.extra) (need_holds _ 22 0 (first_at _ 2 e)) in
      let v = at_spot_lem o (new_value B c) (need_holds _ 23 0 (first_at _ 3 e)) in
      let q : t.spot ≡ v.spot = some-injective t.spot v.spot (sym t.stands ∙ v.stands) in
      let w = new_right c v.spot v.passes in
      let s : (signed c.operator c.reason && F.good c.extra) ≡ true = need_holds _ 24 0 (first_at _ 4 e) in
      record {
        asked = first_at _ 1 e;
        spot = v.spot;
        stands = v.stands;
        suits = rw q at t.passes;
        legal = w.0;
        changed = w.1;
        operator = (signed_right _ _ (and_left _ _ s)).0;
        reason = (signed_right _ _ (and_left _ _ s)).1;
        good = and_right (signed c.operator c.reason) _ s;
        limit = need_holds _ 25 0 (first_at _ 5 e);
        room = leb-true _ _ (need_holds _ 12 0 (first_at _ 6 e));
      }

  allowed_edit : (b : List ℕ) (c : Correction) → record_verdict B F b ≡ accepted tt → Allowed B F b c → edit_answer B F b c ≡ accepted tt
  unfolding edit_answer edit_tests first_of
  allowed_edit b c j a =
      rw (j, a.asked, a.limit, a.stands, a.suits, right_new c a.spot a.legal a.changed, right_signed _ _ a.operator a.reason, a.good, le-leb _ _ a.room)

  -- T28: accepted exactly where no listed reason stands
  pub edit_exactly : (b : List ℕ) (c : Correction) → record_verdict B F b ≡ accepted tt → (edit_answer B F b c ≡ accepted tt) ↔ Allowed B F b c
  edit_exactly b c j = (edit_allowed b c, allowed_edit b c j)

  -- T28: else refused by the first of the tests that refuses, in their order
  pub edit_refused : (b : List ℕ) (c : Correction) (n p : ℕ) → (edit_answer B F b c ≡ refused n p) ↔ FirstRefusal (edit_tests B F b c) n p
  unfolding edit_answer
  edit_refused b c n p = (refused_first _ n p, λ w. first_refused _ n p w.at w.refuses w.earlier)

  pub exit_written : (b : List ℕ) (c : Correction) → edit_answer B F b c ≡ accepted tt → edit_exit B F b c ≡ edit_written B F b c
  unfolding edit_exit
  exit_written b c e = rw e

  pub exit_found : (b : List ℕ) (c : Correction) (n p : ℕ) → edit_answer B F b c ≡ refused n p → edit_exit B F b c ≡ b
  unfolding edit_exit
  exit_found b c n p e = rw e

-- the two words of a header that an edit changes
header_put : (F : Format) (len n m : ℕ) (t : List ℕ) → set_word (set_word (header F len n ++ t) 5 m) 6 (16 + len + size F * m) ≡ header F len m ++ t
unfolding header bytes
header_put F len n m t = refl

module _ (B : FrameBook) (F : Format) (L : Lawful B F) where
  module _ (f : List ℕ) (h : List Correction) (b : List ℕ) (H : Holds B F f h b) where
    pub edit_legal : (c : Correction) → Allowed B F b c → Legal B F (frame_of B f h) c
    edit_legal c a = record {
      spot = a.spot;
      stands = rw (holds_frame B F L f h b H) at a.stands;
      suits = a.suits;
      legal = a.legal;
      changed = a.changed;
      operator = a.operator;
      reason = a.reason;
      good = a.good;
    }

    -- the other way round: what may be made on the frame is allowed, if there is room for it
    pub legal_edit : (c : Correction) → Legal B F (frame_of B f h) c → F.limit (entries_made B f (c ∷ h)) ≡ true → size F ≤ length H.rest
        → edit_answer B F b c ≡ accepted tt
    unfolding entries_made
    legal_edit c l m r = allowed_edit B F b c (holds_judged B F L f h b H) (record {
      asked = L.format.asked_suits c.extra l.spot l.good l.suits;
      spot = l.spot;
      stands = rw (holds_frame B F L f h b H) l.stands;
      suits = l.suits;
      legal = l.legal;
      changed = l.changed;
      operator = l.operator;
      reason = l.reason;
      good = l.good;
      limit = rw (holds_frame B F L f h b H, holds_entries B F L f h b H) m;
      room = rw (holds_total B F L f h b H) (let q = holds_length B F L f h b H in omega arith);
    })

    pub edit_room : (c : Correction) → Allowed B F b c → size F ≤ length H.rest
    edit_room c a =
        let r : 16 + length f + size F * length h + size F ≤ length b = rw (holds_total B F L f h b H) at a.room in
        let l = holds_length B F L f h b H in
        omega arith

    -- an accepted edit leaves the record with that edit as its newest
    pub edit_holds : (c : Correction) → Allowed B F b c → Holds B F f (c ∷ h) (edit_written B F b c)
    unfolding edit_written frame_of entries_made entries_bytes
    edit_holds c a =
        let g = frame_of B f h in
        let g₂ = B.put g c.word c.value in
        let eb = entries_bytes F (entries_made B f h) in
        let r = H.rest in
        let hd = header F (length f) (length h) in
        let hd₂ = header F (length f) (suc (length h)) in
        let x = entry_bytes F (entry_for B g c) in
        let j = frame_accepted B F L f h H.first H.valid in
        let l = edit_legal c a in
        let lg : length g₂ ≡ length g = L.book.put_length g c.word c.value l.spot (settable B F L g c j l) in
        let lx : length x ≡ size F = entry_length F L.format (entry_for B g c) l.good in
        let lr : length (take (size F) r) ≡ size F = length-take-le (size F) r (edit_room c a) in
        let s₁ : sets b 16 g₂ ≡ hd ++ (g₂ ++ (eb ++ r)) = rw H.is (sets_mid hd g (eb ++ r) g₂ 16 (header_length F (length f) (length h)) lg) in
        let w : edit_written B F b c ≡ sets (set_word (set_word (hd ++ (g₂ ++ (eb ++ r))) 5 (length h + 1)) 6 (16 + length f + size F * length h + size F)) (16 + length f + size F * length h) x
        = rw (holds_frame B F L f h b H, (holds_reads B F L f h b H).count_is, (holds_reads B F L f h b H).length_is, s₁) in
        let m : 16 + length f + size F * length h + size F ≡ 16 + length f + size F * suc (length h) = rw (mul-suc (size F) (length h)) (omega arith) in
        let lp : length ((hd₂ ++ g₂) ++ eb) ≡ 16 + length f + size F * length h
        = length-append (hd₂ ++ g₂) eb ∙ rw (length-append hd₂ g₂, header_length F (length f) (suc (length h)), lg, frame_same B F L f h H.first H.valid, made_length B F L f h b H) in
        let q : hd₂ ++ (g₂ ++ (eb ++ r)) ≡ ((hd₂ ++ g₂) ++ eb) ++ (take (size F) r ++ drop (size F) r) = rw (take-append-drop (size F) r) (simp append_assoc) in
        let s₃ : sets (((hd₂ ++ g₂) ++ eb) ++ (take (size F) r ++ drop (size F) r)) (16 + length f + size F * length h) x ≡ ((hd₂ ++ g₂) ++ eb) ++ (x ++ drop (size F) r)
        = sets_mid ((hd₂ ++ g₂) ++ eb) (take (size F) r) (drop (size F) r) x (16 + length f + size F * length h) lp (lx ∙ sym lr) in
        record {
          rest = drop (size F) r;
          is = w ∙ rw (m, add-one (length h), header_put F (length f) (length h) (suc (length h)) (g₂ ++ (eb ++ r)), q) (s₃ ∙ simp append_assoc);
          first = H.first;
          valid = valid_more B F f c h l H.valid;
          limit = rw (holds_frame B F L f h b H, holds_entries B F L f h b H) at a.limit;
        }

    pub edit_rest : (c : Correction) (a : Allowed B F b c) → (edit_holds c a).rest ≡ drop (size F) H.rest
    unfolding edit_holds
    edit_rest c a = refl
