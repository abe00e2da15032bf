-- Request 13, second sentence. Two neighbouring accepted edits of different items are accepted in the other order too, and leave the same frame.
-- Assumes nothing but the laws of the book and the format.
use Prim.Native.Nat.{ℕ, ◌≤◌}
use mathlib.Core.Path.{◌≡◌, sym, ◌∙◌}
use mathlib.Core.Bool.{true}
use mathlib.Core.List.{List, ◌∷◌, map}
use lib.ListN.{length}
use Rattle.format.specs.Words.{Bytes}
use Rattle.format.specs.Answers.{accepted}
use Rattle.format.specs.Spots.{Spot}
use Rattle.ledger.specs.Frames.{FrameBook, Accepted, Settable}
use Rattle.ledger.specs.Formats.{Correction, Format, Lawful, size}
use Rattle.ledger.specs.Records.{frame_in, entries_in}
use Rattle.ledger.specs.Calls.{entry_for, restored, edit_answer, edit_written, edit_exit}
use Rattle.ledger.specs.Chains.{Allowed}
use Rattle.ledger.specs.Histories.{correction_of}
use Rattle.ledger.proofs.histories.Edits.{frame_of, entries_made, Legal, settable, frame_accepted}
use Rattle.ledger.proofs.histories.Holding.{Holds, holds_frame}
use Rattle.ledger.proofs.calls.Editing.{edit_judged, edit_exactly, edit_legal, legal_edit, edit_room, edit_holds, edit_rest, exit_written}
use Rattle.ledger.proofs.histories.Backward.{accepted_holds}

module _ (B : FrameBook) (F : Format) (L : Lawful B F) where
  -- a correction may be made on every frame that has the same item there
  legal_on : (g h : List ℕ) (d : Correction) → B.spot h d.word ≡ B.spot g d.word → Legal B F g d → Legal B F h d
  legal_on g h d e l = record {
    spot = l.spot;
    stands = e ∙ l.stands;
    suits = l.suits;
    legal = l.legal;
    changed = l.changed;
    operator = l.operator;
    reason = l.reason;
    good = l.good;
  }

  -- what may be asked of one item does not depend on the value put in another
  module _ (g : List ℕ) (w v : ℕ) (s : Spot) (S : Settable B g w v s) (d : Correction) (n : d.word ≡ w → ⊥) where
    same_spot : B.spot (B.put g w v) d.word ≡ B.spot g d.word
    same_spot = L.book.put_elsewhere g w v s d.word S n

    same_entry : entry_for B (B.put g w v) d ≡ entry_for B g d
    same_entry = rw same_spot

    legal_before : Legal B F (B.put g w v) d → Legal B F g d
    legal_before = legal_on (B.put g w v) g d (sym same_spot)

    legal_after : Legal B F g d → Legal B F (B.put g w v) d
    legal_after = legal_on g (B.put g w v) d same_spot

  module _ (f : List ℕ) (h : List Correction) (b : List ℕ) (H : Holds B F f h b) (c d : Correction) (n : d.word ≡ c.word → ⊥)
      (a : Allowed B F b c) (a₂ : Allowed B F (edit_written B F b c) d) where
    g : List ℕ
    g = frame_of B f h

    judged : Accepted B g
    unfolding g
    judged = frame_accepted B F L f h H.first H.valid

    H₁ : Holds B F f (c ∷ h) (edit_written B F b c)
    H₁ = edit_holds B F L f h b H c a

    legal_c : Legal B F g c
    unfolding g
    legal_c = edit_legal B F L f h b H c a

    set_c : Settable B g c.word c.value legal_c.spot
    set_c = settable B F L g c judged legal_c

    legal_d : Legal B F g d
    unfolding g frame_of
    legal_d = legal_before g c.word c.value legal_c.spot set_c d n (edit_legal B F L f (c ∷ h) (edit_written B F b c) H₁ d a₂)

    set_d : Settable B g d.word d.value legal_d.spot
    set_d = settable B F L g d judged legal_d

    n' : c.word ≡ d.word → ⊥
    n' q = n (sym q)

    -- the two entries are the same in either order
    both : F.limit (entry_for B g d ∷ entry_for B g c ∷ entries_made B f h) ≡ true
    unfolding g frame_of entries_made
    both = rw (same_entry g c.word c.value legal_c.spot set_c d n) at (edit_holds B F L f (c ∷ h) (edit_written B F b c) H₁ d a₂).limit

    limit_d : F.limit (entries_made B f (d ∷ h)) ≡ true
    unfolding g entries_made
    limit_d = L.format.limit_older (entry_for B g c) (entry_for B g d ∷ entries_made B f h) (L.format.limit_swap (entry_for B g d) (entry_for B g c) (entries_made B f h) both)

    limit_dc : F.limit (entries_made B f (c ∷ d ∷ h)) ≡ true
    unfolding g frame_of entries_made
    limit_dc = rw (same_entry g d.word d.value legal_d.spot set_d c n') (L.format.limit_swap (entry_for B g d) (entry_for B g c) (entries_made B f h) both)

    first_accepted : edit_answer B F b d ≡ accepted tt
    unfolding g
    first_accepted = legal_edit B F L f h b H d legal_d limit_d (edit_room B F L f h b H c a)

    a₁ : Allowed B F b d
    a₁ = (edit_exactly B F b d (edit_judged B F b d first_accepted)).0 first_accepted

    H₂ : Holds B F f (d ∷ h) (edit_written B F b d)
    H₂ = edit_holds B F L f h b H d a₁

    room : size F ≤ length H₂.rest
    unfolding H₁ H₂
    room = rw (edit_rest B F L f h b H d a₁, ← edit_rest B F L f h b H c a) (edit_room B F L f (c ∷ h) (edit_written B F b c) H₁ d a₂)

    second_accepted : edit_answer B F (edit_written B F b d) c ≡ accepted tt
    unfolding g frame_of
    second_accepted = legal_edit B F L f (d ∷ h) (edit_written B F b d) H₂ c (legal_after g d.word d.value legal_d.spot set_d c n' legal_c) limit_dc room

    same_frame : frame_in (edit_written B F (edit_written B F b d) c) ≡ frame_in (edit_written B F (edit_written B F b c) d)
    unfolding g frame_of
    same_frame =
        let a₃ = (edit_exactly B F (edit_written B F b d) c (edit_judged B F (edit_written B F b d) c second_accepted)).0 second_accepted in
        holds_frame B F L f (c ∷ d ∷ h) (edit_written B F (edit_written B F b d) c) (edit_holds B F L f (d ∷ h) (edit_written B F b d) H₂ c a₃)
        ∙ L.book.put_apart g d.word d.value legal_d.spot c.word c.value legal_c.spot set_d set_c n'
        ∙ sym (holds_frame B F L f (d ∷ c ∷ h) (edit_written B F (edit_written B F b c) d) (edit_holds B F L f (c ∷ h) (edit_written B F b c) H₁ d a₂))

  pub swapped : (b : List ℕ) (c d : Correction) → Bytes b → edit_answer B F b c ≡ accepted tt → edit_answer B F (edit_exit B F b c) d ≡ accepted tt
      → (d.word ≡ c.word → ⊥)
      → (edit_answer B F b d ≡ accepted tt)
      × (edit_answer B F (edit_exit B F b d) c ≡ accepted tt)
      × (frame_in (edit_exit B F (edit_exit B F b d) c) ≡ frame_in (edit_exit B F (edit_exit B F b c) d))
  swapped b c d y e e₂ n =
      let f = restored B F b 0 in
      let h = map correction_of (entries_in F b) in
      let v = edit_judged B F b c e in
      let H = accepted_holds B F L b y v in
      let w = exit_written B F b c e in
      let x : edit_answer B F (edit_written B F b c) d ≡ accepted tt = rw w at e₂ in
      let a = (edit_exactly B F b c v).0 e in
      let a₂ = (edit_exactly B F (edit_written B F b c) d (edit_judged B F (edit_written B F b c) d x)).0 x in
      let p = first_accepted f h b H c d n a a₂ in
      let q = second_accepted f h b H c d n a a₂ in
      let w₂ = exit_written B F b d p in
      (p, rw w₂ q, rw (w, w₂, exit_written B F (edit_written B F b c) d x, exit_written B F (edit_written B F b d) c q) (same_frame f h b H c d n a a₂))
