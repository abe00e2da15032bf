-- T35, and the places of T37: the refusals that each call on a record can give. Frame refusals keep their number and place; 21 has the number
-- of an entry; every other place is 0.
-- Assumes nothing.
use Prim.Native.Nat.{ℕ, ◌+◌, ◌≤◌}
use mathlib.Core.Path.{◌≡◌, refl, sym}
use mathlib.Core.Logic.{◌⊎◌, inl, inr, ⊎_elim, ⊎_map}
use mathlib.Core.Bool.{Bool, true, false, ◌&&◌}
use mathlib.Core.List.{List, [], ◌∷◌}
use native.Mathlib.Omega.{arith}
use lib.ListN.{length}
use lib.Dec.{leb}
use Rattle.format.specs.Words.{Bytes, pick}
use Rattle.format.specs.Answers.{accepted, refused, Done, and_then, need, first_of}
use Rattle.ledger.specs.Tests.{Plain}
use Rattle.ledger.specs.Frames.{FrameBook}
use Rattle.ledger.specs.Formats.{Correction, Format, size}
use Rattle.ledger.specs.Records.{length_in, count_in, total_in, frame_in, numbered, entries_in, length_entries, header_right, signed, at_spot, record_verdict}
use Rattle.ledger.specs.Calls.{Summary, entry_for, new_value, record_answer, entry_answer, open_answer, edit_tests, edit_answer, restore_answer}
use Rattle.ledger.proofs.answers.Answering.{need_refuses, not_both}
use Rattle.ledger.proofs.records.Codecs.{bytes_part}
use Rattle.ledger.proofs.records.Judging.{entry_place}

-- a refusal that is one of some answers'
abbrev Among : List Done → ℕ → ℕ → Type 0
Among [] n p = ⊥
Among (o ∷ os) n p = (o ≡ refused n p) ⊎ Among os n p

among : (os : List Done) (n p : ℕ) → first_of os ≡ refused n p → Among os n p
unfolding first_of
among [] n p e = not_both (first_of []) tt n p refl e
among (accepted u ∷ os) n p e = inr (among os n p e)
among (refused m q ∷ os) n p e = inl e

plain : (t : Bool) (m n p : ℕ) → need t m 0 ≡ refused n p → Plain m n p
plain t m n p e = let w = need_refuses t m 0 n p e in (sym w.1, sym w.2)

module _ (B : FrameBook) (F : Format) where
  -- a record: 20 at 0, a frame refusal, or 21 at an entry's number
  pub record_refusals : (b : List ℕ) (n p : ℕ) → record_verdict B F b ≡ refused n p
      → Plain 20 n p ⊎ ((B.judge (frame_in b) ≡ refused n p) ⊎ ((n ≡ 21) × (1 ≤ p) × (p ≤ count_in b)))
  unfolding record_verdict
  record_refusals b n p e =
      ⊎_elim (λ w. inl (plain (header_right F b) 20 n p w))
      (λ r. inr
      (⊎_elim inl
      (⊎_elim (λ w. inr (let q = entry_place B F (frame_in b) (entries_in F b) n p w in (q.0, q.1, rw (length_entries F b (count_in b)) at q.2))) (λ z. absurd z))
      r))
      (among _ n p e)

  -- opening: a frame refusal or 12
  pub open_refusals : (f b : List ℕ) (n p : ℕ) → open_answer B F f b ≡ refused n p → (B.judge f ≡ refused n p) ⊎ Plain 12 n p
  unfolding open_answer
  open_refusals f b n p e = ⊎_elim inl (⊎_elim (λ w. inr (plain (leb (16 + length f) (length b)) 12 n p w)) (λ z. absurd z)) (among _ n p e)

  -- an edit: a record refusal, what the format asks first, or one of 22 to 25 and 12
  pub edit_refusals : (b : List ℕ) (c : Correction) (n p : ℕ) → edit_answer B F b c ≡ refused n p
      → (record_verdict B F b ≡ refused n p) ⊎ ((F.asked c.extra ≡ refused n p) ⊎ (Plain 22 n p ⊎ (Plain 23 n p ⊎ (Plain 24 n p ⊎ (Plain 25 n p ⊎ Plain 12 n p)))))
  unfolding edit_answer edit_tests
  edit_refusals b c n p e =
      ⊎_map (λ w. w)
      (⊎_map (λ w. w)
      (⊎_map (plain (at_spot (B.spot (frame_in b) c.word) (F.suits c.extra)) 22 n p)
      (⊎_map (plain (at_spot (B.spot (frame_in b) c.word) (new_value B c)) 23 n p)
      (⊎_map (plain (signed c.operator c.reason && F.good c.extra) 24 n p)
      (⊎_map (plain (F.limit (entry_for B (frame_in b) c ∷ entries_in F b)) 25 n p)
      (⊎_elim (plain (leb (total_in F b + size F) (length b)) 12 n p) (λ z. absurd z)))))))
      (among _ n p e)

  -- restoring: a record refusal, 26 or 12; the questions: a record refusal or 26
  pub restore_refusals : (b : List ℕ) (k : ℕ) (out : List ℕ) (n p : ℕ) → restore_answer B F b k out ≡ refused n p
      → (record_verdict B F b ≡ refused n p) ⊎ (Plain 26 n p ⊎ Plain 12 n p)
  unfolding restore_answer
  restore_refusals b k out n p e = ⊎_map (λ w. w) (⊎_map (plain (leb k (count_in b)) 26 n p) (⊎_elim (plain (leb (length_in b) (length out)) 12 n p) (λ z. absurd z))) (among _ n p e)

  pub record_question_refusals : (b : List ℕ) (n p : ℕ) → record_answer B F b ≡ refused n p → record_verdict B F b ≡ refused n p
  unfolding record_answer
  record_question_refusals b n p e = go (record_verdict B F b) _ e
    where
      go : (o : Done) (a : Summary) → and_then o (λ u. accepted a) ≡ refused n p → o ≡ refused n p
      go (accepted u) a q = absurd (not_both (accepted a) a n p refl q)
      go (refused m r) a q = cc

  pub entry_refusals : (b : List ℕ) (j n p : ℕ) → entry_answer B F b j ≡ refused n p → (record_verdict B F b ≡ refused n p) ⊎ Plain 26 n p
  unfolding entry_answer
  entry_refusals b j n p e = go (record_verdict B F b) (leb 1 j && leb j (count_in b)) e
    where
      go : (o : Done) (t : Bool) → and_then o (λ u. pick t (accepted (numbered F b j)) (refused 26 0)) ≡ refused n p → (o ≡ refused n p) ⊎ Plain 26 n p
      go (accepted u) true q = absurd (not_both (accepted (numbered F b j)) (numbered F b j) n p refl q)
      go (accepted u) false q = let z : refused 26 0 ≡ refused n p = q in inr (cc, cc)
      go (refused m r) t q = inl (cc)

  -- ---- the closed lists of numbers, where the book refuses by 1 to 11 and the format by a number of its own
  module _ (own : (f : List ℕ) (n p : ℕ) → Bytes f → B.judge f ≡ refused n p → (1 ≤ n) × (n ≤ 11)) where
    pub record_numbers : (b : List ℕ) (n p : ℕ) → Bytes b → record_verdict B F b ≡ refused n p → ((1 ≤ n) × (n ≤ 11)) ⊎ ((20 ≤ n) × (n ≤ 21))
    record_numbers b n p y e =
        ⊎_elim (λ w. let q = w.0 in inr (omega arith, omega arith))
        (⊎_elim (λ w. inl (own (frame_in b) n p (bytes_part b 16 (length_in b) y) w)) (λ w. let q = w.0 in inr (omega arith, omega arith)))
        (record_refusals b n p e)

    pub open_numbers : (f b : List ℕ) (n p : ℕ) → Bytes f → open_answer B F f b ≡ refused n p → (1 ≤ n) × (n ≤ 12)
    open_numbers f b n p y e = ⊎_elim (λ w. let q = own f n p y w in (omega arith, omega arith)) (λ w. let q = w.0 in (omega arith, omega arith)) (open_refusals f b n p e)

    -- 1 to 12, 20 to 25, or the format's own
    pub edit_numbers : (b : List ℕ) (c : Correction) (n p : ℕ) → Bytes b → edit_answer B F b c ≡ refused n p
        → (((1 ≤ n) × (n ≤ 12)) ⊎ ((20 ≤ n) × (n ≤ 25))) ⊎ (F.asked c.extra ≡ refused n p)
    edit_numbers b c n p y e =
        let high : (m : ℕ) → 22 ≤ m → m ≤ 25 → Plain m n p → (((1 ≤ n) × (n ≤ 12)) ⊎ ((20 ≤ n) × (n ≤ 25))) ⊎ (F.asked c.extra ≡ refused n p)
        = λ m h k w. let q : n ≡ m = w.0 in inl (inr (omega arith, omega arith)) in
        ⊎_elim
        (λ w. inl (⊎_map (λ q. (q.0, let h = q.1 in omega arith)) (λ q. (q.0, let h = q.1 in omega arith)) (record_numbers b n p y w)))
        (⊎_elim inr
        (⊎_elim (high 22 (omega arith) (omega arith))
        (⊎_elim (high 23 (omega arith) (omega arith))
        (⊎_elim (high 24 (omega arith) (omega arith))
        (⊎_elim (high 25 (omega arith) (omega arith))
        (λ w. let q = w.0 in inl (inl (omega arith, omega arith))))))))
        (edit_refusals b c n p e)

    pub restore_numbers : (b : List ℕ) (k : ℕ) (out : List ℕ) (n p : ℕ) → Bytes b → restore_answer B F b k out ≡ refused n p
        → ((1 ≤ n) × (n ≤ 12)) ⊎ (((20 ≤ n) × (n ≤ 21)) ⊎ (n ≡ 26))
    restore_numbers b k out n p y e =
        ⊎_elim
        (λ w. ⊎_map (λ q. (q.0, let h = q.1 in omega arith)) inl (record_numbers b n p y w))
        (⊎_elim (λ w. inr (inr w.0)) (λ w. let q = w.0 in inl (omega arith, omega arith)))
        (restore_refusals b k out n p e)

    pub entry_numbers : (b : List ℕ) (j n p : ℕ) → Bytes b → entry_answer B F b j ≡ refused n p → ((1 ≤ n) × (n ≤ 11)) ⊎ (((20 ≤ n) × (n ≤ 21)) ⊎ (n ≡ 26))
    entry_numbers b j n p y e = ⊎_elim (λ w. ⊎_map (λ q. q) inl (record_numbers b n p y w)) (λ w. inr (inr w.0)) (entry_refusals b j n p e)
