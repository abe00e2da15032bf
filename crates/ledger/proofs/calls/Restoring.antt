-- T32. Restoring and the questions of an accepted record: accepted exactly where the number is one of the record's and there is room; the frame
-- at the start of the second buffer and the rest of it as it was. The record is only read.
-- Assumes nothing but the laws of the book and the format.
use Prim.Native.Nat.{ℕ, zero, suc, ◌+◌, ◌≤◌, ◌<◌}
use mathlib.Core.Path.{◌≡◌, sym, ap, ◌∙◌}
use mathlib.Core.Logic.{◌↔◌, by_cases}
use native.Mathlib.Decide.{dec_lt}
use mathlib.Core.List.{List, [], ◌∷◌, ◌++◌, map}
use native.Mathlib.Omega.{arith}
use lib.ListN.{length, get_or, drop, get_or-append}
use lib.Seq.{sets-eq, drop_at, get_or_at}
use borrow.Author.Tests.{leb-true, le-leb, lt-leb}
use Rattle.format.specs.Words.{Bytes}
use Rattle.format.specs.Answers.{accepted, refused, first_of}
use Rattle.ledger.specs.Frames.{FrameBook}
use Rattle.ledger.specs.Formats.{Entry, Format, Lawful}
use Rattle.ledger.specs.Records.{length_in, count_in, total_in, numbered, entries_to, entries_in, length_entries, record_verdict}
use Rattle.ledger.specs.Calls.{record_answer, entry_answer, restored, restore_answer, restore_exit}
use Rattle.ledger.specs.Histories.{correction_of, oldest_first}
use Rattle.ledger.proofs.answers.Answering.{need_holds, first_at}
use Rattle.ledger.proofs.histories.Holding.{holds_reads, restored_length}
use Rattle.ledger.proofs.histories.Orders.{oldest_length}
use Rattle.ledger.proofs.histories.Backward.{accepted_holds}

module _ (B : FrameBook) (F : Format) where
  -- ---- restoring
  pub restore_parts : (b : List ℕ) (k : ℕ) (out : List ℕ) → restore_answer B F b k out ≡ accepted tt
      → (record_verdict B F b ≡ accepted tt) × (k ≤ count_in b) × (length_in b ≤ length out)
  unfolding restore_answer
  restore_parts b k out e = (first_at _ 0 e, leb-true _ _ (need_holds _ 26 0 (first_at _ 1 e)), leb-true _ _ (need_holds _ 12 0 (first_at _ 2 e)))

  parts_restore : (b : List ℕ) (k : ℕ) (out : List ℕ) → record_verdict B F b ≡ accepted tt → k ≤ count_in b → length_in b ≤ length out
      → restore_answer B F b k out ≡ accepted tt
  unfolding restore_answer first_of
  parts_restore b k out j h r = rw (j, le-leb k (count_in b) h, le-leb (length_in b) (length out) r)

  pub restore_exactly : (b : List ℕ) (k : ℕ) (out : List ℕ) → record_verdict B F b ≡ accepted tt
      → (restore_answer B F b k out ≡ accepted tt) ↔ ((k ≤ count_in b) × (length_in b ≤ length out))
  restore_exactly b k out j = (λ e. let p = restore_parts b k out e in (p.1, p.2), λ w. parts_restore b k out j w.0 w.1)

  pub restore_no_entry : (b : List ℕ) (k : ℕ) (out : List ℕ) → record_verdict B F b ≡ accepted tt → count_in b < k → restore_answer B F b k out ≡ refused 26 0
  unfolding restore_answer first_of
  restore_no_entry b k out j h = rw (j, lt-leb k (count_in b) h)

  pub restore_no_room : (b : List ℕ) (k : ℕ) (out : List ℕ) → record_verdict B F b ≡ accepted tt → k ≤ count_in b → length out < length_in b
      → restore_answer B F b k out ≡ refused 12 0
  unfolding restore_answer first_of
  restore_no_room b k out j h r = rw (j, le-leb k (count_in b) h, lt-leb (length_in b) (length out) r)

  -- ---- questions
  pub record_answers : (b : List ℕ) → record_verdict B F b ≡ accepted tt
      → record_answer B F b ≡ accepted (record { length = length_in b; count = count_in b; total = total_in F b })
  unfolding record_answer
  record_answers b j = rw j

  pub entry_answers : (b : List ℕ) (j : ℕ) → record_verdict B F b ≡ accepted tt → 1 ≤ j → j ≤ count_in b → entry_answer B F b j ≡ accepted (numbered F b j)
  unfolding entry_answer
  entry_answers b j v l h = rw (v, le-leb 1 j l, le-leb j (count_in b) h)

  pub entry_none : (b : List ℕ) → record_verdict B F b ≡ accepted tt → entry_answer B F b 0 ≡ refused 26 0
  unfolding entry_answer
  entry_none b v = rw v

  pub entry_above : (b : List ℕ) (j : ℕ) → record_verdict B F b ≡ accepted tt → count_in b < j → entry_answer B F b j ≡ refused 26 0
  unfolding entry_answer
  entry_above b j v h = rw (v, le-leb 1 j (omega arith), lt-leb j (count_in b) h)

-- entry j of a record is the j-th of its history, oldest first
pub numbered_nth : (F : Format) (b : List ℕ) (n j : ℕ) (d : Entry) → j < n → get_or (oldest_first (entries_to F b n)) j d ≡ numbered F b (suc j)
unfolding entries_to oldest_first
numbered_nth F b zero j d h = absurd (omega arith)
numbered_nth F b (suc n) j d h =
    let len : length (oldest_first (entries_to F b n)) ≡ n = oldest_length (entries_to F b n) ∙ length_entries F b n in
    by_cases (dec_lt j n)
    (λ l. get_or-append (oldest_first (entries_to F b n)) (numbered F b (suc n) ∷ []) d j (rw len l) ∙ numbered_nth F b n j d l)
    (λ m.
    let w : j < n → ⊥ = m in
    let q : j ≡ n = omega arith in
    rw q (get_or_at (oldest_first (entries_to F b n)) (numbered F b (suc n)) [] d n len))

pub entry_tells : (B : FrameBook) (F : Format) (b : List ℕ) (j : ℕ) (d : Entry) → record_verdict B F b ≡ accepted tt → j < count_in b
    → entry_answer B F b (suc j) ≡ accepted (get_or (oldest_first (entries_in F b)) j d)
entry_tells B F b j d v h = entry_answers B F b (suc j) v (omega arith) h ∙ ap accepted (sym (numbered_nth F b (count_in b) j d h))

module _ (B : FrameBook) (F : Format) (L : Lawful B F) where
  module _ (b : List ℕ) (y : Bytes b) (j : record_verdict B F b ≡ accepted tt) where
    pub restored_long : (k : ℕ) → length (restored B F b k) ≡ length_in b
    restored_long k =
        let f = restored B F b 0 in
        let h = map correction_of (entries_in F b) in
        let H = accepted_holds B F L b y j in
        restored_length B F L f h b H k ∙ sym (holds_reads B F L f h b H).length_is

    -- T32: the frame at the start, and the rest of the second buffer as it was
    pub restore_whole : (k : ℕ) (out : List ℕ) → restore_answer B F b k out ≡ accepted tt → restore_exit B F b k out ≡ restored B F b k ++ drop (length_in b) out
    unfolding restore_exit
    restore_whole k out e =
        let g = restored B F b k in
        let l = restored_long k in
        let r : length_in b ≤ length out = (restore_parts B F b k out e).2 in
        let z : 0 + length g ≡ length_in b = omega arith in
        rw e (sets-eq g out 0 (omega arith) ∙ rw z)

    pub restore_rest : (k : ℕ) (out : List ℕ) → restore_answer B F b k out ≡ accepted tt → drop (length_in b) (restore_exit B F b k out) ≡ drop (length_in b) out
    restore_rest k out e = ap (drop (length_in b)) (restore_whole k out e) ∙ drop_at (restored B F b k) (drop (length_in b) out) (length_in b) (restored_long k)
