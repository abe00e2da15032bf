-- Request 13. Earlier states of an accepted record are records too and restore as the whole one does; and two neighbouring accepted edits of
-- different items may change places.
-- Assumes nothing but the laws of the book and the format.
use Prim.Native.Nat.{ℕ, zero, suc, ◌+◌, ◌-◌, ◌*◌, ◌≤◌}
use mathlib.Core.Path.{◌≡◌, refl, sym, ap, ◌∙◌}
use mathlib.Core.Bool.{true}
use mathlib.Core.List.{List, [], ◌∷◌, append-nil, map}
use native.Mathlib.Nat.{mul-le-mul_left}
use native.Mathlib.Omega.{arith}
use lib.ListN.{length, take, drop, length-drop}
use lib.Seq.{drop-drop}
use Rattle.format.specs.Words.{Bytes}
use Rattle.format.specs.Answers.{accepted}
use Rattle.ledger.specs.Frames.{FrameBook}
use Rattle.ledger.specs.Formats.{Entry, Correction, Format, Lawful, size}
use Rattle.ledger.specs.Records.{length_in, count_in, entries_to, entries_in, record_verdict}
use Rattle.ledger.specs.Calls.{restored}
use Rattle.ledger.specs.Histories.{correction_of, earlier_record}
use Rattle.ledger.proofs.records.Codecs.{entries_bytes, Good, entries_back}
use Rattle.ledger.proofs.records.Headers.{header_words}
use Rattle.ledger.proofs.records.Judging.{verdict_parts}
use Rattle.ledger.proofs.histories.Edits.{frame_of, entries_made, valid_drop, entries_good}
use Rattle.ledger.proofs.histories.Holding.{Holds, record_of, holds_reads, holds_entries, holds_judged, holds_restored}
use Rattle.ledger.proofs.histories.Backward.{accepted_holds}

made_drop : (B : FrameBook) (f : List ℕ) (h : List Correction) (m : ℕ) → entries_made B f (drop m h) ≡ drop m (entries_made B f h)
unfolding entries_made
made_drop B f h zero = refl
made_drop B f [] (suc m) = refl
made_drop B f (c ∷ h) (suc m) = made_drop B f h m

entries_drop : (F : Format) (b : List ℕ) (n m : ℕ) → m ≤ n → drop m (entries_to F b n) ≡ entries_to F b (n - m)
unfolding entries_to
entries_drop F b n zero h = let z : n - 0 ≡ n = omega arith in rw z
entries_drop F b zero (suc m) h = absurd (omega arith)
entries_drop F b (suc n) (suc m) h = let z : suc n - suc m ≡ n - m = omega arith in rw z (entries_drop F b n m (omega arith))

limit_drop : (B : FrameBook) (F : Format) → Lawful B F → (es : List Entry) (m : ℕ) → F.limit es ≡ true → F.limit (drop m es) ≡ true
limit_drop B F L es zero h = h
limit_drop B F L [] (suc m) h = h
limit_drop B F L (e ∷ es) (suc m) h = limit_drop B F L es m (L.format.limit_older e es h)

module _ (B : FrameBook) (F : Format) (L : Lawful B F) where
  module _ (b : List ℕ) (y : Bytes b) (e : record_verdict B F b ≡ accepted tt) (k : ℕ) (le : k ≤ count_in b) where
    f : List ℕ
    f = restored B F b 0

    h : List Correction
    h = map correction_of (entries_in F b)

    H : Holds B F f h b
    unfolding f h
    H = accepted_holds B F L b y e

    count : count_in b ≡ length h
    count = (holds_reads B F L f h b H).count_is

    old : List Correction
    old = drop (length h - k) h

    old_length : length old ≡ k
    unfolding old
    old_length = let n = count in rw (length-drop (length h - k) h) (omega arith)

    old_entries : entries_made B f old ≡ entries_to F b k
    unfolding old
    old_entries =
        let n = count in
        let z : count_in b - (length h - k) ≡ k = omega arith in
        made_drop B f h (length h - k) ∙ ap (drop (length h - k)) (sym (holds_entries B F L f h b H)) ∙ entries_drop F b (count_in b) (length h - k) (omega arith) ∙ ap (entries_to F b) z

    old_good : Good F (entries_to F b k)
    unfolding old
    old_good = rw (← old_entries) (entries_good B F L f old (valid_drop B F f h (length h - k) H.valid))

    is_old : earlier_record B F b k ≡ record_of B F f old
    unfolding earlier_record old
    is_old =
        let hr = header_words F b (verdict_parts B F b e).0 in
        let m : size F * k ≤ size F * count_in b = mul-le-mul_left (size F) le in
        let r : 16 + length_in b + size F * k ≤ length b = let q = hr.room in omega arith in
        let t : entries_bytes F (entries_made B f old) ≡ take (size F * k) (drop (16 + length_in b) b) = rw old_entries (entries_back F L.format b k y r old_good) in
        rw (t, old_length, holds_restored B F L f h b H k, (holds_reads B F L f h b H).length_is)

    old_holds : Holds B F f old (earlier_record B F b k)
    unfolding old
    old_holds = record {
      rest = [];
      is = is_old ∙ rw (append-nil (entries_bytes F (entries_made B f old)));
      first = H.first;
      valid = valid_drop B F f h (length h - k) H.valid;
      limit = rw (made_drop B f h (length h - k)) (limit_drop B F L (entries_made B f h) (length h - k) H.limit);
    }

    pub earlier_accepted : record_verdict B F (earlier_record B F b k) ≡ accepted tt
    earlier_accepted = holds_judged B F L f old (earlier_record B F b k) old_holds

    pub earlier_count : count_in (earlier_record B F b k) ≡ k
    earlier_count = (holds_reads B F L f old (earlier_record B F b k) old_holds).count_is ∙ old_length

    pub earlier_restores : (j : ℕ) → j ≤ k → restored B F (earlier_record B F b k) j ≡ restored B F b j
    unfolding old
    earlier_restores j lj =
        let n = count in
        let q : length h - k + (k - j) ≡ length h - j = omega arith in
        let d : drop (length old - j) old ≡ drop (length h - j) h = rw (old_length, drop-drop (k - j) (length h - k) h, q) in
        holds_restored B F L f old (earlier_record B F b k) old_holds j ∙ ap (frame_of B f) d ∙ sym (holds_restored B F L f h b H j)
