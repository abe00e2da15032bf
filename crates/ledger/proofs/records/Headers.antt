-- A right header, test by test; and an accepted header, frame and entries are all the bytes of the record: no bit of them is free.
-- Assumes nothing.
use Prim.Native.Nat.{ℕ, ◌+◌, ◌*◌, ◌≤◌}
use mathlib.Core.Path.{◌≡◌, sym}
use mathlib.Core.Bool.{true}
use mathlib.Core.List.{List, ◌++◌}
use native.Mathlib.Omega.{arith}
use lib.ListN.{length, take, drop, length-drop, take-append-drop}
use lib.Seq.{length-take-le, drop-drop}
use borrow.Author.Tests.{leb-true, eqb-true, le-leb, eq-eqb}
use Rattle.format.specs.Words.{Bytes}
use Rattle.ledger.specs.Tests.{all}
use Rattle.ledger.specs.Formats.{Format, LawfulFormat, size}
use Rattle.ledger.specs.Records.{header, length_in, count_in, total_in, frame_in, entries_in, header_right, length_entries}
use Rattle.ledger.specs.Chains.{Header}
use Rattle.ledger.proofs.answers.Answering.{all_at}
use Rattle.ledger.proofs.records.Codecs.{entries_bytes, Good, entries_back, eight_words}

module _ (F : Format) where
  pub header_words : (b : List ℕ) → header_right F b ≡ true → Header F b
  unfolding header_right
  header_words b h = record {
    long = leb-true _ _ (all_at _ 0 h);
    version = eqb-true _ _ (all_at _ 1 h);
    one = eqb-true _ _ (all_at _ 2 h);
    sixteen = eqb-true _ _ (all_at _ 3 h);
    history = eqb-true _ _ (all_at _ 4 h);
    total = eqb-true _ _ (all_at _ 5 h);
    nought = eqb-true _ _ (all_at _ 6 h);
    room = leb-true _ _ (all_at _ 7 h);
    limit = all_at _ 8 h;
  }

  pub header_right_lem : (b : List ℕ) → Header F b → header_right F b ≡ true
  unfolding header_right all
  header_right_lem b h =
      rw (le-leb 16 (length b) h.long, eq-eqb _ _ h.version, eq-eqb _ _ h.one, eq-eqb _ _ h.sixteen, eq-eqb _ _ h.history)
      (rw (eq-eqb _ _ h.total, eq-eqb _ _ h.nought, le-leb _ _ h.room, h.limit))

  pub frame_length : (b : List ℕ) → Header F b → length (frame_in b) ≡ length_in b
  frame_length b h = length-take-le (length_in b) (drop 16 b) (rw (length-drop 16 b) (let r = h.room in omega arith))

  pub few_entries : LawfulFormat F → (b : List ℕ) → Header F b → count_in b ≤ 512
  few_entries L b h = rw (length_entries F b (count_in b)) at (L.limit_few (entries_in F b) h.limit)

  -- the first 16 bytes are the header of the frame's length and the entry count
  pub header_back : (b : List ℕ) → Header F b → Bytes b → b ≡ header F (length_in b) (count_in b) ++ drop 16 b
  unfolding header length_in count_in
  header_back b h y = rw (h.version, h.one, h.sixteen, h.history, h.total, h.nought) at (eight_words b y h.long)

  -- a record's bytes are its header, its frame and its entries, before whatever stands beyond them
  pub record_bytes : LawfulFormat F → (b : List ℕ) → Header F b → Bytes b → Good F (entries_in F b)
      → b ≡ header F (length_in b) (count_in b) ++ (frame_in b ++ (entries_bytes F (entries_in F b) ++ drop (total_in F b) b))
  record_bytes L b h y g =
      let len = length_in b in
      let n = count_in b in
      let e : entries_bytes F (entries_in F b) ≡ take (size F * n) (drop (16 + len) b) = entries_back F L b n y h.room g in
      let d : drop (total_in F b) b ≡ drop (size F * n) (drop (16 + len) b) = sym (drop-drop (size F * n) (16 + len) b) in
      rw (e, d, take-append-drop (size F * n) (drop (16 + len) b), ← drop-drop len 16 b, take-append-drop len (drop 16 b)) (header_back b h y)
