-- Room: the listing of any buffer, of whatever length, has at most 92,520 bytes, so that a call that is lent as many is never refused.
-- Assumes nothing.
use Prim.Native.Nat.{ℕ, zero, suc, ◌+◌, ◌*◌, ◌-◌, ◌/◌, ◌%◌, ◌^◌, ◌≤◌, ◌<◌}
use mathlib.Core.Path.{◌≡◌, refl, sym, ◌∙◌}
use mathlib.Core.Logic.{⊎_elim}
use mathlib.Core.Bool.{Bool, true, false}
use mathlib.Core.List.{List, [], ◌∷◌, ◌++◌}
use native.Mathlib.Nat.{pow-suc}
use native.Mathlib.Omega.{arith}
use lib.Dec.{leb, ltb, eqb}
use lib.ListN.{length, drop, length-append, length-take}
use borrow.Author.Tests.{leb-true, leb-false, ltb-true, ltb-false, le-leb}
use Rattle.std.specs.Prelude.{Result, Ok, Err}
use Rattle.std.specs.Result.{IsOk}
use Rattle.format.specs.Words.{pick, Bytes, word_at, long_at, time_at}
use Rattle.format.specs.Answers.{Outcome, Done, accepted, refused, and_then}
use Rattle.format.specs.Items.{Item}
use Rattle.format.specs.Rules.{Kind, data_kind, monitor_kind, command_kind}
use Rattle.format.specs.Frames.{Frame, all_words, verdict}
use Rattle.format.specs.Questions.{done}
use Rattle.format.proofs.items.WordLaws.{below_drop}
use Rattle.format.proofs.items.WrittenLaws.{first_word_lem}
use Rattle.format.specs.Fields.{later_words}
use Rattle.format.proofs.spots.PutLaws.{length_encode}
use Rattle.format.proofs.verdict.Acceptance.{exactly}
use Rattle.format.specs.Faults.{Placed}
use Rattle.format.proofs.front.Refusals.{places}
use Rattle.ledger.specs.Formats.{Entry, size}
use Rattle.ledger.specs.Records.{length_in, count_in, frame_in, entry_of, numbered, record_verdict}
use Rattle.ledger.specs.VersionOne.{version_one}
use Rattle.ledger.specs.VersionTwo.{time_in, version_two}
use Rattle.ledger.specs.Versions.{format_for, format_in}
use Rattle.ledger.specs.PlaneFrames.{plane_frames, plane_frames_judge}
use Rattle.ledger.proofs.answers.Refusals.{record_refusals}
use Rattle.ledger.proofs.plane.StampLaws.{stamp_of, read_fits}
use Rattle.ledger.proofs.plane.VersionLaws.{for_which}
use Rattle.records.proofs.RecordLaws.{frame_bytes}
use Rattle.listing.specs.Ascii.{ascii}
use Rattle.listing.specs.Text.{decimal, hex}
use Rattle.listing.specs.Listing.{letter, frame_line, change_text, time_text, signer_text, entry_line, end_line, refused_line, entry_lines, frame_of, listing_of, listing, listing_answer}
use Rattle.book.specs.declared.refusal.Refusal.{Refusal}
use Rattle.listing.specs.Promises.{Listed}
use Rattle.listing.specs.Views.{view_listing}
use Rattle.listing.proofs.Decimals.{decimal_small, decimal_large}
use Rattle.listing.proofs.Listings.{few}

-- ---- the digits of a number of 32 bits, and of one of 48

digits_few : (k n : ℕ) → n < 10 ^ suc k → length (decimal n) ≤ suc k
digits_few zero n h = rw (decimal_small n h) (omega arith)
digits_few (suc k) n h = go (ltb n 10) refl (digits_few k (n / 10))
  where
    go : (t : Bool) → ltb n 10 ≡ t → (n / 10 < 10 ^ suc k → length (decimal (n / 10)) ≤ suc k) → length (decimal n) ≤ suc (suc k)
    go true e r = rw (decimal_small n (ltb-true n 10 e)) (omega arith)
    go false e r =
        let p : 10 ^ suc (suc k) ≡ 10 ^ suc k * 10 = pow-suc 10 (suc k) in
        let q = r (omega arith) in
        rw (decimal_large n (ltb-false n 10 e), length-append (decimal (n / 10)) ((48 + n % 10) ∷ [])) (omega arith)

ten : (n : ℕ) → n < 4294967296 → length (decimal n) ≤ 10
ten n h = digits_few 9 n (omega arith)

fifteen : (n : ℕ) → n < 281474976710656 → length (decimal n) ≤ 15
fifteen n h = digits_few 14 n (omega arith)

-- ---- a line has at most 180 bytes

record Short (s : List ℕ) (most : ℕ) : Type 0 where
  pub short : length s ≤ most

both : {a b : List ℕ} {m n : ℕ} → Short a m → Short b n → Short (a ++ b) (m + n)
both {a} {b} p q = record { short = let i = p.short in let j = q.short in rw (length-append a b) (omega arith) }

-- a text that is known, a number, and a number behind a text
said : (s : List ℕ) → Short s (length s)
said s = record { short = omega arith }

number : (n : ℕ) → n < 4294967296 → Short (decimal n) 10
number n h = record { short = ten n h }

field : (s : List ℕ) (n : ℕ) → n < 4294967296 → Short (s ++ decimal n) (length s + 10)
field s n h = both (said s) (number n h)

frame_short : (kind : Kind) (card sequence size items : ℕ) → card < 4294967296 → size < 4294967296 → items < 4294967296
    → Short (frame_line kind card sequence size items) 180
unfolding frame_line hex
frame_short kind card sequence size items c s i =
    let h : Short (frame_line kind card sequence size items) 67 =
    both (both (both (both (both (both (both (said (ascii "frame ")) (one kind)) (field (ascii " card ") card c)) (said (ascii " seq "))) (said (hex sequence)))
    (field (ascii " bytes ") size s))
    (field (ascii " items ") items i))
    (said (ascii "\n")) in
    record { short = let l = h.short in omega arith }
  where
    one : (k : Kind) → Short (letter k) 1
    one data_kind = said (ascii "D")
    one monitor_kind = said (ascii "M")
    one command_kind = said (ascii "C")

-- what an entry keeps after its reason, where that begins with a number of 48 bits or is nothing
time_short : (x : List ℕ) → time_in x < 281474976710656 → Short (time_text x) 19
unfolding time_text
time_short [] h = record { short = omega arith }
time_short (t ∷ x) h = both (said (ascii " at ")) (record { short = fifteen t h })

-- an entry whose fields are numbers of 32 bits, and its time one of 48
record Small (e : Entry) : Type 0 where
  pub word : e.word < 4294967296
  pub old : e.old < 4294967296
  pub new : e.new < 4294967296
  pub operator : e.operator < 4294967296
  pub reason : e.reason < 4294967296
  pub time : time_in e.extra < 281474976710656

entry_short : (j : ℕ) (e : Entry) → j < 4294967296 → Small e → Short (entry_line j e) 180
unfolding entry_line change_text signer_text
entry_short j e i s =
    let h : Short (entry_line j e) 115 =
    both
    (both (both (both (field (ascii "edit ") j i) (field (ascii " word ") e.word s.word)) (both (kind_short (eqb e.kind 1)) (number e.old s.old)))
    (field (ascii " -> ") e.new s.new))
    (both (both (both (field (ascii " by ") e.operator s.operator) (field (ascii " reason ") e.reason s.reason)) (time_short e.extra s.time)) (said (ascii "\n"))) in
    record { short = let l = h.short in omega arith }
  where
    kind_short : (t : Bool) → Short (pick t (ascii " sample ") (ascii " bin ")) 8
    kind_short true = said (ascii " sample ")
    kind_short false = record { short = omega arith }

end_short : (n : ℕ) → n < 4294967296 → Short (end_line n) 180
unfolding end_line
end_short n h = let s : Short (end_line n) 15 = both (field (ascii "end ") n h) (said (ascii "\n")) in record { short = let l = s.short in omega arith }

refused_short : (n p : ℕ) → n < 4294967296 → p < 4294967296 → Short (refused_line n p) 180
unfolding refused_line
refused_short n p h g =
    let s : Short (refused_line n p) 33 = both (both (field (ascii "refused ") n h) (field (ascii " at ") p g)) (said (ascii "\n")) in
    record { short = let l = s.short in omega arith }

-- ---- what a buffer of bytes can hold

word_small : (s : List ℕ) → Bytes s → (i : ℕ) → word_at s i < 65536
word_small s y i = omega (arith, y (2 * i), y (2 * i + 1))

long_small : (s : List ℕ) → Bytes s → (i : ℕ) → long_at s i < 4294967296
long_small s y i = omega (arith, word_small s y i, word_small s y (i + 1))

time_small : (n : ℕ) (s : List ℕ) → Bytes s → time_in ((format_for n).read s) < 281474976710656
unfolding version_one version_two
time_small n s y = ⊎_elim (λ w. rw w.1 (omega arith)) (λ w. rw w.1 (stamp_of (time_at s 0 ∷ word_at s 3 ∷ []) (read_fits s y)).time) (for_which n)

module _ (b : List ℕ) (y : Bytes b) where
  entry_small : (j : ℕ) → Small (numbered (format_in b) b j)
  unfolding numbered entry_of
  entry_small j =
      let at = 16 + length_in b + size (format_in b) * (j - 1) in
      let s = drop at b in
      let z : Bytes s = below_drop at b 256 y in
      record {
        word = omega (arith, word_small s z 0);
        old = long_small s z 2;
        new = long_small s z 4;
        operator = omega (arith, word_small s z 6);
        reason = omega (arith, word_small s z 7);
        time = time_small (word_at b 0) (drop 16 s) (below_drop 16 s 256 z);
      }

  entries_short : (n : ℕ) → n ≤ 512 → Short (entry_lines b n) (180 * n)
  unfolding entry_lines
  entries_short zero h = record { short = omega arith }
  entries_short (suc n) h =
      let p = both (entries_short n (omega arith)) (entry_short (suc n) (numbered (format_in b) b (suc n)) (omega arith) (entry_small (suc n))) in
      record { short = let l = p.short in omega arith }

  length_small : length_in b < 65536
  unfolding length_in
  length_small = word_small b y 3

  count_small : count_in b < 65536
  unfolding count_in
  count_small = word_small b y 5

  -- an item has a word at least, and a frame's words are few
  items_few : (xs : List Item) → length xs ≤ length (all_words xs)
  unfolding all_words
  items_few [] = omega arith
  items_few (x ∷ xs) = rw (first_word_lem x) (omega (arith, items_few xs, length-append (later_words x) (all_words xs)))

  frame_items : (f : Frame) → verdict (frame_in b) ≡ accepted f → (f.card < 4294967296) × (length f.items < 4294967296)
  frame_items f e =
      let l = ((exactly (frame_in b) (frame_bytes b y) f).0 e).0 in
      let c = l.card in
      let s = l.short in
      let n = length_encode f in
      let i = items_few f.items in
      (omega arith, omega arith)

  frame_long : length (frame_in b) ≤ length_in b
  frame_long = rw (length-take (length_in b) (drop 16 b)) (omega arith)

  -- a refusal's number and place: those of the frame's verdict, of an entry, or 20 at 0
  placed_small : (n p : ℕ) → Placed (frame_in b) n p → (n < 4294967296) × (p < 4294967296)
  placed_small n p h = let m = h.most in (omega arith, go (leb n 5) (leb n 10) refl refl)
    where
      go : (s t : Bool) → leb n 5 ≡ s → leb n 10 ≡ t → p < 4294967296
      go true t e f = let z = h.head (leb-true n 5 e) in omega arith
      go false true e f =
          let z = (h.item (omega (arith, leb-false n 5 e)) (leb-true n 10 f)).1 in
          let l = frame_long in
          let k = length_small in
          omega arith
      go false false e f =
          let z = h.last (let m = h.most in omega (arith, leb-false n 10 f)) in
          let l = frame_long in
          let k = length_small in
          omega arith

  judged : (n p : ℕ) → plane_frames.judge (frame_in b) ≡ refused n p → verdict (frame_in b) ≡ refused n p
  judged n p e = go (verdict (frame_in b)) (sym (plane_frames_judge (frame_in b)) ∙ e)
    where
      go : (o : Outcome Frame) → done o ≡ refused n p → o ≡ refused n p
      go (accepted f) q = let z : ◌≡◌ {A = ℕ} 0 1 = cc in absurd (omega arith)
      go (refused m r) q = cc

  verdict_small : (n p : ℕ) → verdict (frame_in b) ≡ refused n p → (n < 4294967296) × (p < 4294967296)
  verdict_small n p e = placed_small n p (places (frame_in b) (frame_bytes b y) n p e)

  refusal_small : (n p : ℕ) → record_verdict plane_frames (format_in b) b ≡ refused n p → (n < 4294967296) × (p < 4294967296)
  refusal_small n p e =
      ⊎_elim (λ w. let i = w.0 in let j = w.1 in (omega arith, omega arith))
      (⊎_elim (λ w. verdict_small n p (judged n p w)) (λ w. let i = w.0 in let j = w.2 in let k = count_small in (omega arith, omega arith)))
      (record_refusals plane_frames (format_in b) b n p e)

  -- ---- the theorems

  -- 92,520 bytes hold the listing of any buffer: 514 lines of at most 180.
  pub listing_fits : length (listing b) ≤ 92520
  unfolding listing frame_of
  listing_fits = go (record_verdict plane_frames (format_in b) b) (verdict (frame_in b)) refl refl
    where
      go : (r : Done) (o : Outcome Frame) → record_verdict plane_frames (format_in b) b ≡ r → verdict (frame_in b) ≡ o → length (listing_of (and_then r (λ u. o)) b) ≤ 92520
      go (accepted u) (accepted f) e g =
          let n = few b (length_in b) (count_in b) (record { judged = e; length = refl; entries = refl }) in
          let (c, i) = frame_items f g in
          let k = length_small in
          let l = (both (both (frame_short f.kind f.card f.sequence (length_in b) (length f.items) c (omega arith) i) (entries_short (count_in b) n)) (end_short (count_in b) (omega arith))).short in
          omega arith
      go (accepted u) (refused n p) e g = let (h, i) = verdict_small n p g in let l = (refused_short n p h i).short in omega arith
      go (refused n p) o e g = let (h, i) = refusal_small n p e in let l = (refused_short n p h i).short in omega arith

  -- With so many bytes lent the answer is the listing's length: `listing` does not refuse by 12, and refuses by no other number.
  pub always_listed : (found : List ℕ) → 92520 ≤ length found → (answer : Outcome ℕ) (exit : List ℕ) → Listed b found answer exit → answer ≡ accepted (length (listing b))
  unfolding listing_answer
  always_listed found h answer exit l =
      let f = listing_fits in
      let r : leb (length (listing b)) (length found) ≡ true = le-leb (length (listing b)) (length found) (omega arith) in
      l.answered ∙ rw r

  -- So of code that lends as many: an answer that is no refusal, and no longer than what was lent.
  pub listed_ok : (r : Result ℕ Refusal) (found exit : List ℕ) → 92520 ≤ length found → Listed b found (view_listing r) exit → IsOk r
  listed_ok (Ok n) found exit h l = refl
  listed_ok (Err r) found exit h l =
      let e = always_listed found h (view_listing (Err r)) exit l in
      let z : ◌≡◌ {A = ℕ} 0 1 = cc in
      absurd (omega arith)

  pub listed_within : (n : ℕ) (found exit : List ℕ) → 92520 ≤ length found → Listed b found (view_listing (Ok n)) exit → n ≤ 92520
  listed_within n found exit h l =
      let e : ◌≡◌ {A = Outcome ℕ} (accepted n) (accepted (length (listing b))) = always_listed found h (accepted n) exit l in
      let i : n ≡ length (listing b) = cc in
      let f = listing_fits in
      omega arith
