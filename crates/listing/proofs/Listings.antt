-- From the pieces of a line to the lines, and from the lines to the listing.
-- Assumes nothing.
use Prim.Native.Nat.{ℕ, suc, ◌+◌, ◌-◌, ◌*◌, ◌≤◌, ◌<◌}
use mathlib.Core.Path.{◌≡◌, refl, sym, ap, ◌∙◌}
use mathlib.Core.Bool.{true, false}
use mathlib.Core.List.{List, [], ◌∷◌, ◌++◌}
use native.Mathlib.Nat.{mul-le-mul, mul-suc}
use native.Mathlib.Numerals.{add-one}
use native.Mathlib.Omega.{arith}
use lib.Dec.{leb}
use lib.ListN.{length, take, drop, length-drop}
use lib.Seq.{sets, sets-eq, take_all, take_at}
use borrow.Author.Tests.{le-leb, lt-leb}
use Rattle.std.specs.Prelude.{Result, Ok, Err}
use Rattle.std.specs.Result.{IsOk}
use Rattle.format.specs.Words.{word_at}
use Rattle.format.specs.Answers.{Outcome, Done, accepted, refused, and_then}
use Rattle.format.specs.Frames.{Frame, verdict}
use Rattle.format.specs.Steps.{Overview, overview, read_of}
use Rattle.ledger.specs.Formats.{Entry, Format, size}
use Rattle.ledger.specs.Records.{length_in, count_in, total_in, frame_in, entry_of, numbered, record_verdict}
use Rattle.ledger.specs.Calls.{Summary, record_answer}
use Rattle.ledger.specs.Versions.{format_for, format_in}
use Rattle.ledger.specs.PlaneFrames.{plane_frames}
use Rattle.ledger.proofs.records.Headers.{header_words, few_entries}
use Rattle.ledger.proofs.records.Judging.{verdict_parts}
use Rattle.ledger.proofs.plane.VersionLaws.{for_lawful}
use Rattle.book.specs.Refusals.{number_of}
use Rattle.book.specs.declared.refusal.Refusal.{Refusal}
use Rattle.frame.specs.Views.{view_reading}
use Rattle.frame.specs.declared.reading.Frame as reading
use Rattle.records.proofs.RecordLaws.{judge_refused, frame_part, room, record_known}
use Rattle.listing.specs.Ascii.{ascii}
use Rattle.listing.specs.Text.{decimal}
use Rattle.listing.specs.Listing.{frame_line, change_text, time_text, signer_text, entry_line, end_line, refused_line, entry_lines, frame_of, listing_of, listing, listing_answer, listing_exit}
use Rattle.listing.specs.Writes.{Put, Known}
use Rattle.listing.specs.Promises.{Listed}
use Rattle.listing.proofs.Putting.{joined}

-- ---- entries

-- the fields of the entry that some bytes begin with
pub entry_text : (F : Format) (e : List ℕ) (j : ℕ) (x : Entry) → x ≡ entry_of F e
    → change_text j x.word x.kind x.old x.new ++ signer_text x.operator x.reason x.extra ≡ entry_line j (entry_of F e)
unfolding entry_line
entry_text F e j x i = ap (entry_line j) i

-- what an entry keeps after the reason: nothing, or a time and a desk
pub no_time : [] ≡ time_text []
unfolding time_text
no_time = refl

pub time_there : (time desk : ℕ) → ascii " at " ++ decimal time ≡ time_text (time ∷ desk ∷ [])
unfolding time_text
time_there time desk = refl

-- nothing put
pub none_written : (l : List ℕ) (at most : ℕ) → Put most l at [] l at
none_written l at most = record { stored = refl; behind = omega arith; few = omega arith }

-- the entry after j others, at byte `from`, lies in the buffer, and the next begins where it ends
pub record Upper (F : Format) (b : List ℕ) (j s from : ℕ) : Type 0 where
  pub inside : from + s ≤ length b
  pub begins : from + s ≡ 16 + length_in b + size F * (j + 1)

pub upper : (F : Format) (b : List ℕ) (j n s from history : ℕ) → j < n → from ≡ 16 + length_in b + size F * j → history ≡ 16 + length_in b → history + size F * n ≤ length b → s ≡ size F → Upper F b j s from
upper F b j n s from history l e h r z =
    let k = mul-suc (size F) j in
    let i : size F ≤ size F = omega arith in
    let q : suc j ≤ n = omega arith in
    let m : size F * suc j ≤ size F * n = mul-le-mul i q in
    record { inside = omega arith; begins = rw (add-one j) (let g : from + s ≡ 16 + length_in b + size F * suc j = omega arith in g) }

-- lines of no entry, of one more, and of all
pub none_put : (b l : List ℕ) (at : ℕ) → Put (180 * 0) l at (entry_lines b 0) l at
unfolding entry_lines
none_put b l at = record { stored = refl; behind = omega arith; few = omega arith }

next_entry : (b : List ℕ) (version j from : ℕ) → version ≡ word_at b 0 → from ≡ 16 + length_in b + size (format_for version) * j → from ≤ length b
    → entry_lines b j ++ entry_line (j + 1) (entry_of (format_for version) (take (length b - from) (drop from b))) ≡ entry_lines b (j + 1)
unfolding entry_lines numbered
next_entry b version j from v e h =
    let d : take (length b - from) (drop from b) ≡ drop from b = take_all (length b - from) (drop from b) (rw (length-drop from b) (omega arith)) in
    let z : suc j - 1 ≡ j = omega arith in
    rw (d, e, v, add-one j, z)

pub more_put : (b : List ℕ) (version j from : ℕ) → version ≡ word_at b 0 → from ≡ 16 + length_in b + size (format_for version) * j → from ≤ length b → {l k o : List ℕ} {at i q : ℕ} → Put (180 * j) l at (entry_lines b j) k i
    → Put 180 k i (entry_line (j + 1) (entry_of (format_for version) (take (length b - from) (drop from b)))) o q
    → Put (180 * (j + 1)) l at (entry_lines b (j + 1)) o q
more_put b version j from v e h p q =
    let n : 180 * j + 180 ≡ 180 * (j + 1) = omega arith in
    rw (next_entry b version j from v e h, n) at (joined p q)

pub all_put : (b : List ℕ) (j n : ℕ) → j ≡ n → {l k : List ℕ} {at i : ℕ} → Put (180 * j) l at (entry_lines b j) k i → Put (180 * n) l at (entry_lines b n) k i
all_put b j n e p = rw e at p

-- ---- a record

module _ (b : List ℕ) (len count : ℕ) (k : Known b len count) where
  pub inside : (version : ℕ) → version ≡ word_at b 0 → 16 + len + size (format_for version) * count ≤ length b
  inside version v = rw (v, k.length, k.entries) (room (format_in b) b (verdict_parts plane_frames (format_in b) b k.judged).0).within

  pub frame_inside : 16 + len ≤ length b
  frame_inside = omega (arith, inside (word_at b 0) refl)

  pub few : count ≤ 512
  few =
      let f = few_entries (format_in b) (for_lawful (word_at b 0)) b (header_words (format_in b) b (verdict_parts plane_frames (format_in b) b k.judged).0) in
      let n = k.entries in
      omega arith

  part : take (16 + len - 16) (drop 16 b) ≡ frame_in b
  part = frame_part b len k.length

  never : {A : Type 0} (n p : ℕ) → refused n p ≡ read_of (take (16 + len - 16) (drop 16 b)) → A
  never n p e = absurd (clash (plane_frames.judge (frame_in b)) n p (verdict_parts plane_frames (format_in b) b k.judged).1 (judge_refused (frame_in b) n p (e ∙ ap read_of part)))
    where
      clash : (o : Done) (n p : ℕ) → o ≡ accepted tt → o ≡ refused n p → ⊥
      clash o n p f g = let z : ◌≡◌ {A = ℕ} 0 1 = cc in omega arith

  pub frame_read : (r : Result reading.Frame Refusal) → view_reading r ≡ read_of (take (16 + len - 16) (drop 16 b)) → IsOk r
  frame_read (Ok f) e = refl
  frame_read (Err r) e = never (number_of r.fault) r.place e

  pub record_text : (x : Overview) → accepted x ≡ read_of (take (16 + len - 16) (drop 16 b))
      → frame_line x.kind x.card x.sequence len x.items ++ entry_lines b count ++ end_line count ≡ listing b
  unfolding listing frame_of read_of
  record_text x e = rw (k.judged, k.length, k.entries) (go (verdict (frame_in b)) (e ∙ ap read_of part))
    where
      same : (x y : Overview) → accepted x ≡ accepted y → x ≡ y
      same x y q = cc

      go : (o : Outcome Frame) → accepted x ≡ and_then o (λ f. accepted (overview f))
          → frame_line x.kind x.card x.sequence (length_in b) x.items ++ entry_lines b (count_in b) ++ end_line (count_in b) ≡ listing_of o b
      go (accepted f) q = rw (same x (overview f) q)
      go (refused n p) q = let z : ◌≡◌ {A = ℕ} 0 1 = cc in absurd (omega arith)

pub told_known : (b : List ℕ) (x : Summary) → accepted x ≡ record_answer plane_frames (format_in b) b → Known b x.length x.count
told_known b x e = let t = record_known (format_in b) b x e in record { judged = t.verdict; length = t.length; entries = t.count }

abbrev lengths : List ℕ → Summary
lengths b = record { length = length_in b; count = count_in b; total = total_in (format_in b) b }

pub refused_text : (b : List ℕ) (n p : ℕ) → refused n p ≡ record_answer plane_frames (format_in b) b → refused_line n p ≡ listing b
unfolding listing frame_of record_answer
refused_text b n p e = go (record_verdict plane_frames (format_in b) b) e
  where
    number : (m q n p : ℕ) → ◌≡◌ {A = Outcome Summary} (refused m q) (refused n p) → m ≡ n
    number m q n p f = cc

    place : (m q n p : ℕ) → ◌≡◌ {A = Outcome Summary} (refused m q) (refused n p) → q ≡ p
    place m q n p f = cc

    go : (o : Done) → refused n p ≡ and_then o (λ u. accepted (lengths b))
        → refused_line n p ≡ listing_of (and_then o (λ u. verdict (frame_in b))) b
    go (accepted u) q = let z : ◌≡◌ {A = ℕ} 0 1 = cc in absurd (omega arith)
    go (refused m r) q = let f : ◌≡◌ {A = Outcome Summary} (refused n p) (refused m r) = q in rw (number n p m r f, place n p m r f)

-- ---- the listing

pub retold : {a t : List ℕ} → a ≡ t → {m : ℕ} {l k : List ℕ} {at i : ℕ} → Put m l at a k i → Put m l at t k i
retold e p = rw e at p

-- what was put at the start is what stands there
taken : {m : ℕ} {l k t : List ℕ} {n : ℕ} → Put m l 0 t k n → m ≤ length l → take n k ≡ t
taken {m} {l} {k} {t} {n} p h =
    let f = p.few in
    let e : n ≡ length t = let g = p.behind in omega arith in
    let s : k ≡ t ++ drop (0 + length t) l = p.stored ∙ sets-eq t l 0 (omega arith) in
    rw s (take_at t (drop (0 + length t) l) n (sym e))

pub copied_text : {m : ℕ} {l k t : List ℕ} {n : ℕ} → Put m l 0 t k n → m ≤ length l → (out left : List ℕ) → left ≡ sets out 0 (take n k) → left ≡ sets out 0 t
copied_text p h out left e = e ∙ ap (λ (x : List ℕ). sets out 0 x) (taken p h)

pub listed_written : (b out left : List ℕ) (n : ℕ) → n ≡ 0 + length (listing b) → n ≤ length out → left ≡ sets out 0 (listing b) → Listed b out (accepted n) left
unfolding listing_answer listing_exit
listed_written b out left n e h w =
    let g : n ≡ length (listing b) = omega arith in
    let r : leb (length (listing b)) (length out) ≡ true = le-leb (length (listing b)) (length out) (omega arith) in
    record { answered = rw r (ap accepted g); left = rw r w }

pub listed_short : (b out : List ℕ) (n : ℕ) → n ≡ 0 + length (listing b) → length out < n → Listed b out (refused 12 0) out
unfolding listing_answer listing_exit
listed_short b out n e h =
    let r : leb (length (listing b)) (length out) ≡ false = lt-leb (length (listing b)) (length out) (omega arith) in
    record { answered = rw r; left = rw r }
