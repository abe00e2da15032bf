-- From the header, the frame's verdict and the history to what the questions on a record answer.
-- Assumes nothing.
use Prim.Native.Nat.{ℕ, zero, suc, ◌+◌, ◌-◌, ◌*◌, ◌<◌, ◌≤◌}
use mathlib.Core.Path.{◌≡◌, refl, sym, ap, ap₂, subst, ◌∙◌}
use mathlib.Core.List.{List, [], ◌∷◌}
use mathlib.Core.Bool.{Bool, true, false, ◌&&◌, ◌||◌}
use mathlib.Core.Logic.{⊎_elim, inr}
use mathlib.Core.Option.{Option, none}
use native.Mathlib.Nat.{add-sub_cancel_left, mul-le-mul, mul-suc}
use native.Mathlib.Omega.{arith}
use lib.Dec.{eqb, leb, ltb}
use lib.ListN.{length, get_or, take, drop, length-drop, replicate}
use lib.Seq.{take_all, length-take-le, get_or-drop, sets}
use Rattle.std.proofs.lemmas.List.{length-take, get_or-take, get_or_past}
use borrow.Author.Tests.{ltb-true, ltb-false, leb-true, eq-eqb, ne_eqb, lt-ltb}
use Rattle.format.specs.Words.{Bytes, pick, word_at, long_at}
use Rattle.format.specs.Answers.{Outcome, accepted, refused, Done, and_then, first_of}
use Rattle.format.specs.Frames.{Frame, verdict}
use Rattle.format.specs.Steps.{Overview, overview, read_of}
use Rattle.format.specs.Questions.{done}
use Rattle.format.specs.Spots.{Spot, spot, legal_value}
use Rattle.format.proofs.book.PrefixLaws.{and_left, and_right}
use Rattle.format.proofs.items.WordLaws.{below_drop, below_take}
use Rattle.format.proofs.items.StoringLaws.{sets_room, sets_inside, sets_other}
use Rattle.format.proofs.spots.PutLaws.{spot_refused}
use Rattle.ledger.specs.Tests.{all}
use Rattle.ledger.specs.Formats.{Entry, Format, size}
use Rattle.ledger.specs.Records.{length_in, count_in, total_in, frame_in, entry_of, numbered, entries_to, entries_in, length_entries, header_right, history_verdict, record_verdict}
use Rattle.ledger.specs.Calls.{Summary, record_answer, entry_answer, restored, restore_answer, restore_exit}
use Rattle.ledger.specs.Judged.{Judged, judged_at}
use Rattle.ledger.specs.VersionOne.{version_one}
use Rattle.ledger.specs.VersionTwo.{version_two}
use Rattle.ledger.specs.Versions.{version_for, format_for, format_in, format_for_lem}
use Rattle.ledger.specs.PlaneFrames.{plane_frames, plane_frames_judge}
use Rattle.ledger.proofs.records.Headers.{header_words}
use Rattle.ledger.proofs.plane.VersionLaws.{limit_is, for_one, for_other, for_which, for_lawful}
use Rattle.ledger.proofs.records.Judging.{verdict_parts, parts_verdict, frame_refused}
use Rattle.std.proofs.Common.{Result, Ok, Err}
use Rattle.std.specs.Prelude.{⊤, is_ok, IsErrAnd, MatchResult}
use Rattle.book.specs.Refusals.{number_of}
use Rattle.book.specs.declared.refusal.Refusal.{Refusal}
use Rattle.book.specs.Views.{refusal}
use Rattle.records.specs.Views.{unfit, framed_answer, history_judged}
use Rattle.records.specs.Undoing.{Framed, Kept, HistoryIn}

-- ---- what a `?` passes on

pub passed_on : {A : Type 0} (r : Result A Refusal) (e : Refusal) → IsErrAnd r (λ (q : Refusal). q ≡ e) → r ≡ Err e
passed_on (Ok x) e i = absurd i
passed_on (Err q) e i = ap Err i

pub passed_by : {A : Type 0} (P : A → Type 0) (Q : Refusal → Type 0) (r : Result A Refusal) (e : Refusal) → IsErrAnd r (λ (q : Refusal). q ≡ e) → Q e → MatchResult r P Q
passed_by P Q r e i q = subst (λ (r : Result _ Refusal). MatchResult r P Q) (sym (passed_on r e i)) q

-- ---- the tests of the code, as the rules have them

pub legal_sample : (k v : ℕ) → k ≡ 1 → leb v 4095 ≡ legal_value k v
unfolding legal_value
legal_sample k v e = rw (eq-eqb k 1 e)

pub legal_bin : (k v : ℕ) → k ≡ 2 → v < 4294967296 → leb 1 v ≡ legal_value k v
unfolding legal_value
legal_bin k v e h = rw (e, lt-ltb v 4294967296 h) (sym (and_true (leb 1 v)))
  where
    and_true : (a : Bool) → (a && true) ≡ a
    and_true true = refl
    and_true false = refl

pub legal_none : (k v : ℕ) → (k ≡ 1 → ⊥) → (k ≡ 2 → ⊥) → false ≡ legal_value k v
unfolding legal_value
legal_none k v n m = rw (ne_eqb k 1 n, ne_eqb k 2 m)

-- the version is one that there is
two_versions : (a : ℕ) → (eqb a 1 || eqb a 2) ≡ eqb a (format_for a).version
unfolding version_one version_two
two_versions a = ⊎_elim (λ w. rw (w.1, w.0)) (λ w. rw (w.1, ne_eqb a 1 w.0)) (for_which a)

limit_for : (a : ℕ) (es : List Entry) → (format_for a).limit es ≡ leb (length es) 512
limit_for a es = ap (λ (F : Format). F.limit es) (format_for_lem a) ∙ limit_is (version_for a) es

pub header_tests : (b : List ℕ) (a c d len e n t z size' : ℕ) → a ≡ word_at b 0 → c ≡ word_at b 1 → d ≡ word_at b 2 → len ≡ word_at b 3 → e ≡ word_at b 4 → n ≡ word_at b 5
    → t ≡ word_at b 6 → z ≡ word_at b 7 → size' ≡ size (format_for a)
    → ((((((((leb 16 (length b) && (eqb a 1 || eqb a 2)) && eqb c 1) && eqb d 16) && eqb e (16 + len)) && eqb t (16 + len + size' * n)) && eqb z 0) && leb (16 + len + size' * n) (length b)) && leb n 512)
    ≡ header_right (format_in b) b
unfolding header_right all length_in count_in
header_tests b a c d len e n t z size' ea ec ed el ee en et ez es =
    rw (two_versions a, es, ea, ec, ed, el, ee, en, et, ez, limit_for (word_at b 0) (entries_to (format_for (word_at b 0)) b (word_at b 5)), length_entries (format_for (word_at b 0)) b (word_at b 5))

-- an entry has at most 24 bytes, so that products with a count are small
pub size_small : (version : ℕ) → size (format_for version) ≤ 24
size_small version = let x = (for_lawful version).extra_small in omega arith

pub product_small : (version s n : ℕ) → s ≡ size (format_for version) → n < 65536 → s * n ≤ 1572864
product_small version s n e h =
    let k = size_small version in
    let m : s * n ≤ 24 * 65536 = mul-le-mul (let l : s ≤ 24 = omega arith in l) (let l : n ≤ 65536 = omega arith in l) in
    omega arith

-- ---- an entry, read from the slice that it begins
pub entry_read : (s x : List ℕ) (version w k old new o r : ℕ) → w ≡ word_at s 0 → k ≡ word_at s 1 → old ≡ long_at s 2 → new ≡ long_at s 4 → o ≡ word_at s 6 → r ≡ word_at s 7
    → x ≡ (format_for version).read (drop 16 s)
    → record { word = w; kind = k; old = old; new = new; operator = o; reason = r; extra = x } ≡ entry_of (format_for version) s
unfolding entry_of
entry_read s x version w k old new o r ew ek eo en ep er ex = rw (ew, ek, eo, en, ep, er, ex)

pub size_one : (version : ℕ) → version ≡ 1 → 16 ≡ size (format_for version)
unfolding version_one
size_one version e = sym (ap (λ (F : Format). size F) (for_one version e))

pub size_two : (version : ℕ) → (version ≡ 1 → ⊥) → 24 ≡ size (format_for version)
unfolding version_two
size_two version e = sym (ap (λ (F : Format). size F) (for_other version e))

-- what it keeps after the reason
pub nothing_kept : (s : List ℕ) (version : ℕ) → version ≡ 1 → [] ≡ (format_for version).read (drop 16 s)
unfolding version_one
nothing_kept s version e = sym (ap (λ (F : Format). F.read (drop 16 s)) (for_one version e))

word_behind : (s : List ℕ) (i : ℕ) → word_at (drop 16 s) i ≡ word_at s (8 + i)
word_behind s i = ap₂ (λ (a b : ℕ). a + 256 * b) (get_or-drop 16 s (2 * i) 0 ∙ ap (λ (k : ℕ). get_or s k 0) (let q : 16 + 2 * i ≡ 2 * (8 + i) = omega arith in q)) (get_or-drop 16 s (2 * i + 1) 0 ∙ ap (λ (k : ℕ). get_or s k 0) (let q : 16 + (2 * i + 1) ≡ 2 * (8 + i) + 1 = omega arith in q))

pub stamp_kept : (s : List ℕ) (version low high time desk : ℕ) → (version ≡ 1 → ⊥) → low ≡ long_at s 8 → high ≡ word_at s 10 → desk ≡ word_at s 11 → time ≡ low + 4294967296 * high
    → time ∷ desk ∷ [] ≡ (format_for version).read (drop 16 s)
unfolding version_two
stamp_kept s version low high time desk n el eh ed et =
    ap₂ (λ (t d : ℕ). t ∷ d ∷ []) (et ∙ rw (el, eh, word_behind s 0, word_behind s 1, word_behind s 2)) (ed ∙ sym (word_behind s 3))
    ∙ sym (ap (λ (F : Format). F.read (drop 16 s)) (for_other version n))

-- two slices with the same words begin with the same entry
module _ (a b : List ℕ) (version : ℕ) (same : (i : ℕ) → i < 12 → word_at a i ≡ word_at b i) where
  same_long : (i : ℕ) → i < 11 → long_at a i ≡ long_at b i
  same_long i l = ap₂ (λ (m n : ℕ). m + 65536 * n) (same i (omega arith)) (same (i + 1) (omega arith))

  same_kept : (format_for version).read (drop 16 a) ≡ (format_for version).read (drop 16 b)
  same_kept = ⊎_elim (λ w. sym (nothing_kept a version w.0) ∙ nothing_kept b version w.0) (λ w. sym (stamp_kept a version _ _ _ _ w.0 refl refl refl refl) ∙ stamp_kept b version _ _ _ _ w.0 (same_long 8 (omega arith)) (same 10 (omega arith)) (same 11 (omega arith)) refl) (for_which version)

  same_entry : entry_of (format_for version) a ≡ entry_of (format_for version) b
  same_entry =
      sym (entry_read a _ version _ _ _ _ _ _ refl refl refl refl refl refl refl)
      ∙ entry_read b _ version _ _ _ _ _ _ (same 0 (omega arith)) (same 1 (omega arith)) (same_long 2 (omega arith)) (same_long 4 (omega arith)) (same 6 (omega arith)) (same 7 (omega arith)) same_kept

-- a part of a list of zeros
pub zeros : (n i : ℕ) → ◌≡◌ {A = ℕ} (get_or (replicate n 0) i 0) 0
zeros zero i = refl
zeros (suc n) zero = refl
zeros (suc n) (suc i) = zeros n i

-- what is past the end of a slice is 0, as in a copy of it in zeros
module _ (s z : List ℕ) (n : ℕ) (long : length z ≡ n) (none : (i : ℕ) → get_or z i 0 ≡ 0) where
  padded : (i : ℕ) → i < n → get_or (sets z 0 s) i 0 ≡ get_or s i 0
  padded i l = ap (λ (t : List ℕ). get_or t i 0) (sym (sets_room z s)) ∙ go (ltb i (length s)) refl
    where
      few : 0 + length (take (length z) s) ≤ length z
      few = omega (arith, length-take (length z) s)

      go : (b : Bool) → ltb i (length s) ≡ b → get_or (sets z 0 (take (length z) s)) i 0 ≡ get_or s i 0
      go true q = let e : i ≡ 0 + i = omega arith in ap (λ (j : ℕ). get_or (sets z 0 (take (length z) s)) j 0) e ∙ sets_inside (take (length z) s) z 0 i few (omega (arith, length-take (length z) s, ltb-true i (length s) q)) ∙ get_or-take (length z) s i 0 (omega arith)
      go false q =
          let p = ltb-false i (length s) q in
          sets_other (take (length z) s) z 0 i (inr (omega (arith, length-take (length z) s))) ∙ none i ∙ sym (get_or_past s i 0 p)

  padded_word : (i : ℕ) → 2 * i + 1 < n → word_at (sets z 0 s) i ≡ word_at s i
  padded_word i l = ap₂ (λ (a b : ℕ). a + 256 * b) (padded (2 * i) (omega arith)) (padded (2 * i + 1) l)

  pub padded_entry : (version : ℕ) (y : List ℕ) (e : Entry) → 24 ≤ n → y ≡ sets z 0 s → e ≡ entry_of (format_for version) y → e ≡ entry_of (format_for version) s
  padded_entry version y e l q i = i ∙ ap (entry_of (format_for version)) q ∙ same_entry (sets z 0 s) s version (λ j k. padded_word j (omega arith))

-- and from the part of a buffer that begins at byte `at`
pub entry_from : (F : Format) (b : List ℕ) (at : ℕ) (e : Entry) → e ≡ entry_of F (take (length b - at) (drop at b)) → at ≤ length b → e ≡ entry_of F (drop at b)
entry_from F b at e i h = i ∙ ap (entry_of F) (take_all (length b - at) (drop at b) (rw (length-drop at b) (omega arith)))

-- ---- the frame's verdict

judge_of : (o : Outcome Frame) (n p : ℕ) → refused n p ≡ and_then o (λ f. accepted (overview f)) → done o ≡ refused n p
judge_of (accepted f) n p e = let z : ◌≡◌ {A = ℕ} 0 1 = cc in absurd (omega arith)
judge_of (refused m q) n p e = cc

accept_of : (o : Outcome Frame) (x : Overview) → accepted x ≡ and_then o (λ f. accepted (overview f)) → done o ≡ accepted tt
accept_of (accepted f) x e = refl
accept_of (refused m q) x e = let z : ◌≡◌ {A = ℕ} 0 1 = cc in absurd (omega arith)

pub judge_refused : (s : List ℕ) (n p : ℕ) → refused n p ≡ read_of s → plane_frames.judge s ≡ refused n p
unfolding read_of
judge_refused s n p e = plane_frames_judge s ∙ judge_of (verdict s) n p e

pub judge_accepted : (s : List ℕ) (x : Overview) → accepted x ≡ read_of s → plane_frames.judge s ≡ accepted tt
unfolding read_of
judge_accepted s x e = plane_frames_judge s ∙ accept_of (verdict s) x e

no_frame : (o : Outcome Frame) (n p : ℕ) → done o ≡ refused n p → o ≡ refused n p
no_frame (accepted f) n p e = let z : ◌≡◌ {A = ℕ} 0 1 = cc in absurd (omega arith)
no_frame (refused m q) n p e = let f : refused m q ≡ refused n p = e in ap₂ refused (number m q n p f) (place m q n p f)
  where
    number : (m q n p : ℕ) → ◌≡◌ {A = Done} (refused m q) (refused n p) → m ≡ n
    number m q n p f = cc

    place : (m q n p : ℕ) → ◌≡◌ {A = Done} (refused m q) (refused n p) → q ≡ p
    place m q n p f = cc

-- where the bytes are no frame nothing stands
pub nothing_stands : (s : List ℕ) (n p w : ℕ) → refused n p ≡ read_of s → none ≡ spot s w
nothing_stands s n p w e = sym (spot_refused s n p w (no_frame (verdict s) n p (sym (plane_frames_judge s) ∙ judge_refused s n p e)))

-- ---- the frame as a part of the record

pub frame_part : (b : List ℕ) (len : ℕ) → len ≡ length_in b → take (16 + len - 16) (drop 16 b) ≡ frame_in b
frame_part b len e = rw (add-sub_cancel_left 16 len, e)

pub frame_bytes : (b : List ℕ) → Bytes b → Bytes (frame_in b)
frame_bytes b y = below_take (length_in b) (drop 16 b) 256 (omega arith) (below_drop 16 b 256 y)

pub record Room (F : Format) (b : List ℕ) : Type 0 where
  pub total : word_at b 6 ≡ total_in F b
  pub within : total_in F b ≤ length b
  pub few : F.limit (entries_in F b) ≡ true
  pub frame : length (frame_in b) ≡ length_in b

pub room : (F : Format) (b : List ℕ) → header_right F b ≡ true → Room F b
room F b h =
    let w = header_words F b h in
    let r : total_in F b ≤ length b = w.room in
    record { total = w.total; within = r; few = w.limit; frame = length-take-le (length_in b) (drop 16 b) (rw (length-drop 16 b) (omega arith)) }

-- ---- answers

abbrev pub lengths : Judged → Summary
lengths j = record { length = j.length; count = j.count; total = j.total }

-- ---- the header and the frame

module _ (F : Format) (b : List ℕ) where
  pub framed_header : header_right F b ≡ false → refused 20 0 ≡ framed_answer F b
  unfolding framed_answer
  framed_header h = rw h

  pub framed_frame : (n p : ℕ) → header_right F b ≡ true → plane_frames.judge (frame_in b) ≡ refused n p → refused n p ≡ framed_answer F b
  unfolding framed_answer
  framed_frame n p h j = rw (h, j)

  pub framed_right : header_right F b ≡ true → plane_frames.judge (frame_in b) ≡ accepted tt → (len n total : ℕ) → len ≡ length_in b → n ≡ count_in b → total ≡ total_in F b
      → accepted (record { length = len; count = n; total = total }) ≡ framed_answer F b
  unfolding framed_answer
  framed_right h j len n total el en et = rw (h, j, el, en, et)

  -- refused there, a record is refused
  pub framed_verdict : (n p : ℕ) → refused n p ≡ framed_answer F b → record_verdict plane_frames F b ≡ refused n p
  unfolding framed_answer record_verdict first_of
  framed_verdict n p e = go (header_right F b) refl (plane_frames.judge (frame_in b)) refl
    where
      same : (m q n p : ℕ) → ◌≡◌ {A = Outcome Summary} (refused n p) (refused m q) → ◌≡◌ {A = Done} (refused m q) (refused n p)
      same m q n p f = let i : n ≡ m = cc in let k : p ≡ q = cc in rw (i, k)

      go : (t : Bool) → header_right F b ≡ t → (o : Done) → plane_frames.judge (frame_in b) ≡ o → record_verdict plane_frames F b ≡ refused n p
      go false h o q = rw h (same 20 0 n p (e ∙ rw h))
      go true h (accepted u) q = let x : Summary = record { length = length_in b; count = count_in b; total = total_in F b } in let z : ◌≡◌ {A = Outcome Summary} (refused n p) (accepted x) = e ∙ rw (h, q) in let y : ◌≡◌ {A = ℕ} 0 1 = cc in absurd (omega arith)
      go true h (refused m r) q = frame_refused plane_frames F b m r (header_words F b h) q ∙ same m r n p (e ∙ rw (h, q))

-- what is known of a record whose header and frame are right
pub record FramedKnown (F : Format) (b : List ℕ) (x : Summary) : Type 0 where
  pub header : header_right F b ≡ true
  pub judged : plane_frames.judge (frame_in b) ≡ accepted tt
  pub length : x.length ≡ length_in b
  pub count : x.count ≡ count_in b
  pub total : x.total ≡ total_in F b

pub framed_known : (F : Format) (b : List ℕ) (x : Summary) → accepted x ≡ framed_answer F b → FramedKnown F b x
unfolding framed_answer
framed_known F b x e = go (header_right F b) refl (plane_frames.judge (frame_in b)) refl
  where
    inner : (x y : Summary) → accepted x ≡ accepted y → x ≡ y
    inner x y q = cc

    go : (t : Bool) → header_right F b ≡ t → (o : Done) → plane_frames.judge (frame_in b) ≡ o → FramedKnown F b x
    go false h o q = let z : ◌≡◌ {A = Outcome Summary} (accepted x) (refused 20 0) = e ∙ rw h in let y : ◌≡◌ {A = ℕ} 0 1 = cc in absurd (omega arith)
    go true h (refused m r) q = let z : ◌≡◌ {A = Outcome Summary} (accepted x) (refused m r) = e ∙ rw (h, q) in let y : ◌≡◌ {A = ℕ} 0 1 = cc in absurd (omega arith)
    go true h (accepted u) q =
        let i = inner x (record { length = length_in b; count = count_in b; total = total_in F b }) (e ∙ rw (h, q)) in
        record { header = h; judged = q; length = ap (λ (y : Summary). y.length) i; count = ap (λ (y : Summary). y.count) i; total = ap (λ (y : Summary). y.total) i }

-- the history of a record whose header and frame are right
pub history_framed : (b : List ℕ) → Bytes b → header_right (format_in b) b ≡ true → plane_frames.judge (frame_in b) ≡ accepted tt → (version n : ℕ) (f : List ℕ) → version ≡ word_at b 0 → n ≡ count_in b → f ≡ frame_in b
    → Framed (format_for version) f b n
history_framed b y h j version n f v e q =
    let r = room (format_in b) b h in
    rw (v, e, q) (record { accepted = record { bytes = frame_bytes b y; judged = j }; whole = r.frame; inside = r.within })

pub record_refused : (F : Format) (b : List ℕ) (n p : ℕ) → refused n p ≡ framed_answer F b → refused n p ≡ record_answer plane_frames F b
unfolding record_answer
record_refused F b n p e = rw (framed_verdict F b n p e)

module _ (F : Format) (b : List ℕ) (w : ℕ) where
  pub judged_refused : (n p : ℕ) → refused n p ≡ framed_answer F b → refused n p ≡ judged_at plane_frames F b w
  unfolding judged_at
  judged_refused n p e = rw (framed_verdict F b n p e)

  pub right_frame : header_right F b ≡ true → plane_frames.judge (frame_in b) ≡ accepted tt
      → (len n total : ℕ) → len ≡ length_in b → n ≡ count_in b → total ≡ total_in F b → (f : List ℕ) → f ≡ frame_in b
      → (o : Outcome Judged) → o ≡ history_judged F f b (record { length = len; count = n; total = total }) w → o ≡ judged_at plane_frames F b w
  unfolding judged_at history_judged
  right_frame h j len n total el en et f ef o eo = eo ∙ rw (parts_verdict plane_frames F b h j, et, ef, el, en)

  -- the record's answer is what is told, without what stands at the word
  judged_told : and_then (judged_at plane_frames F b w) (λ j. accepted (lengths j)) ≡ record_answer plane_frames F b
  unfolding judged_at record_answer
  judged_told = go (record_verdict plane_frames F b)
    where
      here : Judged
      here = record { length = length_in b; count = count_in b; total = total_in F b; spot = plane_frames.spot (frame_in b) w }

      go : (v : Done) → and_then (and_then v (λ u. accepted here)) (λ j. accepted (lengths j)) ≡ and_then v (λ u. accepted (lengths here))
      go (accepted u) = refl
      go (refused n p) = refl

  pub record_told : (o : Outcome Judged) → o ≡ judged_at plane_frames F b w → and_then o (λ j. accepted (lengths j)) ≡ record_answer plane_frames F b
  record_told o e = ap (λ (i : Outcome Judged). and_then i (λ j. accepted (lengths j))) e ∙ judged_told

-- by the history of the record
pub judged_history : (b : List ℕ) (w : ℕ) (x : Summary) (buf f : List ℕ) (version : ℕ) → HistoryIn b x buf f version → (o : Outcome Judged) → o ≡ history_judged (format_for version) f buf x w → o ≡ judged_at plane_frames (format_in b) b w
judged_history b w x buf f version h o e =
    let k = framed_known (format_in b) b x h.answered in
    right_frame (format_in b) b w k.header k.judged x.length x.count x.total k.length k.count k.total f h.part o (rw (h.first, h.lent) at e)

-- the walk back over the entries, and what stands at the word
module _ (F : Format) (f b : List ℕ) (x : Summary) (w : ℕ) where
  pub told_accepted : accepted tt ≡ history_verdict plane_frames F f (entries_to F b x.count) → (o : Option Spot) → o ≡ plane_frames.spot f w
      → accepted (record { length = x.length; count = x.count; total = x.total; spot = o }) ≡ history_judged F f b x w
  unfolding history_judged
  told_accepted e o q = rw (← e, q)

  pub told_refused : (n p : ℕ) → refused n p ≡ history_verdict plane_frames F f (entries_to F b x.count) → refused n p ≡ history_judged F f b x w
  unfolding history_judged
  told_refused n p e = rw (← e)

-- what an accepted record tells
pub record RecordKnown (F : Format) (b : List ℕ) (x : Summary) : Type 0 where
  pub verdict : record_verdict plane_frames F b ≡ accepted tt
  pub header : header_right F b ≡ true
  pub judged : plane_frames.judge (frame_in b) ≡ accepted tt
  pub length : x.length ≡ length_in b
  pub count : x.count ≡ count_in b
  pub total : x.total ≡ total_in F b

pub record_known : (F : Format) (b : List ℕ) (x : Summary) → accepted x ≡ record_answer plane_frames F b → RecordKnown F b x
unfolding record_answer
record_known F b x e = go (record_verdict plane_frames F b) refl e
  where
    inner : (x y : Summary) → accepted x ≡ accepted y → x ≡ y
    inner x y q = cc

    go : (o : Done) → record_verdict plane_frames F b ≡ o → accepted x ≡ and_then o (λ u. accepted (record { length = length_in b; count = count_in b; total = total_in F b })) → RecordKnown F b x
    go (accepted u) v q =
        let i = inner _ _ q in
        let p = verdict_parts plane_frames F b v in
        record { verdict = v; header = p.0; judged = p.1; length = ap (λ (y : Summary). y.length) i; count = ap (λ (y : Summary). y.count) i; total = ap (λ (y : Summary). y.total) i }
    go (refused n p) v q = let z : ◌≡◌ {A = ℕ} 0 1 = cc in absurd (omega arith)

-- a refused record is refused by every question
verdict_refused : (o : Done) (y : Summary) (n p : ℕ) → refused n p ≡ and_then o (λ u. accepted y) → o ≡ refused n p
verdict_refused (accepted u) y n p e = let z : ◌≡◌ {A = ℕ} 0 1 = cc in absurd (omega arith)
verdict_refused (refused m q) y n p e = let f : refused n p ≡ refused m q = e in ap₂ refused (number n p m q f) (place n p m q f)
  where
    number : (m q n p : ℕ) → ◌≡◌ {A = Outcome Summary} (refused m q) (refused n p) → n ≡ m
    number m q n p f = cc

    place : (m q n p : ℕ) → ◌≡◌ {A = Outcome Summary} (refused m q) (refused n p) → p ≡ q
    place m q n p f = cc

module _ (F : Format) (b : List ℕ) (n p : ℕ) (e : refused n p ≡ record_answer plane_frames F b) where
  refused_there : record_verdict plane_frames F b ≡ refused n p
  unfolding record_answer
  refused_there = verdict_refused (record_verdict plane_frames F b) _ n p e

  pub entry_refused : (j : ℕ) → refused n p ≡ entry_answer plane_frames F b j
  unfolding entry_answer
  entry_refused j = rw refused_there

module _ (F : Format) (b : List ℕ) (x : Summary) (t : RecordKnown F b x) where
  -- an entry that is numbered lies in the buffer
  pub entry_inside : (j : ℕ) → 1 ≤ j → j ≤ x.count → 16 + x.length + size F * (j - 1) + size F ≤ length b
  entry_inside zero l h = absurd (omega arith)
  entry_inside (suc p) l h =
      let n : suc p - 1 ≡ p = omega arith in
      let k = mul-suc (size F) p in
      let c = t.count in
      let len = t.length in
      let r = (room F b t.header).within in
      let s : size F ≤ size F = omega arith in
      let q : suc p ≤ count_in b = omega arith in
      let m : size F * suc p ≤ size F * count_in b = mul-le-mul s q in
      rw n (let g : 16 + x.length + size F * p + size F ≤ length b = omega arith in g)

  pub entry_none : (j : ℕ) → (leb 1 j && leb j x.count) ≡ false → refused 26 0 ≡ entry_answer plane_frames F b j
  unfolding entry_answer
  entry_none j h = let g : (leb 1 j && leb j (count_in b)) ≡ false = rw t.count at h in rw (t.verdict, g)

  pub entry_there : (j : ℕ) (e : Entry) → (leb 1 j && leb j x.count) ≡ true → e ≡ entry_of F (drop (16 + x.length + size F * (j - 1)) b)
      → accepted e ≡ entry_answer plane_frames F b j
  unfolding entry_answer numbered
  entry_there j e h i = let g : (leb 1 j && leb j (count_in b)) ≡ true = rw t.count at h in rw (t.verdict, g, i, t.length)

-- the same where the version was read from the buffer, and the size of an entry found by it
pub entry_numbered : (b : List ℕ) (x : Summary) → RecordKnown (format_in b) b x → (j version s : ℕ) (e : Entry) → (leb 1 j && leb j x.count) ≡ true
    → version ≡ word_at b 0 → s ≡ size (format_for version)
    → e ≡ entry_of (format_for version) (take (length b - (16 + x.length + s * (j - 1))) (drop (16 + x.length + s * (j - 1)) b)) → 16 + x.length + s * (j - 1) ≤ length b
    → accepted e ≡ entry_answer plane_frames (format_in b) b j
entry_numbered b x t j version s e h v z i l =
    entry_there (format_in b) b x t j e h (entry_from (format_for version) b (16 + x.length + s * (j - 1)) e i l ∙ rw (z, v))

-- ---- what the words of a right header tell

pub length_is : (b : List ℕ) (v : ℕ) → v ≡ word_at b 3 → v ≡ length_in b
unfolding length_in
length_is b v e = e

pub count_is : (b : List ℕ) (v : ℕ) → v ≡ word_at b 5 → v ≡ count_in b
unfolding count_in
count_is b v e = e

-- an entry number from 1 to the count
pub numbers : (j n : ℕ) → (leb 1 j && leb j n) ≡ true → (1 ≤ j) × (j ≤ n)
numbers j n e = (leb-true 1 j (and_left (leb 1 j) (leb j n) e), leb-true j n (and_right (leb 1 j) (leb j n) e))

-- at most 512 entries stand
pub few_entries : (b : List ℕ) → header_right (format_in b) b ≡ true → count_in b ≤ 512
few_entries b h =
    let l = leb-true (length (entries_in (format_in b) b)) 512 (sym (limit_for (word_at b 0) (entries_in (format_in b) b)) ∙ (room (format_in b) b h).few) in
    let n = length_entries (format_in b) b (count_in b) in
    omega arith

-- ---- restoring
module _ (F : Format) (b : List ℕ) (k : ℕ) (found : List ℕ) where
  pub restore_refused : (n p : ℕ) → record_verdict plane_frames F b ≡ refused n p → found ≡ restore_exit plane_frames F b k found
  unfolding restore_exit restore_answer first_of
  restore_refused n p e = rw e

  restore_known : record_verdict plane_frames F b ≡ accepted tt
      → restore_exit plane_frames F b k found ≡ pick (leb k (count_in b) && leb (length_in b) (length found)) (sets found 0 (restored plane_frames F b k)) found
  unfolding restore_exit restore_answer first_of
  restore_known e = go (leb k (count_in b)) refl (leb (length_in b) (length found)) refl
    where
      go : (s : Bool) → leb k (count_in b) ≡ s → (t : Bool) → leb (length_in b) (length found) ≡ t
          → restore_exit plane_frames F b k found ≡ pick (leb k (count_in b) && leb (length_in b) (length found)) (sets found 0 (restored plane_frames F b k)) found
      go false p t q = rw (e, p)
      go true p false q = rw (e, p, q)
      go true p true q = rw (e, p, q)

module _ (b : List ℕ) (x : Summary) (buf frame : List ℕ) (version : ℕ) (h : HistoryIn b x buf frame version) (k : ℕ) (found exit : List ℕ)
    (done : Result ⊤ Refusal) (t : Kept (format_for version) frame buf x.count k found done exit) where
  f : FramedKnown (format_in b) b x
  f = framed_known (format_in b) b x h.answered

  lent : Kept (format_in b) (frame_in b) b (count_in b) k found done exit
  lent = rw (h.first, h.lent, h.part, f.count) at t

  history : unfit done ≡ history_verdict plane_frames (format_in b) (frame_in b) (entries_in (format_in b) b)
  history = lent.verdict

  verdict_is : record_verdict plane_frames (format_in b) b ≡ unfit done
  verdict_is = parts_verdict plane_frames (format_in b) b f.header f.judged ∙ sym history

  fits_all : done ≡ Ok tt → record_verdict plane_frames (format_in b) b ≡ accepted tt
  fits_all z = verdict_is ∙ ap unfit z

  fits_not : (r : Refusal) → done ≡ Err r → record_verdict plane_frames (format_in b) b ≡ refusal r
  fits_not r z = verdict_is ∙ ap unfit z

  pub kept_record : done ≡ Ok tt → accepted x ≡ record_answer plane_frames (format_in b) b
  unfolding record_answer
  kept_record z =
      let q : x ≡ record { length = length_in b; count = count_in b; total = total_in (format_in b) b } = (λ i. record { length = f.length i; count = f.count i; total = f.total i }) in
      rw (fits_all z) (ap accepted q)

  pub kept_refused : (r : Refusal) → done ≡ Err r → refusal r ≡ record_answer plane_frames (format_in b) b
  unfolding record_answer
  kept_refused r z = rw (fits_not r z)

  told : exit ≡ pick ((is_ok done && leb k (count_in b)) && leb (length_in b) (length found)) (sets found 0 (restored plane_frames (format_in b) b k)) found
  unfolding restored
  told = rw (room (format_in b) b f.header).frame at lent.left

  pub kept_left : exit ≡ restore_exit plane_frames (format_in b) b k found
  kept_left = go done refl
    where
      go : (d : Result ⊤ Refusal) → done ≡ d → exit ≡ restore_exit plane_frames (format_in b) b k found
      go (Ok u) q = rw q at told ∙ sym (restore_known (format_in b) b k found (fits_all q))
      go (Err r) q = rw q at told ∙ restore_refused (format_in b) b k found (number_of r.fault) r.place (fits_not r q)
