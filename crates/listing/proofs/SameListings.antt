-- Two listings that are equal, line by line: what the lines tell is equal. The law of proofs/front/NothingHidden.antt.
-- Assumes nothing.
use Prim.Native.Nat.{ℕ, zero, suc, ◌+◌, ◌-◌, ◌≤◌, ◌<◌}
use mathlib.Core.Path.{◌≡◌, refl, sym, ap, subst, ◌∙◌}
use mathlib.Core.Logic.{◌⊎◌, inl, inr, ⊎_elim}
use mathlib.Core.Bool.{Bool, true, false, ◌&&◌, true≢false}
use mathlib.Core.List.{List, [], ◌∷◌, ◌++◌, append_assoc, append-nil}
use native.Mathlib.Omega.{arith}
use lib.Dec.{eqb, leb, ltb}
use lib.ListN.{length, get_or, take}
use borrow.Author.Tests.{eqb-true, eqb-false}
use Rattle.format.specs.Words.{Bytes, word_at}
use Rattle.format.specs.Answers.{Done, accepted, refused, and_then}
use Rattle.format.specs.Frames.{Frame, verdict}
use Rattle.format.specs.Spots.{legal_value}
use Rattle.format.proofs.verdict.Acceptance.{exactly}
use Rattle.format.proofs.book.PrefixLaws.{and_left}
use Rattle.ledger.specs.Formats.{Entry, Format}
use Rattle.ledger.specs.Records.{length_in, count_in, frame_in, numbered, entries_in, length_entries, record_verdict}
use Rattle.ledger.specs.Chains.{Fits}
use Rattle.ledger.specs.VersionOne.{version_one, no_extra}
use Rattle.ledger.specs.VersionTwo.{time_in, desk_in, version_two}
use Rattle.ledger.specs.Versions.{v2, format_in}
use Rattle.ledger.specs.PlaneFrames.{plane_frames}
use Rattle.ledger.proofs.records.Judging.{verdict_parts, each_fits, entry_at, fits_right}
use Rattle.ledger.proofs.plane.StampLaws.{stamp_of}
use Rattle.ledger.proofs.plane.VersionLaws.{for_which}
use Rattle.ledger.proofs.plane.OneJudge.{names_version}
use Rattle.records.proofs.RecordLaws.{frame_bytes}
use Rattle.listing.specs.Listing.{frame_line, entry_line, end_line, entry_lines, frame_of, listing, SameRecord}
use Rattle.listing.proofs.Splits.{frame_split, Alike, entry_split, end_split, entry_not_end}

-- entry j of a record, by its own version
abbrev entry : List ℕ → ℕ → Entry
entry b j = numbered (format_in b) b j

-- ---- the entries' lines from the front

-- the lines of n entries after the first j
unfoldable from : List ℕ → ℕ → ℕ → List ℕ
from b j zero = []
from b j (suc n) = entry_line (suc j) (entry b (suc j)) ++ from b (suc j) n

from_more : (b : List ℕ) (j n : ℕ) → from b j (suc n) ≡ from b j n ++ entry_line (suc (j + n)) (entry b (suc (j + n)))
unfolding from
from_more b j zero = let z : j + 0 ≡ j = omega arith in rw z (append-nil _)
from_more b j (suc n) =
    let z : j + suc n ≡ suc j + n = omega arith in
    ap (λ (l : List ℕ). entry_line (suc j) (entry b (suc j)) ++ l) (from_more b (suc j) n) ∙ rw z (sym (append_assoc (entry_line (suc j) (entry b (suc j))) (from b (suc j) n) _))

from_front : (b : List ℕ) (n : ℕ) → entry_lines b n ≡ from b 0 n
unfolding entry_lines from
from_front b zero = refl
from_front b (suc n) =
    let z : 0 + n ≡ n = omega arith in
    sym (from_more b 0 n ∙ rw (z, ← from_front b n) refl)

above : (i j : ℕ) → (i ≡ j → ⊥) → j ≤ i → j < i
above i j d h = omega arith

-- the lines of entries and the last line, with any count in it
same_entries : (b c : List ℕ) (j m n u v : ℕ) → from b j m ++ end_line u ≡ from c j n ++ end_line v
    → (m ≡ n) × (u ≡ v) × ((i : ℕ) → j < i → i ≤ j + m → Alike (entry b i) (entry c i))
unfolding from
same_entries b c j zero zero u v e = (refl, end_split u v e, λ i h g. absurd (omega arith))
same_entries b c j zero (suc n) u v e =
    absurd (entry_not_end (suc j) u (entry c (suc j)) (from c (suc j) n ++ end_line v) (sym (e ∙ append_assoc (entry_line (suc j) (entry c (suc j))) (from c (suc j) n) (end_line v))))
same_entries b c j (suc m) zero u v e =
    absurd (entry_not_end (suc j) v (entry b (suc j)) (from b (suc j) m ++ end_line u) (sym (append_assoc (entry_line (suc j) (entry b (suc j))) (from b (suc j) m) (end_line u)) ∙ e))
same_entries b c j (suc m) (suc n) u v e =
    let q = sym (append_assoc (entry_line (suc j) (entry b (suc j))) (from b (suc j) m) (end_line u)) ∙ e ∙ append_assoc (entry_line (suc j) (entry c (suc j))) (from c (suc j) n) (end_line v) in
    let r = entry_split (suc j) (entry b (suc j)) (entry c (suc j)) (from b (suc j) m ++ end_line u) (from c (suc j) n ++ end_line v) q in
    let t = same_entries b c (suc j) m n u v r.1 in
    (ap suc t.0, t.1, λ i h g. go i (eqb i (suc j)) refl r.0 (λ k. t.2 i k (omega arith)) h)
  where
    go : (i : ℕ) (s : Bool) → eqb i (suc j) ≡ s → Alike (entry b (suc j)) (entry c (suc j))
        → (suc j < i → Alike (entry b i) (entry c i)) → j < i → Alike (entry b i) (entry c i)
    go i true p a k h = rw (eqb-true i (suc j) p) a
    go i false p a k h = k (let d = eqb-false i (suc j) p in above i (suc j) d (omega arith))

-- ---- an entry of an accepted record is a sample's or a bin's

legal_bin : (k v : ℕ) → legal_value k v ≡ true → eqb k 1 ≡ false → k ≡ 2
unfolding legal_value
legal_bin k v h e = eqb-true k 2 (and_left (eqb k 2) (leb 1 v) (and_left (eqb k 2 && leb 1 v) (ltb v 4294967296) (rw e at h)))

kind_same : (k l v w : ℕ) → legal_value k v ≡ true → legal_value l w ≡ true → eqb k 1 ≡ eqb l 1 → k ≡ l
kind_same k l v w h g e = go (eqb l 1) refl
  where
    go : (t : Bool) → eqb l 1 ≡ t → k ≡ l
    go true q = eqb-true k 1 (e ∙ q) ∙ sym (eqb-true l 1 q)
    go false q = legal_bin k v h (e ∙ q) ∙ sym (legal_bin l w g q)

-- ---- it fits the frame that it led to, so that what it keeps is what its version keeps

entry_fits : (b : List ℕ) (j : ℕ) → record_verdict plane_frames (format_in b) b ≡ accepted tt → 1 ≤ j → j ≤ count_in b
    → (f : List ℕ) × Fits plane_frames (format_in b) f (entry b j)
entry_fits b j h l g =
    let m = count_in b - j in
    let k : count_in b - m ≡ j = omega arith in
    let d = entry b 0 in
    let i : m < length (entries_in (format_in b) b) = rw (length_entries (format_in b) b (count_in b)) (omega arith) in
    let f = each_fits plane_frames (format_in b) (frame_in b) (entries_in (format_in b) b) d (verdict_parts plane_frames (format_in b) b h).2 m i in
    let a : get_or (entries_in (format_in b) b) m d ≡ entry b j = entry_at plane_frames (format_in b) b (count_in b) m d (omega arith) ∙ ap (entry b) k in
    (_, fits_right plane_frames (format_in b) _ _ (rw a at f))

entry_legal : (b : List ℕ) (f : List ℕ) (e : Entry) → Fits plane_frames (format_in b) f e → legal_value e.kind e.old ≡ true
unfolding plane_frames
entry_legal b f e t = t.old

-- nothing in version 1, a time and desk 0 in version 2
abbrev Kept : ℕ → List ℕ → Type 0
Kept version x = ((version ≡ 1) × (x ≡ [])) ⊎ ((version ≡ 2) × (x ≡ time_in x ∷ 0 ∷ []))

kept_one : (f : List ℕ) (e : Entry) → Fits plane_frames version_one f e → e.extra ≡ []
unfolding version_one
kept_one f e t = go e.extra t.good
  where
    go : (x : List ℕ) → no_extra x ≡ true → x ≡ []
    go [] g = refl
    go (a ∷ x) g = absurd (true≢false (sym g))

kept_two : (f : List ℕ) (e : Entry) → Fits plane_frames version_two f e → e.extra ≡ time_in e.extra ∷ 0 ∷ []
unfolding version_two
kept_two f e t = (stamp_of e.extra t.good).pair ∙ ap (λ (d : ℕ). time_in e.extra ∷ d ∷ []) (eqb-true (desk_in e.extra) 0 t.suits)

kept : (b : List ℕ) → record_verdict plane_frames (format_in b) b ≡ accepted tt → (f : List ℕ) (e : Entry) → Fits plane_frames (format_in b) f e → Kept (word_at b 0) e.extra
kept b h f e t =
    ⊎_elim (λ w. inl (w.0, kept_one f e (subst (λ (F : Format). Fits plane_frames F f e) w.1 t)))
    (λ w. inr (names_version v2 b (subst (λ (F : Format). record_verdict plane_frames F b ≡ accepted tt) w.1 h), kept_two f e (subst (λ (F : Format). Fits plane_frames F f e) w.1 t)))
    (for_which (word_at b 0))

none_kept : (x : List ℕ) (t : ℕ) (y : List ℕ) → x ≡ [] → y ≡ t ∷ 0 ∷ [] → take 1 x ≡ take 1 y → ⊥
none_kept x t y p q e = let z : ◌≡◌ {A = ℕ} 0 1 = ap (λ (l : List ℕ). length (take 1 l)) (sym p) ∙ ap length e ∙ ap (λ (l : List ℕ). length (take 1 l)) q in omega arith

-- a time that stands in both lines or in none tells all that the entries keep, and the version
same_kept : (v w : ℕ) (x y : List ℕ) → Kept v x → Kept w y → take 1 x ≡ take 1 y → (v ≡ w) × (x ≡ y)
same_kept v w x y (inl p) (inl q) e = (p.0 ∙ sym q.0, p.1 ∙ sym q.1)
same_kept v w x y (inl p) (inr q) e = absurd (none_kept x (time_in y) y p.1 q.1 e)
same_kept v w x y (inr p) (inl q) e = absurd (none_kept y (time_in x) x q.1 p.1 (sym e))
same_kept v w x y (inr p) (inr q) e =
    let t : time_in x ≡ time_in y = ap (λ (l : List ℕ). get_or (take 1 l) 0 0) (sym p.1) ∙ ap (λ (l : List ℕ). get_or l 0 0) e ∙ ap (λ (l : List ℕ). get_or (take 1 l) 0 0) q.1 in
    (p.0 ∙ sym q.0, p.1 ∙ ap (λ (n : ℕ). n ∷ 0 ∷ []) t ∙ sym q.1)

same_entry : (e f : Entry) → Alike e f → e.kind ≡ f.kind → e.extra ≡ f.extra → e ≡ f
same_entry e f a k x =
    λ i. record { word = a.word i; kind = k i; old = a.old i; new = a.new i; operator = a.operator i; reason = a.reason i; extra = x i }

-- ---- two accepted records with one listing

accepted_parts : (b : List ℕ) (f : Frame) → frame_of b ≡ accepted f → (record_verdict plane_frames (format_in b) b ≡ accepted tt) × (verdict (frame_in b) ≡ accepted f)
unfolding frame_of
accepted_parts b f e = go (record_verdict plane_frames (format_in b) b) refl e
  where
    go : (o : Done) → record_verdict plane_frames (format_in b) b ≡ o → and_then o (λ u. verdict (frame_in b)) ≡ accepted f → (record_verdict plane_frames (format_in b) b ≡ accepted tt) × (verdict (frame_in b) ≡ accepted f)
    go (accepted u) p q = (p, q)
    go (refused n r) p q = let z : ◌≡◌ {A = ℕ} 0 1 = cc in absurd (omega arith)

short : (b : List ℕ) → Bytes b → (f : Frame) → verdict (frame_in b) ≡ accepted f → f.sequence < 65536
short b y f e = let l = ((exactly (frame_in b) (frame_bytes b y) f).0 e).0.sequence in omega arith

line_by_line : (b : List ℕ) (f : Frame) → frame_of b ≡ accepted f
    → listing b ≡ frame_line f.kind f.card f.sequence (length_in b) (length f.items) ++ (from b 0 (count_in b) ++ end_line (count_in b))
unfolding listing
line_by_line b f e = rw (e, from_front b (count_in b)) (append_assoc (frame_line f.kind f.card f.sequence (length_in b) (length f.items)) (from b 0 (count_in b)) (end_line (count_in b)))

-- two entries of one number whose lines are equal, and the versions of their records
same_both : (b c : List ℕ) → record_verdict plane_frames (format_in b) b ≡ accepted tt → record_verdict plane_frames (format_in c) c ≡ accepted tt
    → (j : ℕ) → 1 ≤ j → j ≤ count_in b → j ≤ count_in c → Alike (entry b j) (entry c j) → (word_at b 0 ≡ word_at c 0) × (entry b j ≡ entry c j)
same_both b c v w j l h g a =
    let (f, p) = entry_fits b j v l h in
    let (k, q) = entry_fits c j w l g in
    let x = same_kept (word_at b 0) (word_at c 0) (entry b j).extra (entry c j).extra (kept b v f (entry b j) p) (kept c w k (entry c j) q) a.time in
    let n = kind_same (entry b j).kind (entry c j).kind (entry b j).old (entry c j).old (entry_legal b f (entry b j) p) (entry_legal c k (entry c j) q) a.kind in
    (x.0, same_entry (entry b j) (entry c j) a n x.1)

pub nothing_hidden : (b c : List ℕ) → Bytes b → Bytes c → (f g : Frame) → frame_of b ≡ accepted f → frame_of c ≡ accepted g → listing b ≡ listing c → SameRecord b c f g
nothing_hidden b c y z f g p q e =
    let v = accepted_parts b f p in
    let w = accepted_parts c g q in
    let s = frame_split f.kind g.kind f.card g.card f.sequence g.sequence (length_in b) (length_in c) (length f.items) (length g.items) _ _ (short b y f v.1) (short c z g w.1) (sym (line_by_line b f p) ∙ e ∙ line_by_line c g q) in
    let t = same_entries b c 0 (count_in b) (count_in c) (count_in b) (count_in c) s.after in
    let all : (j : ℕ) → 1 ≤ j → j ≤ count_in b → (word_at b 0 ≡ word_at c 0) × (entry b j ≡ entry c j) =
    λ j l h. same_both b c v.0 w.0 j l h (let n = t.0 in omega arith) (t.2 j (omega arith) (omega arith)) in
    record {
      kind = s.kind;
      card = s.card;
      sequence = s.sequence;
      size = s.size;
      items = s.items;
      count = t.0;
      entries = λ j l h. (all j l h).1;
      version = λ h. (all 1 (omega arith) h).0;
    }
