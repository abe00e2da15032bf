-- The two loops over an accepted frame: the one that looks for the item at a word, and the one that notes the header of every item. Each turn is
-- a case of the cursor's law (format's CursorLaws), and what it tells of the word is in format's ScanLaws.
-- Assumes nothing.
use Prim.Native.Nat.{ℕ, zero, suc, ◌+◌, ◌/◌, ◌%◌, ◌<◌, ◌≤◌}
use mathlib.Core.Path.{◌≡◌, refl, sym, ap, ap₂, subst, ◌∙◌}
use mathlib.Core.List.{List, [], ◌∷◌}
use denote.Enum.Declared.{tag_of}
use types.Run.{OneOf, miss}
use mathlib.Core.Bool.{Bool, true, false, ◌&&◌, true≢false}
use mathlib.Core.Option.{Option, none, some}
use native.Mathlib.Omega.{arith}
use lib.Dec.{eqb, leb, ltb}
use lib.ListN.{length, get_or, set, length-set}
use lib.Seq.{get_or-set_same, get_or-set_other}
use borrow.Author.Tests.{eqb-true, eqb-false, leb-true, leb-false, ltb-true, ltb-false, lt-ltb}
use Rattle.format.specs.Words.{pick, word_at, long_at}
use Rattle.format.specs.Answers.{Outcome, accepted, refused}
use Rattle.format.specs.Items.{ItemOf, Item, Channel, Histogram, HitCount, Sample, Bin, LastCell, TimeBin, Text, StartEvent, ContinueEvent, EndEvent, words_of}
use Rattle.format.specs.Book.{Class, after, channel, histogram, hit_count, sample, bin, text, start_event, continue_event, end_event, class_of}
use Rattle.format.specs.Steps.{next_at}
use Rattle.format.specs.Frames.{Frame, last_of, head_fault, judged, verdict}
use Rattle.format.specs.Questions.{done}
use Rattle.format.specs.Cursor.{standing_at, shown_by, On}
use Rattle.format.specs.Spots.{Header, no_header, Spot, spot_of, under, spot}
use Rattle.format.specs.Scans.{head_by, head, header_by, header_at, Noted}
use Rattle.format.proofs.book.PrefixLaws.{and_left, and_right, and_both}
use Rattle.format.proofs.book.BookLaws.{ranged}
use Rattle.format.proofs.book.RangeLaws.{bin_is, sample_is, hits_is, histogram_is, channel_is}
use Rattle.format.proofs.verdict.HeadLaws.{head_of}
use Rattle.format.proofs.reader.CursorLaws.{last_is, Turn, turn, answered, nothing_answered, channel_turn, histogram_turn, hits_turn, sample_turn, bin_turn}
use Rattle.format.proofs.spots.ScanLaws.{shown_head, shown_spot, Ahead, ahead_start, blank_first, Passed, pass, ahead_end}
use Rattle.cursor.proofs.Shows.{sample_shown, bin_shown}
use Rattle.ledger.specs.Frames.{Accepted}
use Rattle.ledger.specs.PlaneFrames.{plane_frames, plane_frames_judge}
use Rattle.ledger.proofs.plane.PlaneFrames.{plane_frames_lawful}
use Rattle.book.specs.Views.{view_item}
use Rattle.book.specs.declared.items.Item as declared
use Rattle.book.specs.contracts.items.Item.{the_type}
use Rattle.book.specs.declared.items.Item.TheVariants as item
use Rattle.records.specs.Undoing.{Heads}

-- ---- an item answer taken apart

-- anything but a Sample or Bin is no spot
pub other_spot : (z : declared.Item) → OneOf (0 ∷ 1 ∷ 2 ∷ 5 ∷ 6 ∷ 7 ∷ 8 ∷ 9 ∷ 10 ∷ []) (tag_of the_type z) → (k : Header) → none ≡ spot_of k (view_item z)
other_spot (item.Channel x) o k = refl
other_spot (item.Histogram x) o k = refl
other_spot (item.HitCount x) o k = refl
other_spot (item.Sample x) o k = absurd (miss (0 ∷ 1 ∷ 2 ∷ 5 ∷ 6 ∷ 7 ∷ 8 ∷ 9 ∷ 10 ∷ []) 3 tt o)
other_spot (item.Bin x) o k = absurd (miss (0 ∷ 1 ∷ 2 ∷ 5 ∷ 6 ∷ 7 ∷ 8 ∷ 9 ∷ 10 ∷ []) 4 tt o)
other_spot (item.LastCell x) o k = refl
other_spot (item.TimeBin x) o k = refl
other_spot (item.Text x) o k = refl
other_spot (item.StartEvent x) o k = refl
other_spot (item.ContinueEvent x) o k = refl
other_spot (item.EndEvent x) o k = refl

-- ---- a test of a range

pub in_test : (a b w : ℕ) → leb a w && ltb w b ≡ true → (a ≤ w) × (w < b)
in_test a b w e = (leb-true a w (and_left (leb a w) (ltb w b) e), ltb-true w b (and_right (leb a w) (ltb w b) e))

pub below_test : (a b w : ℕ) → leb a w && ltb w b ≡ false → w < b → w < a
below_test a b w e l = go (leb a w) refl
  where
    go : (x : Bool) → leb a w ≡ x → w < a
    go true x = absurd (true≢false (sym (and_both (leb a w) (ltb w b) x (lt-ltb w b l)) ∙ e))
    go false x = leb-false a w x

-- ---- the frame of accepted bytes

framed : (o : Outcome Frame) → done o ≡ accepted tt → (f : Frame) × (o ≡ accepted f)
framed (accepted f) e = (f, refl)
framed (refused n p) e = let z : ◌≡◌ {A = ℕ} 0 1 = cc in absurd (omega arith)

pub the_frame : (s : List ℕ) → Accepted plane_frames s → (f : Frame) × (verdict s ≡ accepted f)
the_frame s a = framed (verdict s) (sym (plane_frames_judge s) ∙ a.judged)

-- its last word
pub record Sized (s : List ℕ) : Type 0 where
  pub some_words : 4 ≤ length s / 2
  pub few_words : last_of s < 4096

pub sized : (s : List ℕ) → Accepted plane_frames s → Sized s
sized s a =
    let (f, v) = the_frame s a in
    let l = last_is s a.bytes f v in
    let m = plane_frames_lawful.short s a in
    record { some_words = omega arith; few_words = omega arith }

-- the end word
frame_end : (s : List ℕ) (f : Frame) → verdict s ≡ accepted f → word_at s (last_of s) ≡ 0x000F
unfolding verdict
frame_end s f v = go (eqb (head_fault s) 0) refl v
  where
    go : (b : Bool) → eqb (head_fault s) 0 ≡ b → pick b (judged s) (refused (head_fault s) 0) ≡ accepted f → word_at s (last_of s) ≡ 0x000F
    go true e q = (head_of s (eqb-true (head_fault s) 0 e)).ended
    go false e q = let z : ◌≡◌ {A = ℕ} 0 1 = cc in absurd (omega arith)

-- the header at a word, by the item answered there
pub header_nothing : (s : List ℕ) (h : ℕ) → none ≡ shown_by (standing_at s h) → no_header ≡ header_at s h
unfolding header_at
header_nothing s h e = ap header_by e

pub header_shown : (s : List ℕ) (h : ℕ) (z : ItemOf ℕ) (n : ℕ) (k : Header) → k ≡ under no_header z → some (record { item = z; next = n }) ≡ shown_by (standing_at s h) → k ≡ header_at s h
unfolding header_at
header_shown s h z n k i e = i ∙ ap header_by e

-- where nothing stands at a word that the cursor stops at, the last word is reached
at_last : (s : List ℕ) (at : ℕ) → On s at → none ≡ shown_by (standing_at s at) → last_of s ≤ at
at_last s at g e = go (ltb at (last_of s)) refl
  where
    go : (b : Bool) → ltb at (last_of s) ≡ b → last_of s ≤ at
    go true q = absurd (nothing_answered s at g (ltb-true at (last_of s) q) (sym e))
    go false q = ltb-false at (last_of s) q

-- ---- looking for the item at word w

pub record Seeking (s : List ℕ) (w at h : ℕ) : Type 0 where
  pub few : last_of s < 4096
  pub ahead : Ahead s at h
  pub passed : w < at → spot s w ≡ none

pub seek_start : (s : List ℕ) (w : ℕ) → Accepted plane_frames s → Seeking s w 3 1
seek_start s w a =
    let (f, v) = the_frame s a in
    record { few = (sized s a).few_words; ahead = ahead_start s a.bytes f v; passed = λ h. (blank_first s a.bytes f v w h).spot }

module _ (s : List ℕ) (w at h : ℕ) (g : Seeking s w at h) where
  pub seek_end : none ≡ shown_by (standing_at s at) → at ≤ w → none ≡ spot s w
  seek_end e l = sym (ahead_end s at h g.ahead (at_last s at g.ahead.on e) w l).spot

  -- the item answered at the word
  module _ (z : ItemOf ℕ) (n : ℕ) (e : some (record { item = z; next = n }) ≡ shown_by (standing_at s at)) where
    pub seek_found : at ≡ w → (k : Header) (o : Option Spot) → k ≡ header_at s h → o ≡ spot_of k z → o ≡ spot s w
    seek_found q k o i r =
        let (x, j, t) = answered s at g.ahead.on z n (sym e) in
        r ∙ ap₂ (λ (k : Header) (y : ItemOf ℕ). spot_of k y) i (sym j) ∙ shown_spot (header_at s h) x ∙ sym (pass s at h g.ahead x n t).spot ∙ ap (spot s) q

    pub seek_next : (at ≡ w → ⊥) → at ≤ w → (j : ℕ) → j ≡ head_by h at z → (at < n) × (n ≤ last_of s) × Seeking s w n j
    seek_next q l j r =
        let (x, i, t) = answered s at g.ahead.on z n (sym e) in
        let p = pass s at h g.ahead x n t in
        let d : j ≡ head_by h at x = r ∙ ap (λ (y : ItemOf ℕ). head_by h at y) (sym i) ∙ shown_head h at x in
        let m : at ≡ w → ⊥ = q in (
          t.further,
          t.within,
          record { few = g.few; ahead = subst (Ahead s n) (sym d) p.next; passed = λ b. (p.between w (omega arith) b).spot },
        )

-- ---- noting the header of every item

pub record Noting (s map : List ℕ) (at h : ℕ) : Type 0 where
  pub few : last_of s < 4096
  pub long : 4096 ≤ length map
  pub begun : 3 ≤ at
  pub within : at ≤ last_of s
  pub ended : word_at s (last_of s) ≡ 0x000F
  pub ahead : Ahead s at h
  pub noted : (u : ℕ) → u < at → get_or map u 0 ≡ head s u
  pub blank : (u : ℕ) → at ≤ u → get_or map u 0 ≡ 0

pub note_start : (s map : List ℕ) → Accepted plane_frames s → 4096 ≤ length map → ((i : ℕ) → get_or map i 0 ≡ 0) → Noting s map 3 1
note_start s map a l z =
    let (f, v) = the_frame s a in
    let w = (sized s a).some_words in
    record {
      few = (sized s a).few_words;
      long = l;
      begun = omega arith;
      within = omega arith;
      ended = frame_end s f v;
      ahead = ahead_start s a.bytes f v;
      noted = λ u h. z u ∙ sym (blank_first s a.bytes f v u h).head;
      blank = λ u h. z u;
    }

module _ (s map : List ℕ) (at h : ℕ) (g : Noting s map at h) where
  -- an item passed, whichever it is
  note_past : (x : Item) (n j : ℕ) → Turn s at g.ahead.on x n → j ≡ head_by h at x → Noting s (set map at j) n j
  note_past x n j t e =
      let p = pass s at h g.ahead x n t in
      let i = t.further in
      let b = g.begun in
      record {
        few = g.few;
        long = rw (length-set map at j) g.long;
        begun = omega arith;
        within = t.within;
        ended = g.ended;
        ahead = subst (Ahead s n) (sym e) p.next;
        noted = λ u l. go p u l (ltb u at) refl (eqb u at) refl;
        blank = λ u l. get_or-set_other map at u j 0 (λ y. omega arith) ∙ g.blank u (omega arith);
      }
    where
      go : Passed s at h x n → (u : ℕ) → u < n → (a : Bool) → ltb u at ≡ a → (b : Bool) → eqb u at ≡ b → get_or (set map at j) u 0 ≡ head s u
      go p u l true a b y =
          let m = ltb-true u at a in
          get_or-set_other map at u j 0 (λ w. omega arith) ∙ g.noted u m
      go p u l false a true y =
          let m = eqb-true u at y in
          let r = g.long in
          let q = g.few in
          let z = g.within in
          rw m (get_or-set_same map at j 0 (omega arith) ∙ e ∙ sym p.head)
      go p u l false a false y =
          let m = ltb-false u at a in
          let w = eqb-false u at y in
          get_or-set_other map at u j 0 w ∙ g.blank u m ∙ sym (p.between u (omega arith) l).head

  -- a word above the end word is another
  pub note_before : (w : ℕ) → w ≡ word_at s at → 0x000F < w → at < last_of s
  note_before w e a = go (ltb at (last_of s)) refl
    where
      go : (b : Bool) → ltb at (last_of s) ≡ b → at < last_of s
      go true q = ltb-true at (last_of s) q
      go false q =
          let l = ltb-false at (last_of s) q in
          let m = g.within in
          let i : at ≡ last_of s = omega arith in
          let z : w ≡ 0x000F = e ∙ ap (word_at s) i ∙ g.ended in
          absurd (omega arith)

  pub tested_before : (a b w : ℕ) → w ≡ word_at s at → leb a w && ltb w b ≡ true → 0x000F < a → at < last_of s
  tested_before a b w e test l = let i = (in_test a b w test).0 in note_before w e (omega arith)

  -- a Sample or a Hit count, told by the range of its word
  pub note_plain : (w : ℕ) → w ≡ word_at s at → leb 0x3000 w && ltb w 0x8000 ≡ true → Noting s (set map at h) (at + 1) h
  note_plain w e test = go (ltb w 0x4000) refl
    where
      a : 0x3000 ≤ w
      a = (in_test 0x3000 0x8000 w test).0

      b : w < 0x8000
      b = (in_test 0x3000 0x8000 w test).1

      l : at < last_of s
      l = tested_before 0x3000 0x8000 w e test (omega arith)

      go : (x : Bool) → ltb w 0x4000 ≡ x → Noting s (set map at h) (at + 1) h
      go true x = let i = ltb-true w 0x4000 x in note_past _ _ h (sample_turn s at g.ahead.on l (sample_is w a i ∙ ap class_of e)) refl
      go false x = note_past _ _ h (hits_turn s at g.ahead.on l (hits_is w (ltb-false w 0x4000 x) b ∙ ap class_of e)) refl

  -- a header, which the next items stand under
  pub note_header : (w : ℕ) → w ≡ word_at s at → 0x8000 ≤ w → w < 65536 → (j : ℕ) → j ≡ at → Noting s (set map at j) (at + 1) j
  note_header w e a b j q = go (ltb w 0xC000) refl
    where
      l : at < last_of s
      l = note_before w e (omega arith)

      go : (x : Bool) → ltb w 0xC000 ≡ x → Noting s (set map at j) (at + 1) j
      go true x = note_past _ _ j (histogram_turn s at g.ahead.on l (histogram_is w a (ltb-true w 0xC000 x) ∙ ap class_of e)) q
      go false x = note_past _ _ j (channel_turn s at g.ahead.on l (channel_is w (ltb-false w 0xC000 x) b ∙ ap class_of e)) q

  -- a Time bin or a Last cell: no other item has a first word of that range
  pub note_short : (w : ℕ) → w ≡ word_at s at → leb 0x3000 w && ltb w 0x8000 ≡ false → leb 0x2000 w && ltb w 0x3000 ≡ false → w < 0x8000 → 0x0E00 ≤ w → Noting s (set map at h) (at + 1) h
  unfolding words_of
  note_short w e high middle low a =
      let (x, t) = turn s at g.ahead.on (note_before w e (omega arith)) in
      go (below_test 0x2000 0x3000 w middle (below_test 0x3000 0x8000 w high low)) x t
    where
      one : (x : Item) → length (words_of x) ≡ 1 → h ≡ head_by h at x → Turn s at g.ahead.on x (next_at s at) → Noting s (set map at h) (at + 1) h
      one x n q t =
          let v = t.wide in
          let m : next_at s at ≡ at + 1 = omega arith in
          note_past x (at + 1) h (subst (λ (i : ℕ). Turn s at g.ahead.on x i) m t) q

      go : w < 0x2000 → (x : Item) → Turn s at g.ahead.on x (next_at s at) → Noting s (set map at h) (at + 1) h
      go b (Channel i j c) t = let (p, q) = ranged (word_at s at) channel (sym t.class) refl in absurd (omega arith)
      go b (Histogram i j c) t = let (p, q) = ranged (word_at s at) histogram (sym t.class) refl in absurd (omega arith)
      go b (HitCount i j c) t = let (p, q) = ranged (word_at s at) hit_count (sym t.class) refl in absurd (omega arith)
      go b (Sample v) t = let (p, q) = ranged (word_at s at) sample (sym t.class) refl in absurd (omega arith)
      go b (Bin i n) t = let (p, q) = ranged (word_at s at) bin (sym t.class) refl in absurd (omega arith)
      go b (LastCell i j) t = one (LastCell i j) refl refl t
      go b (TimeBin i) t = one (TimeBin i) refl refl t
      go b (Text i) t = let (p, q) = ranged (word_at s at) text (sym t.class) refl in absurd (omega arith)
      go b (StartEvent i j c) t = let (p, q) = ranged (word_at s at) start_event (sym t.class) refl in absurd (omega arith)
      go b (ContinueEvent i) t = let (p, q) = ranged (word_at s at) continue_event (sym t.class) refl in absurd (omega arith)
      go b (EndEvent i) t = let (p, q) = ranged (word_at s at) end_event (sym t.class) refl in absurd (omega arith)

  -- a Bin, told by the range of its first word
  pub note_bin : (w : ℕ) → w ≡ word_at s at → leb 0x2000 w && ltb w 0x3000 ≡ true → Noting s (set map at h) (at + 3) h
  note_bin w e test =
      let (a, b) = in_test 0x2000 0x3000 w test in
      note_past _ _ h (bin_turn s at g.ahead.on (note_before w e (omega arith)) (bin_is w a b ∙ ap class_of e)) refl

  -- any other, by the item answered
  pub note_item : (z : ItemOf ℕ) (n : ℕ) → some (record { item = z; next = n }) ≡ shown_by (standing_at s at) → (j : ℕ) → j ≡ head_by h at z
      → (at < n) × (n ≤ last_of s) × Noting s (set map at j) n j
  note_item z n e j r =
      let (x, i, t) = answered s at g.ahead.on z n (sym e) in
      (t.further, t.within, note_past x n j t (r ∙ ap (λ (y : ItemOf ℕ). head_by h at y) (sym i) ∙ shown_head h at x))

  pub note_end : none ≡ shown_by (standing_at s at) → Heads s map
  note_end e u = go (ltb u at) refl
    where
      go : (b : Bool) → ltb u at ≡ b → get_or map u 0 ≡ head s u
      go true q = g.noted u (ltb-true u at q)
      go false q =
          let a = ltb-false u at q in
          g.blank u a ∙ sym (ahead_end s at h g.ahead (at_last s at g.ahead.on e) u a).head

-- ---- the item answer at a word where one begins

module _ (s : List ℕ) (at : ℕ) (g : Noted s at) (w : ℕ) (e : w ≡ word_at s at) where
  pub noted_sample : leb 0x3000 w && ltb w 0x4000 ≡ true → (v : ℕ) → v ≡ w % 4096 → some (record { item = Sample v; next = at + 1 }) ≡ shown_by (standing_at s at)
  noted_sample test v i =
      let (a, b) = in_test 0x3000 0x4000 w test in
      sample_shown s (last_of s) at w g.late g.early refl e v (sample_is w a b) i

  pub noted_bin : leb 0x2000 w && ltb w 0x3000 ≡ true → at + 3 ≤ last_of s
  unfolding next_at
  noted_bin test =
      let (a, b) = in_test 0x2000 0x3000 w test in
      let c : bin ≡ class_of (word_at s at) = bin_is w a b ∙ ap class_of e in
      let n : after (class_of (word_at s at)) (word_at s at) ≡ 2 = ap (λ (d : Class). after d (word_at s at)) (sym c) in
      let l = g.whole in
      omega arith

  pub noted_count : leb 0x2000 w && ltb w 0x3000 ≡ true → (b n : ℕ) → b ≡ w % 4096 → n ≡ long_at s (at + 1)
      → some (record { item = Bin b n; next = at + 3 }) ≡ shown_by (standing_at s at)
  noted_count test b n i j =
      let (p, q) = in_test 0x2000 0x3000 w test in
      bin_shown s (last_of s) at w g.late g.early refl e b n (bin_is w p q) (noted_bin test) i j

pub get_d_past : (l : List ℕ) (i : ℕ) → length l ≤ i → 0 ≡ get_or l i 0
get_d_past [] i h = refl
get_d_past (x ∷ l) zero h = absurd (omega arith)
get_d_past (x ∷ l) (suc i) h = get_d_past l i (omega arith)
