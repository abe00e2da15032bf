-- The item that stands at a word, class by class: what the code cut from the words is the item as it is answered, and none where its words are not
-- there or are no item's.
-- Assumes nothing.
use Prim.Native.Nat.{ℕ, ◌+◌, ◌-◌, ◌*◌, ◌%◌, ◌≤◌, ◌<◌}
use mathlib.Core.Path.{◌≡◌, refl, sym, ap, ap₂, ◌∙◌}
use mathlib.Core.List.{List, []}
use mathlib.Core.Bool.{Bool, true, false}
use mathlib.Core.Option.{none, some}
use native.Mathlib.Omega.{arith}
use lib.ListN.{length, take, drop}
use Rattle.format.specs.Words.{Bytes, words, bytes, word_at, long_at, time_at}
use Rattle.format.specs.Book.{Class, channel, histogram, hit_count, sample, bin, last_cell, time_bin, data_frame, monitor_frame, command_frame, text, start_event, continue_event, end_event, frame_end, unassigned, class_of, after, assigned, text_words}
use Rattle.format.specs.Items.{Sample, Bin, TimeBin, Text, StartEvent, ContinueEvent, EndEvent, closed, decode, Token, whole, broken, token_for}
use Rattle.format.specs.Frames.{last_of}
use Rattle.format.specs.Questions.{shown}
use Rattle.format.specs.Cursor.{standing_by, standing_at, shown_by}
use Rattle.format.proofs.reader.TurnLaws.{Stands, alone, not_there, no_class, bin_there, start_there, continue_there, continue_broken, end_there, end_broken, text_there, text_broken}
use Rattle.format.proofs.reader.TextPlaced.{texted}
use Rattle.format.proofs.items.PartLaws.{payload_bytes}
use Rattle.format.proofs.reader.CursorLaws.{within_bytes, standing_in, standing_flawed}
use Rattle.cursor.specs.Promises.{TextClosed}
use Rattle.cursor.proofs.TextLoops.{closed_there}
use Rattle.book.specs.Fields as fields
use Rattle.book.specs.Fields.{channel_of, histogram_of, hits_of, cell_of, channel_item, histogram_item, hits_item, cell_item}
use Rattle.book.specs.declared.items.HitCount as hc
use Rattle.book.specs.declared.items.LastCell as lc

module _ (s : List ℕ) (last at w : ℕ) (b : 3 ≤ at) (h : at < last) (q : last ≡ last_of s) (e : w ≡ word_at s at) where
  shows : (t : Token) (next : ℕ) → Stands s (last_of s) at t next → shown_by (standing_by t next) ≡ shown_by (standing_at s at)
  shows t next k = ap shown_by (sym (standing_in s at t next b (omega arith) k))

  -- ---- a class with no words after it
  one : (c : Class) (t : Token) → c ≡ class_of w → assigned c ≡ true → after c (word_at s at) ≡ 0 → token_for c (decode c w []) ≡ t
      → shown_by (standing_by t (at + 1)) ≡ shown_by (standing_at s at)
  one c t k a z d = shows t (at + 1) (alone s (last_of s) at c t (k ∙ ap class_of e) a z (ap (λ (v : ℕ). token_for c (decode c v [])) (sym e) ∙ d))

  pub channel_shown : (r : fields.Channel) → channel ≡ class_of w → r ≡ channel_of w → some (record { item = shown (channel_item r); next = at + 1 }) ≡ shown_by (standing_at s at)
  unfolding decode
  channel_shown r k f = one channel (whole (channel_item r)) k refl refl (ap (λ (r : fields.Channel). whole (channel_item r)) (sym f))

  pub histogram_shown : (r : fields.Histogram) → histogram ≡ class_of w → r ≡ histogram_of w
      → some (record { item = shown (histogram_item r); next = at + 1 }) ≡ shown_by (standing_at s at)
  unfolding decode
  histogram_shown r k f = one histogram (whole (histogram_item r)) k refl refl (ap (λ (r : fields.Histogram). whole (histogram_item r)) (sym f))

  pub hit_shown : (r : hc.HitCount) → hit_count ≡ class_of w → r ≡ hits_of w → some (record { item = shown (hits_item r); next = at + 1 }) ≡ shown_by (standing_at s at)
  unfolding decode
  hit_shown r k f = one hit_count (whole (hits_item r)) k refl refl (ap (λ (r : hc.HitCount). whole (hits_item r)) (sym f))

  pub cell_shown : (r : lc.LastCell) → last_cell ≡ class_of w → r ≡ cell_of w → some (record { item = shown (cell_item r); next = at + 1 }) ≡ shown_by (standing_at s at)
  unfolding decode
  cell_shown r k f = one last_cell (whole (cell_item r)) k refl refl (ap (λ (r : lc.LastCell). whole (cell_item r)) (sym f))

  pub sample_shown : (v : ℕ) → sample ≡ class_of w → v ≡ w % 4096 → some (record { item = Sample v; next = at + 1 }) ≡ shown_by (standing_at s at)
  unfolding decode
  sample_shown v k f = one sample (whole (Sample v)) k refl refl (ap (λ (v : ℕ). whole (Sample v)) (sym f))

  pub time_shown : (v : ℕ) → time_bin ≡ class_of w → v ≡ w % 512 → some (record { item = TimeBin v; next = at + 1 }) ≡ shown_by (standing_at s at)
  unfolding decode
  time_shown v k f = one time_bin (whole (TimeBin v)) k refl refl (ap (λ (v : ℕ). whole (TimeBin v)) (sym f))

  -- ---- a class that begins no item
  pub data_shown : data_frame ≡ class_of w → none ≡ shown_by (standing_at s at)
  unfolding decode
  data_shown k = one data_frame (broken data_frame) k refl refl refl

  pub monitor_shown : monitor_frame ≡ class_of w → none ≡ shown_by (standing_at s at)
  unfolding decode
  monitor_shown k = one monitor_frame (broken monitor_frame) k refl refl refl

  pub command_shown : command_frame ≡ class_of w → none ≡ shown_by (standing_at s at)
  unfolding decode
  command_shown k = one command_frame (broken command_frame) k refl refl refl

  pub frame_end_shown : frame_end ≡ class_of w → none ≡ shown_by (standing_at s at)
  unfolding decode
  frame_end_shown k = one frame_end (broken frame_end) k refl refl refl

  pub unassigned_shown : unassigned ≡ class_of w → none ≡ shown_by (standing_at s at)
  unassigned_shown k = ap shown_by (sym (standing_flawed s at 6 (no_class s (last_of s) at (k ∙ ap class_of e))))

  -- ---- a class with words after it: not all of them are there
  pub cut_shown : (c : Class) (n : ℕ) → c ≡ class_of w → assigned c ≡ true → after c w ≡ n → last < at + 1 + n → none ≡ shown_by (standing_at s at)
  cut_shown c n k a z l =
      ap shown_by (sym (standing_flawed s at 7 (not_there s (last_of s) at (within_bytes s) c n (k ∙ ap class_of e) a (ap (after c) (sym e) ∙ z) (omega arith) (omega arith))))

  -- ---- or they are
  pub bin_shown : (r n : ℕ) → bin ≡ class_of w → at + 3 ≤ last → r ≡ w % 4096 → n ≡ long_at s (at + 1) → some (record { item = Bin r n; next = at + 3 }) ≡ shown_by (standing_at s at)
  bin_shown r n k l f g =
      ap (λ (r : ℕ). some (record { item = Bin r n; next = at + 3 })) (f ∙ ap (λ (v : ℕ). v % 4096) e)
      ∙ shows _ (at + 3) (bin_there s (last_of s) at (within_bytes s) n (k ∙ ap class_of e) (omega arith) g)

  pub start_shown : (r ts n : ℕ) → start_event ≡ class_of w → at + 6 ≤ last → r ≡ w % 16 → ts ≡ time_at s (at + 1) → n ≡ long_at s (at + 4)
      → some (record { item = StartEvent r ts n; next = at + 6 }) ≡ shown_by (standing_at s at)
  start_shown r ts n k l f g i =
      ap (λ (r : ℕ). some (record { item = StartEvent r ts n; next = at + 6 })) (f ∙ ap (λ (v : ℕ). v % 16) e)
      ∙ shows _ (at + 6) (start_there s (last_of s) at (within_bytes s) ts n (k ∙ ap class_of e) (omega arith) g i)

  pub end_shown : (low n : ℕ) → end_event ≡ class_of w → at + 3 ≤ last → low ≡ w % 16 → low ≡ 0 → n ≡ long_at s (at + 1)
      → some (record { item = EndEvent n; next = at + 3 }) ≡ shown_by (standing_at s at)
  end_shown low n k l f z g =
      shows _ (at + 3) (end_there s (last_of s) at (within_bytes s) n (k ∙ ap class_of e) (omega arith) (ap (λ (v : ℕ). v % 16) (sym e) ∙ sym f ∙ z) g)

  pub low_shown : (low : ℕ) → end_event ≡ class_of w → at + 3 ≤ last → low ≡ w % 16 → (low ≡ 0 → ⊥) → none ≡ shown_by (standing_at s at)
  low_shown low k l f z =
      shows _ (at + 3) (end_broken s (last_of s) at (within_bytes s) (k ∙ ap class_of e) (omega arith) (λ i. z (f ∙ ap (λ (v : ℕ). v % 16) e ∙ i)))

  pub continue_shown : (low n : ℕ) → continue_event ≡ class_of w → at + 3 ≤ last → low ≡ w % 512 → low ≡ 0 → n ≡ long_at s (at + 1)
      → some (record { item = ContinueEvent n; next = at + 3 }) ≡ shown_by (standing_at s at)
  continue_shown low n k l f z g =
      shows _ (at + 3) (continue_there s (last_of s) at (within_bytes s) n (k ∙ ap class_of e) (omega arith) (ap (λ (v : ℕ). v % 512) (sym e) ∙ sym f ∙ z) g)

  pub content_shown : (low : ℕ) → continue_event ≡ class_of w → at + 3 ≤ last → low ≡ w % 512 → (low ≡ 0 → ⊥) → none ≡ shown_by (standing_at s at)
  content_shown low k l f z =
      shows _ (at + 3) (continue_broken s (last_of s) at (within_bytes s) (k ∙ ap class_of e) (omega arith) (λ i. z (f ∙ ap (λ (v : ℕ). v % 512) e ∙ i)))

  -- ---- a text: its word holds its n
  module _ (y : Bytes s) (n m : ℕ) (k : text ≡ class_of w) (f : n ≡ w % 256) (g : m ≡ text_words w) (l : at + 1 + m ≤ last)
      (t : Bool) (c : TextClosed (take (2 * (at + 1 + m) - 2 * (at + 1)) (drop (2 * (at + 1)) s)) w t) where
    part : List ℕ
    part = bytes (take (text_words (word_at s at)) (drop (at + 1) (take (last_of s) (words s))))

    long : m ≡ text_words (word_at s at)
    long = g ∙ ap text_words e

    closes : t ≡ closed (word_at s at % 256) part
    unfolding part
    closes =
        let v : ℕ = word_at s at in
        let j = long in
        let two : 2 * (at + 1 + m) - 2 * (at + 1) ≡ 2 * text_words v = omega arith in
        let p : part ≡ take (2 * text_words v) (drop (2 * (at + 1)) s) = payload_bytes s (last_of s) at (text_words v) y (omega arith) (omega arith) in
        closed_there s at m w t g (omega arith) c ∙ ap₂ closed (ap (λ (u : ℕ). u % 256) e) (ap (λ (z : ℕ). take z (drop (2 * (at + 1)) s)) two ∙ sym p)

    pub text_shown : t ≡ true → some (record { item = Text n; next = at + 1 + m }) ≡ shown_by (standing_at s at)
    unfolding part
    text_shown d =
        let j = long in
        let k' = k ∙ ap class_of e in
        let z = text_there s (last_of s) at (within_bytes s) k' (omega arith) (sym closes ∙ d) in
        let r = (texted s (last_of s) at (omega arith) (omega arith) (take (word_at s at % 256 - 1) part) z.token).counted in
        let i : n ≡ length (take (word_at s at % 256 - 1) part) + 1 = f ∙ ap (λ (v : ℕ). v % 256) e ∙ r in
        ap₂ (λ (u v : ℕ). some (record { item = Text u; next = at + 1 + v })) i j ∙ shows _ _ z

    pub unclosed_shown : t ≡ false → none ≡ shown_by (standing_at s at)
    unfolding part
    unclosed_shown d =
        let j = long in
        shows _ _ (text_broken s (last_of s) at (within_bytes s) (k ∙ ap class_of e) (omega arith) (sym closes ∙ d))
