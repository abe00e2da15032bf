-- A turn at a word, class by class: from what the code found at the word to the turn that the meaning takes there.
-- Assumes nothing.
use Prim.Native.Nat.{ℕ, ◌+◌, ◌-◌, ◌*◌, ◌%◌, ◌≤◌, ◌<◌}
use mathlib.Core.Path.{◌≡◌, refl, sym, ap, ap₂, subst, ◌∙◌}
use mathlib.Core.List.{List, []}
use mathlib.Core.Bool.{Bool, true, false, ◌&&◌, ◌||◌}
use native.Mathlib.Omega.{arith}
use lib.ListN.{length, take, drop, length-take}
use lib.Dec.{leb, eqb}
use borrow.Author.Tests.{eqb-true, eqb-false, le-leb, lt-ltb}
use Rattle.format.proofs.book.PrefixLaws.{and_left, and_right, and_both}
use Rattle.format.proofs.items.WordLaws.{below_drop, below_take, long_fits}
use Rattle.format.proofs.items.TextLaws.{bytes_are}
use Rattle.format.proofs.items.PartLaws.{payload_bytes}
use Rattle.format.specs.Words.{Bytes, words, bytes, word_at, long_at, time_at, non_zero, all_zero}
use Rattle.format.specs.Book.{Class, channel, histogram, hit_count, sample, bin, last_cell, time_bin, data_frame, monitor_frame, command_frame, text, start_event, continue_event, end_event, frame_end, unassigned, class_of, after, assigned, text_words}
use Rattle.format.specs.Items.{Item, Sample, Bin, TimeBin, Text, StartEvent, ContinueEvent, EndEvent, in_range, closed, decode, whole, broken, flawed, token_for}
use Rattle.format.specs.Rules.{ReaderMode, fresh, outside, inside, after_channel, after_time, after_sample, unheaded, headed, commands, allowed, among}
use Rattle.format.specs.Steps.{ReaderState, place_by, marks_end, check_by, Stepped, stopped, marked, step_of}
use Rattle.format.proofs.reader.TurnLaws.{step_at, stop_at, alone, no_class, not_there, bin_there, start_there, continue_there, continue_broken, end_there, end_broken, text_there, text_broken}
use Rattle.cursor.specs.Promises.{TextClosed}
use Rattle.cursor.proofs.TextLoops.{closed_there}
use Rattle.rules.proofs.Turns.{in_every}
use Rattle.rules.specs.Views.{tested, continue_tested, end_tested, text_tested}
use Rattle.book.specs.Fields.{Channel, Histogram, channel_of, histogram_of, hits_of, cell_of, channel_item, histogram_item, hits_item, cell_item}
use Rattle.book.specs.declared.items.HitCount as hc
use Rattle.book.specs.declared.items.LastCell as lc

module _ (card : ℕ) (s : List ℕ) (last at w : ℕ) (st : ReaderState) (e : w ≡ word_at s at) where
  -- ---- a class with no words after it
  one : (c : Class) (r : Stepped) (x : Item) → c ≡ class_of w → assigned c ≡ true → after c (word_at s at) ≡ 0
      → token_for c (decode c w []) ≡ whole x → r ≡ marked (at + 1) (check_by card at st (whole x)) → r ≡ step_of card s last at st
  one c r x k a z d q =
      q ∙ step_at card s last at st (whole x) (at + 1)
      (alone s last at c (whole x) (k ∙ ap class_of e) a z (ap (λ (v : ℕ). token_for c (decode c v [])) (sym e) ∙ d))

  pub channel_step : (r : Stepped) (x : Channel) → channel ≡ class_of w → x ≡ channel_of w
      → r ≡ marked (at + 1) (check_by card 0 st (whole (channel_item x))) → r ≡ step_of card s last at st
  unfolding decode check_by
  channel_step r x k f q = one channel r (channel_item x) k refl refl (ap (λ (x : Channel). whole (channel_item x)) (sym f)) q

  pub histogram_step : (r : Stepped) (x : Histogram) → histogram ≡ class_of w → x ≡ histogram_of w
      → r ≡ marked (at + 1) (check_by card 0 st (whole (histogram_item x))) → r ≡ step_of card s last at st
  unfolding decode check_by
  histogram_step r x k f q = one histogram r (histogram_item x) k refl refl (ap (λ (x : Histogram). whole (histogram_item x)) (sym f)) q

  pub hit_step : (r : Stepped) (x : hc.HitCount) → hit_count ≡ class_of w → x ≡ hits_of w
      → r ≡ marked (at + 1) (check_by card 0 st (whole (hits_item x))) → r ≡ step_of card s last at st
  unfolding decode check_by
  hit_step r x k f q = one hit_count r (hits_item x) k refl refl (ap (λ (x : hc.HitCount). whole (hits_item x)) (sym f)) q

  pub cell_step : (r : Stepped) (x : lc.LastCell) → last_cell ≡ class_of w → x ≡ cell_of w
      → r ≡ marked (at + 1) (check_by 0 0 st (whole (cell_item x))) → r ≡ step_of card s last at st
  unfolding decode check_by
  cell_step r x k f q = one last_cell r (cell_item x) k refl refl (ap (λ (x : lc.LastCell). whole (cell_item x)) (sym f)) q

  pub sample_step : (r : Stepped) (v : ℕ) → sample ≡ class_of w → v ≡ w % 4096
      → r ≡ marked (at + 1) (check_by 0 0 st (whole (Sample v))) → r ≡ step_of card s last at st
  unfolding decode check_by
  sample_step r v k f q = one sample r (Sample v) k refl refl (ap (λ (v : ℕ). whole (Sample v)) (sym f)) q

  pub time_step : (r : Stepped) (t : ℕ) → time_bin ≡ class_of w → t ≡ w % 512
      → r ≡ marked (at + 1) (check_by 0 0 st (whole (TimeBin t))) → r ≡ step_of card s last at st
  unfolding decode check_by
  time_step r t k f q = one time_bin r (TimeBin t) k refl refl (ap (λ (t : ℕ). whole (TimeBin t)) (sym f)) q

  -- ---- a class that is no item's: it may stand nowhere
  nowhere : (c : Class) → c ≡ class_of w → assigned c ≡ true → after c (word_at s at) ≡ 0 → token_for c (decode c w []) ≡ broken c
      → ((m : ReaderMode) → among c (allowed m) ≡ false) → stopped 8 ≡ step_of card s last at st
  unfolding check_by
  nowhere c k a z d n =
      stop_at card s last at st (broken c) 8
      (alone s last at c (broken c) (k ∙ ap class_of e) a z (ap (λ (v : ℕ). token_for c (decode c v [])) (sym e) ∙ d)).token (rw (n st.mode))

  pub data_step : data_frame ≡ class_of w → stopped 8 ≡ step_of card s last at st
  unfolding decode
  data_step k = nowhere data_frame k refl refl refl (in_every (λ m. among data_frame (allowed m) ≡ false) refl refl refl refl refl refl refl refl refl)

  pub monitor_step : monitor_frame ≡ class_of w → stopped 8 ≡ step_of card s last at st
  unfolding decode
  monitor_step k = nowhere monitor_frame k refl refl refl (in_every (λ m. among monitor_frame (allowed m) ≡ false) refl refl refl refl refl refl refl refl refl)

  pub command_step : command_frame ≡ class_of w → stopped 8 ≡ step_of card s last at st
  unfolding decode
  command_step k = nowhere command_frame k refl refl refl (in_every (λ m. among command_frame (allowed m) ≡ false) refl refl refl refl refl refl refl refl refl)

  pub end_step : frame_end ≡ class_of w → stopped 8 ≡ step_of card s last at st
  unfolding decode
  end_step k = nowhere frame_end k refl refl refl (in_every (λ m. among frame_end (allowed m) ≡ false) refl refl refl refl refl refl refl refl refl)

  pub unassigned_step : unassigned ≡ class_of w → stopped 6 ≡ step_of card s last at st
  unfolding check_by
  unassigned_step k = stop_at card s last at st (flawed 6) 6 (no_class s last at (k ∙ ap class_of e)) refl

  -- ---- a class with words after it
  module _ (room : 2 * last ≤ length s) where
    wide : 2 * last ≤ length s + 1
    wide = omega arith

    pub cut_step : (c : Class) (n : ℕ) → c ≡ class_of w → assigned c ≡ true → after c w ≡ n → at < last → last < at + 1 + n → stopped 7 ≡ step_of card s last at st
    unfolding check_by
    cut_step c n k a z h l =
        stop_at card s last at st (flawed 7) 7 (not_there s last at wide c n (k ∙ ap class_of e) a (ap (after c) (sym e) ∙ z) h l) refl

    pub bin_step : (r : Stepped) (b n : ℕ) → bin ≡ class_of w → at + 3 ≤ last → b ≡ w % 4096 → n ≡ long_at s (at + 1)
        → r ≡ marked (at + 3) (check_by 0 0 st (whole (Bin b n))) → r ≡ step_of card s last at st
    unfolding check_by
    bin_step r b n k l f g q =
        q ∙ ap (λ (b : ℕ). marked (at + 3) (check_by card at st (whole (Bin b n)))) (f ∙ ap (λ (v : ℕ). v % 4096) e)
        ∙ step_at card s last at st (whole (Bin (word_at s at % 4096) n)) (at + 3) (bin_there s last at wide n (k ∙ ap class_of e) l g)

    pub start_step : (r : Stepped) (t ts n : ℕ) → start_event ≡ class_of w → at + 6 ≤ last → t ≡ w % 16 → ts ≡ time_at s (at + 1) → n ≡ long_at s (at + 4)
        → r ≡ marked (at + 6) (check_by 0 at st (whole (StartEvent t ts n))) → r ≡ step_of card s last at st
    unfolding check_by
    start_step r t ts n k l f g h q =
        q ∙ ap (λ (t : ℕ). marked (at + 6) (check_by card at st (whole (StartEvent t ts n)))) (f ∙ ap (λ (v : ℕ). v % 16) e)
        ∙ step_at card s last at st (whole (StartEvent (word_at s at % 16) ts n)) (at + 6) (start_there s last at wide ts n (k ∙ ap class_of e) l g h)

    continue_good : (n : ℕ) → n < 4294967296
        → marked (at + 3) (tested (place_by st continue_event) true true (record { mode = inside; key = st.key; next = st.next; marks = st.marks }))
        ≡ marked (at + 3) (check_by card at st (whole (ContinueEvent n)))
    unfolding check_by
    continue_good n b = rw (lt-ltb n 4294967296 b)

    continue_bad : marked (at + 3) (tested (place_by st continue_event) false true (record { mode = inside; key = st.key; next = st.next; marks = st.marks }))
        ≡ marked (at + 3) (check_by card at st (broken continue_event))
    unfolding check_by
    continue_bad = refl

    pub continue_event_step : (r : Stepped) (low : ℕ) → Bytes s → continue_event ≡ class_of w → at + 3 ≤ last → low ≡ w % 512
        → r ≡ marked (at + 3) (continue_tested st low) → r ≡ step_of card s last at st
    unfolding continue_tested
    continue_event_step r low y k l f q = go (eqb low 0) refl
      where
        go : (t : Bool) → eqb low 0 ≡ t → r ≡ step_of card s last at st
        go true z =
            q ∙ (rw z (continue_good (long_at s (at + 1)) (long_fits s y (at + 1))))
            ∙ step_at card s last at st (whole (ContinueEvent (long_at s (at + 1)))) (at + 3)
            (continue_there s last at wide (long_at s (at + 1)) (k ∙ ap class_of e) l (ap (λ (v : ℕ). v % 512) (sym e) ∙ sym f ∙ eqb-true low 0 z) refl)
        go false z =
            q ∙ (rw z continue_bad)
            ∙ step_at card s last at st (broken continue_event) (at + 3)
            (continue_broken s last at wide (k ∙ ap class_of e) l (λ i. eqb-false low 0 z (f ∙ ap (λ (v : ℕ). v % 512) e ∙ i)))

    end_good : (size : ℕ) → size < 4294967296
        → marked (at + 3) (tested (place_by st end_event) (true && (eqb st.marks.opener 0 || eqb size (2 * (at - st.marks.opener) + 6))) true (record { mode = outside; key = st.key; next = st.next; marks = marks_end at st.marks }))
        ≡ marked (at + 3) (check_by card at st (whole (EndEvent size)))
    unfolding check_by
    end_good size b = rw (lt-ltb size 4294967296 b)

    end_bad : (size : ℕ)
        → marked (at + 3) (tested (place_by st end_event) (false && (eqb st.marks.opener 0 || eqb size (2 * (at - st.marks.opener) + 6))) true (record { mode = outside; key = st.key; next = st.next; marks = marks_end at st.marks }))
        ≡ marked (at + 3) (check_by card at st (broken end_event))
    unfolding check_by
    end_bad size = refl

    pub end_event_step : (r : Stepped) (size low : ℕ) → end_event ≡ class_of w → at + 3 ≤ last → low ≡ w % 16 → size ≡ long_at s (at + 1) → size < 4294967296
        → r ≡ marked (at + 3) (end_tested at st size low) → r ≡ step_of card s last at st
    unfolding end_tested
    end_event_step r size low k l f g b q = go (eqb low 0) refl
      where
        go : (t : Bool) → eqb low 0 ≡ t → r ≡ step_of card s last at st
        go true z =
            q ∙ (rw z (end_good size b))
            ∙ step_at card s last at st (whole (EndEvent size)) (at + 3)
            (end_there s last at wide size (k ∙ ap class_of e) l (ap (λ (v : ℕ). v % 16) (sym e) ∙ sym f ∙ eqb-true low 0 z) g)
        go false z =
            q ∙ (rw z (end_bad size))
            ∙ step_at card s last at st (broken end_event) (at + 3)
            (end_broken s last at wide (k ∙ ap class_of e) l (λ i. eqb-false low 0 z (f ∙ ap (λ (v : ℕ). v % 16) e ∙ i)))

    -- a text that is closed has at most 254 bytes, none of them zero
    letters : (n : ℕ) (b : List ℕ) → n < 256 → Bytes b → closed n b ≡ true → in_range card (Text (take (n - 1) b)) && true ≡ true
    letters n b h y t =
        let f = and_left (leb 1 n && non_zero (take (n - 1) b)) (all_zero (drop (n - 1) b)) t in
        let l = length-take (n - 1) b in
        and_both _ _
        (and_both _ _ (and_both _ _ (le-leb (length (take (n - 1) b)) 254 (omega arith)) (and_right (leb 1 n) (non_zero (take (n - 1) b)) f))
        (bytes_are (take (n - 1) b) (below_take (n - 1) b 256 (omega arith) y))) refl

    text_good : (next : ℕ) (x : List ℕ) → in_range card (Text x) && true ≡ true
        → marked next (tested (place_by st text) true true (record { mode = commands; key = 0; next = 0; marks = st.marks })) ≡ marked next (check_by card at st (whole (Text x)))
    unfolding check_by
    text_good next x i = rw i

    text_bad : (next : ℕ)
        → marked next (tested (place_by st text) false true (record { mode = commands; key = 0; next = 0; marks = st.marks })) ≡ marked next (check_by card at st (broken text))
    unfolding check_by
    text_bad next = refl

    pub text_step : Bytes s → (r : Stepped) (t : Bool) (m : ℕ) → text ≡ class_of w → m ≡ text_words w → at + 1 + m ≤ last
        → TextClosed (take (2 * (at + 1 + m) - 2 * (at + 1)) (drop (2 * (at + 1)) s)) w t
        → r ≡ marked (at + 1 + m) (text_tested st t) → r ≡ step_of card s last at st
    unfolding text_tested
    text_step y r t m k j l g q =
        let v : ℕ = word_at s at in
        let b : List ℕ = bytes (take (text_words v) (drop (at + 1) (take last (words s)))) in
        let jv : m ≡ text_words v = j ∙ ap text_words e in
        let two : 2 * (at + 1 + m) - 2 * (at + 1) ≡ 2 * text_words v = omega arith in
        let p : b ≡ take (2 * text_words v) (drop (2 * (at + 1)) s) = payload_bytes s last at (text_words v) y room (omega arith) in
        let yb : Bytes b = subst Bytes (sym p) (below_take (2 * text_words v) (drop (2 * (at + 1)) s) 256 (omega arith) (below_drop (2 * (at + 1)) s 256 y)) in
        let h : t ≡ closed (v % 256) b = closed_there s at m w t j (omega arith) g ∙ ap₂ closed (ap (λ (u : ℕ). u % 256) e) (ap (λ (z : ℕ). take z (drop (2 * (at + 1)) s)) two ∙ sym p) in
        let q' : r ≡ marked (at + 1 + text_words v) (text_tested st t) = q ∙ ap (λ (z : ℕ). marked (at + 1 + z) (text_tested st t)) jv in
        go b yb refl (k ∙ ap class_of e) (subst (λ (z : ℕ). at + 1 + z ≤ last) jv l) t h q'
      where
        go : (b : List ℕ) → Bytes b → b ≡ bytes (take (text_words (word_at s at)) (drop (at + 1) (take last (words s)))) → text ≡ class_of (word_at s at)
            → at + 1 + text_words (word_at s at) ≤ last → (t : Bool) → t ≡ closed (word_at s at % 256) b → r ≡ marked (at + 1 + text_words (word_at s at)) (text_tested st t)
            → r ≡ step_of card s last at st
        go b yb eb k l true h q =
            q ∙ text_good (at + 1 + text_words (word_at s at)) (take (word_at s at % 256 - 1) b) (letters (word_at s at % 256) b (omega arith) yb (sym h))
            ∙ ap (λ (b : List ℕ). marked (at + 1 + text_words (word_at s at)) (check_by card at st (whole (Text (take (word_at s at % 256 - 1) b))))) eb
            ∙ step_at card s last at st _ _ (text_there s last at wide k l (ap (closed (word_at s at % 256)) (sym eb) ∙ sym h))
        go b yb eb k l false h q =
            q ∙ text_bad (at + 1 + text_words (word_at s at))
            ∙ step_at card s last at st (broken text) (at + 1 + text_words (word_at s at)) (text_broken s last at wide k l (ap (closed (word_at s at % 256)) (sym eb) ∙ sym h))
