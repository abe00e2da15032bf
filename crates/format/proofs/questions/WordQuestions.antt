-- T41. The word of a sample and of a bin, of an accepted frame: exactly where the Sample or Bin stands that the samples or the counts question
-- leaves; and the spot there, which a record corrects, is that one under the header asked for.
-- Assumes nothing.
use Prim.Native.Nat.{ℕ, ◌+◌, ◌<◌, ◌≤◌}
use mathlib.Core.Path.{◌≡◌, refl, sym, ap, subst, ◌∙◌}
use mathlib.Core.List.{List, [], ◌∷◌, ◌++◌, append_assoc}
use mathlib.Core.Logic.{◌↔◌}
use mathlib.Core.Option.{Option, none, some}
use native.Mathlib.Omega.{arith}
use lib.ListN.{length, get_or}
use Rattle.format.specs.Words.{Bytes}
use Rattle.format.specs.Answers.{Outcome, accepted, refused, and_then}
use Rattle.format.specs.Items.{Item, Channel, Histogram, Sample, Bin, TimeBin, words_of}
use Rattle.format.specs.Rules.{Kind}
use Rattle.format.specs.Frames.{Frame, Sound, all_words, verdict}
use Rattle.format.specs.Questions.{Behind, present, past_at, is_histogram, channel_at, sample_word, bin_word, sample_word_at, bin_word_at, samples_at, samples_left, counts_at, counts_left}
use Rattle.format.proofs.questions.EventQuestions.{sounds, event_picked, picked_inside}
use Rattle.format.proofs.questions.FindLaws.{as_histogram, present_is, channel_there, channel_sound, histogram_there}
use Rattle.format.proofs.questions.FillQuestions.{sample_rise, bin_rise, sample_time, bin_number, samples_lent, counts_lent, one_channel_header, one_histogram_header}
use Rattle.format.proofs.questions.MarkLaws.{MarkIs, one_mark}
use Rattle.format.specs.Stands.{ChannelIn, HistogramIn, SampleIn, BinIn, SampleAt, BinAt, sample_ordinal, bin_ordinal}
use Rattle.format.specs.Spots.{spot}
use Rattle.format.specs.Tree.{Limits}
use Rattle.format.proofs.rules.LimitLaws.{allowed_limits}
use Rattle.format.proofs.rules.SoundLaws.{sound_head, sound_right}
use Rattle.format.proofs.spots.SpotKeys as SpotKeys
use Rattle.format.proofs.questions.FillLaws.{sample_marks, bin_marks}
use Rattle.format.proofs.questions.StandLaws.{no_run, sample_mark, bin_mark}
use Rattle.format.proofs.questions.WordFinds.{passed_at, SampleFound, sample_found, sample_there, BinFound, bin_found, bin_there, histogram_items, channel_items, Headed, headed_at, words_long, one_sought, channel_sought, same_behind, Worded, worded, no_word, no_words, bins_headless, run_headless, same_run, same_bins, sample_long, bin_long, first, timed}

-- the one list of items, split at an event's header and at a Sample behind it
split_twice : (before left ys rest : List Item) (x h : Item) → before ++ (x ∷ ((left ++ (h ∷ ys)) ++ rest)) ≡ (before ++ (x ∷ left)) ++ (h ∷ (ys ++ rest))
split_twice before left ys rest x h =
    ap (λ (l : List Item). before ++ (x ∷ l)) (append_assoc left (h ∷ ys) rest) ∙ sym (append_assoc before (x ∷ left) (h ∷ (ys ++ rest)))

split_run : (left before run after rest : List Item) (h t y : Item)
    → left ++ (h ∷ ((before ++ (t ∷ (run ++ (y ∷ after)))) ++ rest)) ≡ (left ++ (h ∷ (before ++ (t ∷ run)))) ++ (y ∷ (after ++ rest))
split_run left before run after rest h t y =
    ap (λ (l : List Item). left ++ (h ∷ l))
    (append_assoc before (t ∷ (run ++ (y ∷ after))) rest ∙ ap (λ (l : List Item). before ++ (t ∷ l)) (append_assoc run (y ∷ after) rest)
    ∙ sym (append_assoc before (t ∷ run) (y ∷ (after ++ rest))))
    ∙ sym (append_assoc left (h ∷ (before ++ (t ∷ run))) (y ∷ (after ++ rest)))

-- a header's card is the frame's
header_card : (kind : Kind) (card : ℕ) (xs left rest : List Item) (x : Item) → Sound kind card [] xs → xs ≡ left ++ (x ∷ rest) → Limits card x
header_card kind card xs left rest x s i = allowed_limits kind card _ x (sound_head kind card _ x rest (sound_right kind card [] left (x ∷ rest) (subst (Sound kind card []) i s)))

module _ (s : List ℕ) (f : Frame) (v : verdict s ≡ accepted f) where
  pub sample_word_of : (e chip c t : ℕ) → sample_word_at s e chip c t ≡ and_then (channel_at e chip c f.items) (λ h. present (sample_word t 0 h.index h.items))
  unfolding sample_word_at
  sample_word_of e chip c t = rw v

  pub bin_word_of : (chip c b : ℕ) → bin_word_at s chip c b ≡ and_then (present (past_at (is_histogram chip c) 3 f.items)) (λ h. present (bin_word b h.index h.items))
  unfolding bin_word_at
  bin_word_of chip c b = rw v

module _ (s : List ℕ) (bs : Bytes s) (f : Frame) (v : verdict s ≡ accepted f) where
  good : Sound f.kind f.card [] f.items
  good = sounds s bs f v

  pub sample_stands : (e chip c t w : ℕ) → sample_word_at s e chip c t ≡ accepted w → (n : ℕ) × SampleAt f.items e chip c t w n
  sample_stands e chip c t w i = go (channel_at e chip c f.items) refl (sym (sample_word_of s f v e chip c t) ∙ i)
    where
      at_word : (b : Behind) (h : Headed f.items e chip c b) → SampleFound 0 b.index b.items t w → (n : ℕ) × SampleAt f.items e chip c t w n
      at_word b h (first n k j) =
          absurd (no_run f.kind f.card h.channel.card chip c 0 t n _ b.items
          (channel_sound f.kind f.card f.items good e chip c b.items h.channel) k)
      at_word b h (timed n k j) = (
        n,
        record {
          items = b.items;
          channel = h.channel;
          sample = k;
          index = omega (arith, j, h.index, sample_long f.items b.items e chip c t n h.channel k);
        },
      )

      go : (o : Outcome Behind) → channel_at e chip c f.items ≡ o → and_then o (λ h. present (sample_word t 0 h.index h.items)) ≡ accepted w
          → (n : ℕ) × SampleAt f.items e chip c t w n
      go (accepted b) p j =
          at_word b (headed_at f.items e chip c b p)
          (sample_found t 0 b.index w b.items (present_is _ w j))
      go (refused k q) p j = let z : ◌≡◌ {A = ℕ} 0 1 = cc in absurd (omega arith)

  pub sample_spot : (e chip c t w n : ℕ) → SampleAt f.items e chip c t w n
      → spot s w ≡ some (record { kind = 1; value = n; header = record { card = f.card; chip = chip; channel = c } })
  sample_spot e chip c t w n a =
      let h = a.channel in
      let k = a.sample in
      let before : List Item = h.within.before in
      let start : Item = h.within.opener in
      let left : List Item = before ++ (start ∷ h.left) in
      let run : List Item = k.before ++ (TimeBin k.time ∷ k.run) in
      let rest : List Item = h.within.rest in
      let header : Item = Channel h.card chip c in
      let i : f.items ≡ left ++ (header ∷ (a.items ++ rest)) =
      h.within.items ∙ ap (λ (l : List Item). before ++ (start ∷ (l ++ rest))) h.header ∙ split_twice before h.left a.items rest start header in
      let j : f.items ≡ (left ++ (header ∷ run)) ++ (Sample n ∷ (k.after ++ rest)) =
      i ∙ ap (λ (l : List Item). left ++ (header ∷ (l ++ rest))) k.items ∙ split_run left k.before k.run k.after rest header (TimeBin k.time) (Sample n) in
      let w' : w ≡ 3 + length (all_words (left ++ (header ∷ run))) = a.index ∙ ap (λ (l : List Item). 3 + length (all_words l)) (sym (append_assoc before (start ∷ h.left) (header ∷ run))) in
      let card : h.card ≡ f.card = (header_card f.kind f.card f.items left (a.items ++ rest) header good i).0 in
      ap (spot s) w' ∙ SpotKeys.sample_spot s f v left h.card chip c run n (k.after ++ rest) j (run_headless a.items t n k)
      ∙ ap (λ (d : ℕ). some (record { kind = 1; value = n; header = record { card = d; chip = chip; channel = c } })) card

  -- the samples question finds the same header
  sample_header : (e chip c t : ℕ) (ys : List Item) (n : ℕ) → ChannelIn f.items e chip c ys → SampleIn ys t n → Worded (channel_at e chip c f.items) (λ h. sample_word t 0 h.index h.items)
  sample_header e chip c t ys n h k =
      let (b, p, q) = same_behind (channel_at e chip c f.items) ys
      (sym (channel_items e chip c f.items) ∙ channel_there f.kind f.card f.items good e chip c ys h) in
      let (w, r) = sample_there t 0 b.index (sample_ordinal k) n b.items (subst (λ (l : List Item). MarkIs (sample_marks 0 l) (sample_ordinal k) t n) (sym q) (sample_mark ys t n k)) in
      record { behind = b; word = w; header = p; is = r }

  -- 13 exactly where none stands
  pub sample_absent : (e chip c t : ℕ) → (sample_word_at s e chip c t ≡ refused 13 0) ↔ ((ys : List Item) (n : ℕ) → ChannelIn f.items e chip c ys → SampleIn ys t n → ⊥)
  sample_absent e chip c t =
      let H : Outcome Behind = channel_at e chip c f.items in
      let q = sample_word_of s f v e chip c t in (
        λ i ys n h k. no_word H (λ h. sample_word t 0 h.index h.items) (sample_header e chip c t ys n h k) (sym q ∙ i),
        λ never. q ∙ no_words H (λ h. sample_word t 0 h.index h.items) (channel_sought e chip c f.items)
            (λ w i. (let (n, a) = sample_stands e chip c t w (q ∙ i) in never a.items n a.channel a.sample)),
      )

  -- so the word answered is the one where it stands
  pub sample_exactly : (e chip c t w : ℕ) → (sample_word_at s e chip c t ≡ accepted w) ↔ ((n : ℕ) × SampleAt f.items e chip c t w n)
  sample_exactly e chip c t w = (sample_stands e chip c t w, back)
    where
      alike : (n m w u : ℕ) (a : SampleAt f.items e chip c t w n) (b : SampleAt f.items e chip c t u m) → w ≡ u
      alike n m w u a b =
          let (l, q) = one_channel_header s bs f v e chip c a.items b.items a.channel b.channel in
          let o : sample_ordinal a.sample ≡ sample_ordinal b.sample =
          one_mark 0 512 0xFFFF (sample_ordinal a.sample) (sample_ordinal b.sample) t n m (sample_marks 0 a.items) (sample_rise f good e chip c a.items a.channel)
          (sample_mark a.items t n a.sample)
          (subst (λ (l : List Item). MarkIs (sample_marks 0 l) (sample_ordinal b.sample) t m) (sym q) (sample_mark b.items t m b.sample)) in
          let x = a.channel.within in
          let y = b.channel.within in
          let i : 3 + length (all_words x.before) + length (words_of x.opener) ≡ 3 + length (all_words y.before) + length (words_of y.opener) =
          let p = event_picked f.items e b.channel.event y in
          sym (picked_inside f.items e a.channel.event x _ p) ∙ picked_inside f.items e b.channel.event y _ p in
          let j : length (all_words a.channel.left) ≡ length (all_words b.channel.left) = ap (λ (l : List Item). length (all_words l)) l in
          let k = ap (λ (l : List Item). length (all_words l)) (same_run a.items b.items t n m a.sample b.sample q o) in
          omega (arith, a.index, b.index, k, sample_long f.items a.items e chip c t n a.channel a.sample, sample_long f.items b.items e chip c t m b.channel b.sample)

      back : (n : ℕ) × SampleAt f.items e chip c t w n → sample_word_at s e chip c t ≡ accepted w
      back (n, a) =
          let x = sample_header e chip c t a.items n a.channel a.sample in
          let i : sample_word_at s e chip c t ≡ accepted x.word = sample_word_of s f v e chip c t ∙ worded _ _ x in
          let (m, b) = sample_stands e chip c t x.word i in
          i ∙ ap accepted (alike m n x.word w b a)

  -- ---- and of bins

  pub bin_stands : (chip c b w : ℕ) → bin_word_at s chip c b ≡ accepted w → (n : ℕ) × BinAt f.items chip c b w n
  unfolding all_words words_of
  bin_stands chip c b w i = go (past_at (is_histogram chip c) 3 f.items) refl (sym (bin_word_of s f v chip c b) ∙ i)
    where
      at_word : (h : Behind) → past_at (is_histogram chip c) 3 f.items ≡ some h → BinFound h.index h.items b w → (n : ℕ) × BinAt f.items chip c b w n
      at_word h p k =
          let r = passed_at (is_histogram chip c) 3 f.items h p in
          let (a, j) = as_histogram chip c r.item r.passes in
          let one : length (words_of r.item) ≡ 1 = ap (λ (x : Item). length (words_of x)) j in (
            k.count_is,
            record {
              items = h.items;
              histogram = record { left = r.before; card = a; header = r.split ∙ ap (λ (x : Item). r.before ++ (x ∷ h.items)) j };
              bin = k.is;
              index = omega (arith, k.index, r.index, words_long r.before (Histogram a chip c ∷ k.is.before));
            },
          )

      go : (o : Option Behind) → past_at (is_histogram chip c) 3 f.items ≡ o → and_then (present o) (λ h. present (bin_word b h.index h.items)) ≡ accepted w
          → (n : ℕ) × BinAt f.items chip c b w n
      go (some h) p j = at_word h p (bin_found b h.index w h.items (present_is _ w j))
      go none p j = let z : ◌≡◌ {A = ℕ} 0 1 = cc in absurd (omega arith)

  pub bin_spot : (chip c b w n : ℕ) → BinAt f.items chip c b w n
      → spot s w ≡ some (record { kind = 2; value = n; header = record { card = f.card; chip = chip; channel = c } })
  bin_spot chip c b w n a =
      let h = a.histogram in
      let k = a.bin in
      let header : Item = Histogram h.card chip c in
      let j : f.items ≡ (h.left ++ (header ∷ k.before)) ++ (Bin b n ∷ k.after) =
      h.header ∙ ap (λ (l : List Item). h.left ++ (header ∷ l)) k.items ∙ sym (append_assoc h.left (header ∷ k.before) (Bin b n ∷ k.after)) in
      let card : h.card ≡ f.card = (header_card f.kind f.card f.items h.left a.items header good h.header).0 in
      ap (spot s) a.index ∙ SpotKeys.bin_spot s f v h.left h.card chip c k.before b n k.after j (bins_headless k.before k.same_histogram)
      ∙ ap (λ (d : ℕ). some (record { kind = 2; value = n; header = record { card = d; chip = chip; channel = c } })) card

  bin_header : (chip c b : ℕ) (ys : List Item) (n : ℕ) → HistogramIn f.items chip c ys → BinIn ys b n
      → Worded (present (past_at (is_histogram chip c) 3 f.items)) (λ h. bin_word b h.index h.items)
  bin_header chip c b ys n h k =
      let (d, p, q) = same_behind (present (past_at (is_histogram chip c) 3 f.items)) ys
      (sym (histogram_items chip c f.items) ∙ histogram_there f.kind f.card f.items good chip c ys h) in
      let (w, r) = bin_there b d.index (bin_ordinal k) n d.items (subst (λ (l : List Item). MarkIs (bin_marks l) (bin_ordinal k) b n) (sym q) (bin_mark ys b n k)) in
      record { behind = d; word = w; header = p; is = r }

  pub bin_absent : (chip c b : ℕ) → (bin_word_at s chip c b ≡ refused 13 0) ↔ ((ys : List Item) (n : ℕ) → HistogramIn f.items chip c ys → BinIn ys b n → ⊥)
  bin_absent chip c b =
      let H : Outcome Behind = present (past_at (is_histogram chip c) 3 f.items) in
      let q = bin_word_of s f v chip c b in (
        λ i ys n h k. no_word H (λ h. bin_word b h.index h.items) (bin_header chip c b ys n h k) (sym q ∙ i),
        λ never. q ∙ no_words H (λ h. bin_word b h.index h.items) (one_sought (past_at (is_histogram chip c) 3 f.items))
            (λ w i. (let (n, a) = bin_stands chip c b w (q ∙ i) in never a.items n a.histogram a.bin)),
      )

  pub bin_exactly : (chip c b w : ℕ) → (bin_word_at s chip c b ≡ accepted w) ↔ ((n : ℕ) × BinAt f.items chip c b w n)
  bin_exactly chip c b w = (bin_stands chip c b w, back)
    where
      alike : (n m w u : ℕ) (x : BinAt f.items chip c b w n) (y : BinAt f.items chip c b u m) → w ≡ u
      alike n m w u x y =
          let (l, q) = one_histogram_header s bs f v chip c x.items y.items x.histogram y.histogram in
          let o : bin_ordinal x.bin ≡ bin_ordinal y.bin =
          one_mark 0 4096 0 (bin_ordinal x.bin) (bin_ordinal y.bin) b n m (bin_marks x.items) (bin_rise f good chip c x.items x.histogram)
          (bin_mark x.items b n x.bin)
          (subst (λ (l : List Item). MarkIs (bin_marks l) (bin_ordinal y.bin) b m) (sym q) (bin_mark y.items b m y.bin)) in
          let j : length (all_words x.histogram.left) ≡ length (all_words y.histogram.left) = ap (λ (l : List Item). length (all_words l)) l in
          let k = ap (λ (l : List Item). length (all_words l)) (same_bins x.items y.items b n m x.bin y.bin q o) in
          omega (arith, x.index, y.index, k, bin_long f.items x.items chip c b n x.histogram x.bin, bin_long f.items y.items chip c b m y.histogram y.bin)

      back : (n : ℕ) × BinAt f.items chip c b w n → bin_word_at s chip c b ≡ accepted w
      back (n, a) =
          let x = bin_header chip c b a.items n a.histogram a.bin in
          let i : bin_word_at s chip c b ≡ accepted x.word = bin_word_of s f v chip c b ∙ worded _ _ x in
          let (m, y) = bin_stands chip c b x.word i in
          i ∙ ap accepted (alike m n x.word w y a)

  -- ---- the samples and the counts question leave the same

  pub sample_left : (e chip c t w : ℕ) → sample_word_at s e chip c t ≡ accepted w → (found : List ℕ) → 512 ≤ length found
      → (n : ℕ) × (spot s w ≡ some (record { kind = 1; value = n; header = record { card = f.card; chip = chip; channel = c } }))
      × (get_or (samples_left (samples_at s e chip c (length found)) found) t 0 ≡ n)
  sample_left e chip c t w i found room =
      let (n, a) = sample_stands e chip c t w i in
      let late : t ≤ 511 = sample_time f good e chip c a.items a.channel t n a.sample in
      (n, sample_spot e chip c t w n a, (((samples_lent s bs f v e chip c a.items a.channel found room).stands t n (omega arith)).1 a.sample).0)

  pub sample_blank : (e chip c : ℕ) (ys : List Item) → ChannelIn f.items e chip c ys → (found : List ℕ) → 512 ≤ length found → (t : ℕ) → t < 512
      → (sample_word_at s e chip c t ≡ refused 13 0) ↔ (get_or (samples_left (samples_at s e chip c (length found)) found) t 0 ≡ 0xFFFF)
  sample_blank e chip c ys h found room t late =
      let l = samples_lent s bs f v e chip c ys h found room in (
        λ i. l.blanks t late (λ n k. (sample_absent e chip c t).0 i ys n h k),
        λ i. (sample_absent e chip c t).1 (λ ys' n h' k.
            (let q : ys' ≡ ys = (one_channel_header s bs f v e chip c ys' ys h' h).1 in
            let (j, other) = (l.stands t n late).1 (subst (λ (l : List Item). SampleIn l t n) q k) in
            other (sym j ∙ i))),
      )

  pub sample_late : (e chip c t : ℕ) → 512 ≤ t → sample_word_at s e chip c t ≡ refused 13 0
  sample_late e chip c t h = (sample_absent e chip c t).1 (λ ys n i k. (let l : t ≤ 511 = sample_time f good e chip c ys i t n k in omega arith))

  pub bin_left : (chip c b w : ℕ) → bin_word_at s chip c b ≡ accepted w → (found : List ℕ) → 4096 ≤ length found
      → (n : ℕ) × (spot s w ≡ some (record { kind = 2; value = n; header = record { card = f.card; chip = chip; channel = c } }))
      × (get_or (counts_left (counts_at s chip c (length found)) found) b 0 ≡ n)
  bin_left chip c b w i found room =
      let (n, a) = bin_stands chip c b w i in
      let far : b < 4096 = bin_number f good chip c a.items a.histogram b n a.bin in
      (n, bin_spot chip c b w n a, (((counts_lent s bs f v chip c a.items a.histogram found room).stands b n far).1 a.bin).0)

  pub bin_blank : (chip c : ℕ) (ys : List Item) → HistogramIn f.items chip c ys → (found : List ℕ) → 4096 ≤ length found → (b : ℕ) → b < 4096
      → (bin_word_at s chip c b ≡ refused 13 0) ↔ (get_or (counts_left (counts_at s chip c (length found)) found) b 0 ≡ 0)
  bin_blank chip c ys h found room b far =
      let l = counts_lent s bs f v chip c ys h found room in (
        λ i. l.blanks b far (λ n k. (bin_absent chip c b).0 i ys n h k),
        λ i. (bin_absent chip c b).1 (λ ys' n h' k.
            (let q : ys' ≡ ys = (one_histogram_header s bs f v chip c ys' ys h' h).1 in
            let (j, other) = (l.stands b n far).1 (subst (λ (l : List Item). BinIn l b n) q k) in
            other (sym j ∙ i))),
      )

  pub bin_far : (chip c b : ℕ) → 4096 ≤ b → bin_word_at s chip c b ≡ refused 13 0
  bin_far chip c b h = (bin_absent chip c b).1 (λ ys n i k. (let l : b < 4096 = bin_number f good chip c ys i b n k in omega arith))

-- ---- a refused frame

pub sample_refused : (s : List ℕ) (k p : ℕ) → verdict s ≡ refused k p → (e chip c t : ℕ) → sample_word_at s e chip c t ≡ refused k p
unfolding sample_word_at
sample_refused s k p v e chip c t = rw v

pub bin_refused : (s : List ℕ) (k p : ℕ) → verdict s ≡ refused k p → (chip c b : ℕ) → bin_word_at s chip c b ≡ refused k p
unfolding bin_word_at
bin_refused s k p v chip c b = rw v
