-- The cursor on an accepted frame: the one law of a turn. At each word it stops at an item stands whole, the rules hold of it behind the earlier
-- ones, and the next begins behind its words; so it meets exactly the frame's items. A fast test of a word's class is a case of this law.
-- Assumes nothing.
use Prim.Native.Nat.{ℕ, ◌+◌, ◌*◌, ◌/◌, ◌%◌, ◌<◌, ◌≤◌}
use mathlib.Core.Path.{◌≡◌, refl, sym, ap, ap₂, subst, ◌∙◌}
use mathlib.Core.List.{List, [], ◌∷◌, ◌++◌, append_assoc, append-nil}
use mathlib.Core.Bool.{Bool, true, false, ◌&&◌, true≢false}
use mathlib.Core.Option.{Option, none, some}
use native.Mathlib.Omega.{arith}
use lib.Dec.{leb, ltb, eqb}
use lib.ListN.{length, take, drop, length-append}
use lib.Seq.{take_at, drop_at}
use borrow.Author.Tests.{le-leb, lt-leb, lt-ltb, le-ltb, leb-true, ltb-true, eqb-true, eqb-false}
use Rattle.format.specs.Words.{pick, Bytes, words, word_at, long_at, time_at}
use Rattle.format.specs.Answers.{accepted}
use Rattle.format.specs.Book.{Class, channel, histogram, hit_count, sample, bin, last_cell, time_bin, text, start_event, continue_event, end_event, class_of, after, assigned}
use Rattle.format.specs.Items.{ItemOf, Item, Channel, Histogram, HitCount, Sample, Bin, LastCell, TimeBin, Text, StartEvent, ContinueEvent, EndEvent, class_for, words_of, decode, Token, whole, broken, flawed, token_for, tokens}
use Rattle.format.specs.Rules.{Kind, same}
use Rattle.format.specs.Frames.{Frame, earlier_then, Allowed, Sound, start_word, all_words, frame_words, encode, last_of, verdict}
use Rattle.format.specs.Steps.{token_at, next_at, rest}
use Rattle.format.specs.Questions.{Found, Shown, shown}
use Rattle.format.specs.Cursor.{standing_by, standing_at, shown_by, unshown, wholes, items_from, Meets, ended, met, On}
use Rattle.format.proofs.book.PrefixLaws.{and_left, and_right, and_both}
use Rattle.format.proofs.items.WordLaws.{words_bytes, words_below, below_take, below_drop}
use Rattle.format.proofs.items.ItemLaws.{read_written, written_read}
use Rattle.format.proofs.verdict.WalkLaws.{allowed_fits}
use Rattle.format.proofs.rules.SoundLaws.{behind_append, sound_right, sound_head, sound_tail}
use Rattle.format.proofs.reader.StepLaws.{rest_at, Next, next_at_lem}
use Rattle.format.proofs.reader.TurnLaws.{Stands, alone, bin_there, start_there, continue_there, continue_broken, end_there, end_broken}
use Rattle.format.proofs.questions.ItemQuestions.{no_some, some_is, some_word, all_words_lem}
use Rattle.format.proofs.spots.PutLaws.{length_encode}
use Rattle.format.proofs.verdict.Acceptance.{sound}

-- ---- an item stands where the words before it end

-- in any bytes
pub within_bytes : (s : List ℕ) → 2 * last_of s ≤ length s + 1
within_bytes s = omega arith

module _ (s : List ℕ) (y : Bytes s) (f : Frame) (a : verdict s ≡ accepted f) where
  pub last_is : last_of s ≡ 3 + length (all_words f.items)
  last_is = let n = length_encode f in let m : length s ≡ length (encode f) = ap length (sound s y f a).1 in omega arith

  pub room : 2 * last_of s ≤ length s + 1
  room = within_bytes s

  front_is : take (last_of s) (words s) ≡ start_word f.kind f.card ∷ (2 * (4 + length (all_words f.items))) ∷ f.sequence ∷ all_words f.items
  unfolding encode frame_words
  front_is =
      ap (take (last_of s)) (ap words (sound s y f a).1 ∙ words_bytes (frame_words f))
      ∙ take_at (start_word f.kind f.card ∷ (2 * (4 + length (all_words f.items))) ∷ f.sequence ∷ all_words f.items) (0x000F ∷ []) (last_of s) (let l = last_is in omega arith)

  module _ (before : List Item) (x : Item) (after : List Item) (i : f.items ≡ before ++ (x ∷ after)) (at : ℕ) (e : at ≡ 3 + length (all_words before)) where
    allowed_there : Allowed f.kind f.card (earlier_then [] before) x
    allowed_there =
        let l = (sound s y f a).0 in
        let h : Sound f.kind f.card [] (before ++ (x ∷ after)) = subst (Sound f.kind f.card []) i l.sound in
        sound_head f.kind f.card (earlier_then [] before) x after (sound_right f.kind f.card [] before (x ∷ after) h)

    words_there : drop at (take (last_of s) (words s)) ≡ words_of x ++ all_words after
    unfolding all_words
    words_there =
        ap (drop at) (front_is ∙ ap (λ (l : List ℕ). start_word f.kind f.card ∷ (2 * (4 + length (all_words f.items))) ∷ f.sequence ∷ l) (ap all_words i ∙ all_words_lem before (x ∷ after)))
        ∙ drop_at (start_word f.kind f.card ∷ (2 * (4 + length (all_words f.items))) ∷ f.sequence ∷ all_words before) (words_of x ++ all_words after) at (omega arith)

    pub before_last : at < last_of s
    unfolding all_words
    before_last =
        let l = last_is in
        let n = some_word x in
        let m : length (all_words f.items) ≡ length (all_words before ++ (words_of x ++ all_words after)) = ap length (ap all_words i ∙ all_words_lem before (x ∷ after)) in
        let p = length-append (all_words before) (words_of x ++ all_words after) in
        let q = length-append (words_of x) (all_words after) in
        omega arith

    head_is : (u v : Token) (us vs : List Token) → u ∷ us ≡ v ∷ vs → u ≡ v
    head_is u v us vs q = cc

    pub token_there : token_at s (last_of s) at ≡ whole x
    token_there =
        head_is _ _ _ _
        (sym (rest_at s (last_of s) room at before_last) ∙ ap (tokens 0) words_there
        ∙ read_written x (all_words after) (allowed_fits f.kind f.card (earlier_then [] before) x allowed_there))

    pub next_there : Next s (last_of s) room at x
    next_there = next_at_lem s (last_of s) room at x before_last token_there

-- what is read in the words of items is those items
items_of : (kind : Kind) (card : ℕ) (p xs : List Item) → Sound kind card p xs → wholes (tokens 0 (all_words xs)) ≡ xs
unfolding all_words wholes tokens
items_of kind card p [] h = refl
items_of kind card p (x ∷ xs) h =
    ap wholes (read_written x (all_words xs) (allowed_fits kind card p x (sound_head kind card p x xs h)))
    ∙ ap (λ (l : List Item). x ∷ l) (items_of kind card (x ∷ p) xs (sound_tail kind card p x xs h))

-- ---- the cursor, in any bytes

pub standing_in : (s : List ℕ) (at : ℕ) (t : Token) (n : ℕ) → 3 ≤ at → at < last_of s → Stands s (last_of s) at t n → standing_at s at ≡ standing_by t n
unfolding standing_at
standing_in s at t n a b w =
    ap (λ (c : Bool). pick c (standing_by (token_at s (last_of s) at) (next_at s at)) none) (and_both (leb 3 at) (ltb at (last_of s)) (le-leb 3 at a) (lt-ltb at (last_of s) b))
    ∙ ap₂ standing_by w.token w.follow

pub standing_early : (s : List ℕ) (at : ℕ) → at < 3 → standing_at s at ≡ none
unfolding standing_at
standing_early s at a = ap (λ (c : Bool). pick (c && ltb at (last_of s)) (standing_by (token_at s (last_of s) at) (next_at s at)) none) (lt-leb 3 at a)

pub standing_late : (s : List ℕ) (at : ℕ) → last_of s ≤ at → standing_at s at ≡ none
unfolding standing_at
standing_late s at a = go (leb 3 at)
  where
    go : (b : Bool) → pick (b && ltb at (last_of s)) (standing_by (token_at s (last_of s) at) (next_at s at)) none ≡ none
    go true = ap (λ (c : Bool). pick c (standing_by (token_at s (last_of s) at) (next_at s at)) none) (le-ltb at (last_of s) a)
    go false = refl

pub standing_flawed : (s : List ℕ) (at k : ℕ) → token_at s (last_of s) at ≡ flawed k → standing_at s at ≡ none
unfolding standing_at
standing_flawed s at k e = go (leb 3 at && ltb at (last_of s))
  where
    go : (b : Bool) → pick b (standing_by (token_at s (last_of s) at) (next_at s at)) none ≡ none
    go true = rw e
    go false = refl

-- what stands is whole, and lies between the first three words and the last
pub record Stood (s : List ℕ) (at : ℕ) (x : Item) (n : ℕ) : Type 0 where
  pub late : 3 ≤ at
  pub early : at < last_of s
  pub token : token_at s (last_of s) at ≡ whole x
  pub follow : next_at s at ≡ n

pub stood : (s : List ℕ) (at : ℕ) (x : Item) (n : ℕ) → standing_at s at ≡ some (record { item = x; next = n }) → Stood s at x n
unfolding standing_at
stood s at x n e = go (leb 3 at && ltb at (last_of s)) refl e
  where
    by : (t : Token) → token_at s (last_of s) at ≡ t → leb 3 at && ltb at (last_of s) ≡ true → standing_by t (next_at s at) ≡ some (record { item = x; next = n }) → Stood s at x n
    by (whole y) k b f =
        let q = some_is _ _ f in
        record {
          late = leb-true 3 at (and_left (leb 3 at) (ltb at (last_of s)) b);
          early = ltb-true at (last_of s) (and_right (leb 3 at) (ltb at (last_of s)) b);
          token = k ∙ ap whole (ap (λ (r : Found). r.item) q);
          follow = ap (λ (r : Found). r.next) q;
        }
    by (broken c) k b f = no_some _ f
    by (flawed m) k b f = no_some _ f

    go : (b : Bool) → leb 3 at && ltb at (last_of s) ≡ b → pick b (standing_by (token_at s (last_of s) at) (next_at s at)) none ≡ some (record { item = x; next = n }) → Stood s at x n
    go true b f = by (token_at s (last_of s) at) refl b f
    go false b f = no_some _ f

-- ---- the law of a turn

-- item x stands at word `at`, the next one at word n
pub record Turn (s : List ℕ) (at : ℕ) (g : On s at) (x : Item) (n : ℕ) : Type 0 where
  pub there : standing_at s at ≡ some (record { item = x; next = n })
  pub token : token_at s (last_of s) at ≡ whole x
  pub class : class_for x ≡ class_of (word_at s at)
  pub split : items_from s at ≡ x ∷ items_from s n
  pub follow : next_at s at ≡ n
  pub wide : n ≡ at + length (words_of x)
  pub further : at < n
  pub within : n ≤ last_of s
  -- the rules hold of it behind the earlier ones, the latest first
  pub allowed : Allowed g.frame.kind g.frame.card (earlier_then [] g.before) x
  pub next : On s n
  pub same_frame : next.frame ≡ g.frame
  pub passed : next.before ≡ g.before ++ (x ∷ [])
  pub latest : earlier_then [] next.before ≡ x ∷ earlier_then [] g.before

pub no_words : length (all_words []) ≡ 0
unfolding all_words
no_words = refl

pub more_words : (before : List Item) (x : Item) → length (all_words (before ++ (x ∷ []))) ≡ length (all_words before) + length (words_of x)
unfolding all_words
more_words before x = ap length (all_words_lem before (x ∷ [])) ∙ length-append (all_words before) (words_of x ++ []) ∙ ap (λ (l : List ℕ). length (all_words before) + length l) (append-nil (words_of x))

pub from_first : (s : List ℕ) → Bytes s → (f : Frame) → verdict s ≡ accepted f → items_from s 3 ≡ f.items
unfolding items_from
from_first s y f a = ap (λ (l : List ℕ). wholes (tokens 0 (drop 3 l))) (front_is s y f a) ∙ items_of f.kind f.card [] f.items (sound s y f a).0.sound

pub on_start : (s : List ℕ) → Bytes s → (f : Frame) → verdict s ≡ accepted f → On s 3
on_start s y f a = record { bytes = y; frame = f; accepted = a; before = []; split = sym (from_first s y f a); index = omega (arith, no_words) }

module _ (s : List ℕ) (at : ℕ) (g : On s at) where
  at_end : items_from s at ≡ [] → at ≡ last_of s
  at_end e =
      let l = last_is s g.bytes g.frame g.accepted in
      let i = g.index in
      let m : length (all_words g.frame.items) ≡ length (all_words g.before) =
      ap (λ (xs : List Item). length (all_words xs)) (g.split ∙ ap (λ (xs : List Item). g.before ++ xs) e ∙ append-nil g.before) in
      omega arith

  module _ (x : Item) (xs : List Item) (e : items_from s at ≡ x ∷ xs) where
    split_there : g.frame.items ≡ g.before ++ (x ∷ xs)
    split_there = g.split ∙ ap (λ (l : List Item). g.before ++ l) e

    below : at < last_of s
    below = before_last s g.bytes g.frame g.accepted g.before x xs split_there at g.index

    turn_there : Turn s at g x (next_at s at)
    unfolding items_from wholes token_at earlier_then
    turn_there =
        let f : Frame = g.frame in
        let r = room s g.bytes f g.accepted in
        let t = token_there s g.bytes f g.accepted g.before x xs split_there at g.index in
        let n = next_there s g.bytes f g.accepted g.before x xs split_there at g.index in
        let i = g.index in
        let wide = n.wide in
        let apart : items_from s at ≡ x ∷ items_from s (next_at s at) =
        ap wholes (rest_at s (last_of s) r at below) ∙ ap (λ (u : Token). wholes (u ∷ rest s (last_of s) (next_at s at))) t in
        record {
          there = standing_in s at (whole x) (next_at s at) (omega arith) below (record { token = t; follow = refl });
          token = t;
          class =
              (written_read (word_at s at) (drop (at + 1) (take (last_of s) (words s))) x
              (below_drop (at + 1) (take (last_of s) (words s)) 65536 (below_take (last_of s) (words s) 65536 (omega arith) (words_below s g.bytes))) t).class;
          split = apart;
          follow = refl;
          wide = wide;
          further = n.further;
          within = n.within;
          allowed = allowed_there s g.bytes f g.accepted g.before x xs split_there at i;
          next = record {
            bytes = g.bytes;
            frame = f;
            accepted = g.accepted;
            before = g.before ++ (x ∷ []);
            split = g.split ∙ ap (λ (l : List Item). g.before ++ l) apart ∙ sym (append_assoc g.before (x ∷ []) (items_from s (next_at s at)));
            index = omega (arith, more_words g.before x);
          };
          same_frame = refl;
          passed = refl;
          latest = behind_append [] g.before (x ∷ []);
        }

  pub turn : at < last_of s → (x : Item) × Turn s at g x (next_at s at)
  turn h = go (items_from s at) refl
    where
      go : (l : List Item) → items_from s at ≡ l → (x : Item) × Turn s at g x (next_at s at)
      go [] e = let z = at_end e in absurd (omega arith)
      go (x ∷ xs) e = (x, turn_there x xs e)

  -- at the last word no item is left
  pub run_out : last_of s ≤ at → (items_from s at ≡ []) × (at ≡ last_of s)
  run_out h = go (items_from s at) refl
    where
      go : (l : List Item) → items_from s at ≡ l → (items_from s at ≡ []) × (at ≡ last_of s)
      go [] e = (e, at_end e)
      go (x ∷ xs) e = let z = below x xs e in absurd (omega arith)

  pub on_range : (3 ≤ at) × (at ≤ last_of s)
  on_range = go (items_from s at) refl
    where
      go : (l : List Item) → items_from s at ≡ l → (3 ≤ at) × (at ≤ last_of s)
      go [] e = let i = g.index in let z = at_end e in (omega arith, omega arith)
      go (x ∷ xs) e = let i = g.index in let z = below x xs e in (omega arith, omega arith)

  -- the rules hold of all that are left
  pub on_sound : Sound g.frame.kind g.frame.card (earlier_then [] g.before) (items_from s at)
  on_sound =
      let h = (sound s g.bytes g.frame g.accepted).0.sound in
      sound_right g.frame.kind g.frame.card [] g.before (items_from s at) (subst (Sound g.frame.kind g.frame.card []) g.split h)

  -- ---- its cases: whoever knows the token knows the item

  whole_is : (x z : Item) → whole x ≡ whole z → x ≡ z
  whole_is x z e = cc

  pub by_token : (z : Item) (m : ℕ) → at < last_of s → Stands s (last_of s) at (whole z) m → Turn s at g z m
  by_token z m h w =
      let (x, t) = turn h in
      let e : x ≡ z = whole_is x z (sym t.token ∙ w.token) in
      subst (λ (n : ℕ). Turn s at g z n) w.follow (subst (λ (y : Item). Turn s at g y (next_at s at)) e t)

  pub found : (z : Item) (m : ℕ) → standing_at s at ≡ some (record { item = z; next = m }) → Turn s at g z m
  found z m e = let w = stood s at z m e in by_token z m w.early (record { token = w.token; follow = w.follow })

  pub not_nothing : at < last_of s → standing_at s at ≡ none → ⊥
  not_nothing h e = let (x, t) = turn h in no_some _ (sym e ∙ t.there)

  module _ (h : at < last_of s) where
    -- a word of a class with no words after it
    one_word : (c : Class) (z : Item) → c ≡ class_of (word_at s at) → assigned c ≡ true → after c (word_at s at) ≡ 0 → decode c (word_at s at) [] ≡ some z
        → Turn s at g z (at + 1)
    one_word c z k a o d = by_token z (at + 1) h (alone s (last_of s) at c (whole z) k a o (ap (token_for c) d))

    pub channel_turn : channel ≡ class_of (word_at s at) → Turn s at g (Channel (word_at s at / 512 % 32) (word_at s at / 128 % 4) (word_at s at % 128)) (at + 1)
    unfolding decode
    channel_turn k = one_word channel _ k refl refl refl

    pub histogram_turn : histogram ≡ class_of (word_at s at) → Turn s at g (Histogram (word_at s at / 512 % 32) (word_at s at / 128 % 4) (word_at s at % 128)) (at + 1)
    unfolding decode
    histogram_turn k = one_word histogram _ k refl refl refl

    pub hits_turn : hit_count ≡ class_of (word_at s at) → Turn s at g (HitCount (word_at s at / 512 % 32) (word_at s at / 128 % 4) (word_at s at % 128)) (at + 1)
    unfolding decode
    hits_turn k = one_word hit_count _ k refl refl refl

    pub sample_turn : sample ≡ class_of (word_at s at) → Turn s at g (Sample (word_at s at % 4096)) (at + 1)
    unfolding decode
    sample_turn k = one_word sample _ k refl refl refl

    pub cell_turn : last_cell ≡ class_of (word_at s at) → Turn s at g (LastCell (word_at s at / 512 % 4) (word_at s at % 512)) (at + 1)
    unfolding decode
    cell_turn k = one_word last_cell _ k refl refl refl

    pub time_turn : time_bin ≡ class_of (word_at s at) → Turn s at g (TimeBin (word_at s at % 512)) (at + 1)
    unfolding decode
    time_turn k = one_word time_bin _ k refl refl refl

    -- with words after it: where it stands whole, they are there
    far : (c : Class) (n : ℕ) → c ≡ class_of (word_at s at) → after c (word_at s at) ≡ n → at + 1 + n ≤ last_of s
    unfolding next_at
    far c n k e =
        let (x, t) = turn h in
        let w = t.within in
        let m : after (class_of (word_at s at)) (word_at s at) ≡ n = ap (λ (d : Class). after d (word_at s at)) (sym k) ∙ e in
        omega arith

    pub bin_turn : bin ≡ class_of (word_at s at) → Turn s at g (Bin (word_at s at % 4096) (long_at s (at + 1))) (at + 3)
    bin_turn k = by_token _ (at + 3) h (bin_there s (last_of s) at (within_bytes s) _ k (let l = far bin 2 k refl in omega arith) refl)

    pub start_turn : start_event ≡ class_of (word_at s at) → Turn s at g (StartEvent (word_at s at % 16) (time_at s (at + 1)) (long_at s (at + 4))) (at + 6)
    start_turn k = by_token _ (at + 6) h (start_there s (last_of s) at (within_bytes s) _ _ k (let l = far start_event 5 k refl in omega arith) refl refl)

    no_whole : (c : Class) (x : Item) → broken c ≡ whole x → ⊥
    no_whole c x e = let z : ◌≡◌ {A = ℕ} 0 1 = cc in omega arith

    pub end_turn : end_event ≡ class_of (word_at s at) → Turn s at g (EndEvent (long_at s (at + 1))) (at + 3)
    end_turn k = go (eqb (word_at s at % 16) 0) refl
      where
        there : at + 3 ≤ last_of s
        there = let l = far end_event 2 k refl in omega arith

        go : (b : Bool) → eqb (word_at s at % 16) 0 ≡ b → Turn s at g (EndEvent (long_at s (at + 1))) (at + 3)
        go true b = by_token _ (at + 3) h (end_there s (last_of s) at (within_bytes s) _ k there (eqb-true _ 0 b) refl)
        go false b =
            let (x, t) = turn h in
            absurd (no_whole end_event x (sym (end_broken s (last_of s) at (within_bytes s) k there (eqb-false _ 0 b)).token ∙ t.token))

    pub continue_turn : continue_event ≡ class_of (word_at s at) → Turn s at g (ContinueEvent (long_at s (at + 1))) (at + 3)
    continue_turn k = go (eqb (word_at s at % 512) 0) refl
      where
        there : at + 3 ≤ last_of s
        there = let l = far continue_event 2 k refl in omega arith

        go : (b : Bool) → eqb (word_at s at % 512) 0 ≡ b → Turn s at g (ContinueEvent (long_at s (at + 1))) (at + 3)
        go true b = by_token _ (at + 3) h (continue_there s (last_of s) at (within_bytes s) _ k there (eqb-true _ 0 b) refl)
        go false b =
            let (x, t) = turn h in
            absurd (no_whole continue_event x (sym (continue_broken s (last_of s) at (within_bytes s) k there (eqb-false _ 0 b)).token ∙ t.token))

-- ---- an item as it is answered tells the item, but for a text's bytes

shown_item : (x : Item) → same text (class_for x) ≡ false → x ≡ unshown (shown x)
shown_item (Channel a b c) e = refl
shown_item (Histogram a b c) e = refl
shown_item (HitCount a b c) e = refl
shown_item (Sample v) e = refl
shown_item (Bin b n) e = refl
shown_item (LastCell a b) e = refl
shown_item (TimeBin t) e = refl
shown_item (Text s) e = absurd (true≢false e)
shown_item (StartEvent t ts n) e = refl
shown_item (ContinueEvent n) e = refl
shown_item (EndEvent n) e = refl

pub shown_class : (x : Item) → class_for (shown x) ≡ class_for x
shown_class (Channel a b c) = refl
shown_class (Histogram a b c) = refl
shown_class (HitCount a b c) = refl
shown_class (Sample v) = refl
shown_class (Bin b n) = refl
shown_class (LastCell a b) = refl
shown_class (TimeBin t) = refl
shown_class (Text s) = refl
shown_class (StartEvent t ts n) = refl
shown_class (ContinueEvent n) = refl
shown_class (EndEvent n) = refl

module _ (s : List ℕ) (at : ℕ) (g : On s at) where
  -- what was answered stands there
  pub answered : (z : ItemOf ℕ) (n : ℕ) → shown_by (standing_at s at) ≡ some (record { item = z; next = n }) → (x : Item) × (shown x ≡ z) × Turn s at g x n
  answered z n e = go (standing_at s at) refl e
    where
      go : (o : Option Found) → standing_at s at ≡ o → shown_by o ≡ some (record { item = z; next = n }) → (x : Item) × (shown x ≡ z) × Turn s at g x n
      go none k f = no_some _ f
      go (some r) k f =
          let q = some_is _ _ f in
          let m : r.next ≡ n = ap (λ (u : Shown). u.next) q in
          (r.item, ap (λ (u : Shown). u.item) q, found s at g r.item n (k ∙ ap (λ (i : ℕ). some (record { item = r.item; next = i })) m))

  pub answered_item : (z : ItemOf ℕ) (n : ℕ) → same text (class_for z) ≡ false → shown_by (standing_at s at) ≡ some (record { item = z; next = n })
      → Turn s at g (unshown z) n
  answered_item z n h e =
      let (x, i, t) = answered z n e in
      let c : same text (class_for x) ≡ false = ap (same text) (sym (shown_class x) ∙ ap (λ (u : ItemOf ℕ). class_for u) i) ∙ h in
      subst (λ (y : Item). Turn s at g y n) (shown_item x c ∙ ap (λ (u : ItemOf ℕ). unshown u) i) t

  pub nothing_answered : at < last_of s → shown_by (standing_at s at) ≡ none → ⊥
  nothing_answered h e = let (x, t) = turn s at g h in no_some _ (sym e ∙ ap (λ (o : Option Found). shown_by o) t.there)

-- ---- exactly the frame's items

tail_is : (x y : Item) (xs ys : List Item) → x ∷ xs ≡ y ∷ ys → xs ≡ ys
tail_is x y xs ys e = cc

meets_from : (s : List ℕ) (xs : List Item) (at : ℕ) (g : On s at) → items_from s at ≡ xs → Meets s at xs
meets_from s [] at g e = ended (at_end s at g e)
meets_from s (x ∷ xs) at g e =
    let t = turn_there s at g x xs e in
    met t.there (meets_from s xs (next_at s at) t.next (tail_is x x _ xs (sym t.split ∙ e)))

-- "an accepted frame, from word 3 on": its items in order, each at its index, and behind the last the end word
pub accepted_meets : (s : List ℕ) → Bytes s → (f : Frame) → verdict s ≡ accepted f → Meets s 3 f.items
accepted_meets s y f a = meets_from s f.items 3 (on_start s y f a) (from_first s y f a)

-- and only these
pub met_once : (s : List ℕ) (at : ℕ) (xs ys : List Item) → Meets s at xs → Meets s at ys → xs ≡ ys
met_once s at [] [] (ended a) (ended b) = refl
met_once s at [] (y ∷ ys) (ended a) (met b m) = let z = (stood s at y _ b).early in absurd (omega arith)
met_once s at (x ∷ xs) [] (met a l) (ended b) = let z = (stood s at x _ a).early in absurd (omega arith)
met_once s at (x ∷ xs) (y ∷ ys) (met {n = n} a l) (met {n = m} b k) =
    let q = some_is _ _ (sym a ∙ b) in
    let e : n ≡ m = ap (λ (r : Found). r.next) q in
    ap₂ ◌∷◌ (ap (λ (r : Found). r.item) q) (met_once s m xs ys (subst (λ (i : ℕ). Meets s i xs) e l) k)
