-- One item put: from the turn that the rules took and the bytes stored to the promise, class by class.
-- Assumes nothing.
use Prim.Native.Nat.{ℕ, ◌+◌, ◌/◌, ◌%◌, ◌≤◌, ◌<◌}
use mathlib.Core.Path.{◌≡◌, refl, sym, ap, ap₂, ◌∙◌}
use mathlib.Core.List.{List, [], ◌∷◌, ◌++◌}
use mathlib.Core.Bool.{Bool, true, false, ◌&&◌, and-true}
use native.Mathlib.Omega.{arith}
use lib.Dec.{leb, ltb}
use lib.ListN.{length}
use lib.Seq.{sets}
use borrow.Author.Tests.{leb-true, le-leb, lt-leb, lt-ltb}
use Rattle.format.specs.Words.{pick, Bytes, bytes, long_words, non_zero}
use Rattle.format.specs.Answers.{Outcome, accepted, refused, leaves}
use Rattle.format.specs.Book.{text}
use Rattle.format.specs.Items.{Item, Text, ContinueEvent, EndEvent, class_for, words_of, fits, in_range, Token, whole, broken}
use Rattle.format.specs.Rules.{Checked, good, bad}
use Rattle.format.specs.Steps.{ReaderState, Stepped, moved, stopped, marked, place_by, value_by, sized_by, order_by, state_after, check_by}
use Rattle.format.specs.Writing.{given, token_bytes}
use Rattle.format.specs.PartialSteps.{Put, put_checked, put_answer, put_left, PutWrote}
use Rattle.format.proofs.book.PrefixLaws.{and_left, and_right}
use Rattle.format.proofs.items.TextLaws.{bytes_are}
use Rattle.format.proofs.front.Book.{item_in_range}
use Rattle.book.specs.Views.{view_item}
use Rattle.book.specs.Fields.{start_word, channel_item, histogram_item, hits_item, sample_item, bin_item, cell_item, time_item, start_item, continue_item, end_item}
use Rattle.book.specs.declared.items.Item as handed
use Rattle.book.specs.declared.items.Item.TheVariants as item
use Rattle.book.specs.declared.items.StartEvent as start
use Rattle.book.proofs.FieldLaws.{channel_words, histogram_words, hits_words, sample_words, bin_words, cell_words, time_words_lem, start_words, continue_words, end_words}
use Rattle.rules.specs.Views.{continue_tested, end_tested, text_tested}
use Rattle.writer.specs.Views.{time_cut, item_bytes, text_bytes, lettered, room_in, answered_by, placed, placed_left}
use Rattle.writer.proofs.StoreTurns.{zero_behind}

-- ---- the answer to an item of some size

module _ (room n size : ℕ) where
  pub past_frame : 8192 < n → false ≡ room_in room n size
  past_frame h = rw (lt-leb (n + size + 2) 8192 (let l : 8192 < n + size + 2 = omega arith in l)) (go (leb (n + size + 2) room))
    where
      go : (b : Bool) → false ≡ b && false
      go true = refl
      go false = refl

  module _ (o : Stepped) where
    pub turned_away : (k : ℕ) → o ≡ stopped k → refused k (n / 2) ≡ answered_by room n size o
    unfolding answered_by
    turned_away k e = rw e

    pub comes_in : (st : ReaderState) (next : ℕ) (b : Bool) → o ≡ moved st next → b ≡ room_in room n size → b ≡ true
        → accepted (record { reached = n + size; state = st }) ≡ answered_by room n size o
    unfolding answered_by
    comes_in st next b e f t = rw (e, ← f, t)

    pub no_room : (st : ReaderState) (next : ℕ) (b : Bool) → o ≡ moved st next → b ≡ room_in room n size → b ≡ false → refused 12 0 ≡ answered_by room n size o
    unfolding answered_by
    no_room st next b e f t = rw (e, ← f, t)

    pub roomy : (x : Put) → accepted x ≡ answered_by room n size o → n + size + 2 ≤ room
    unfolding answered_by
    roomy x e = go o e
      where
        fit : (b : Bool) (a : Outcome Put) → accepted x ≡ pick b a (refused 12 0) → b ≡ true
        fit true a f = refl
        fit false a f = let z : ◌≡◌ {A = ℕ} 0 1 = cc in absurd (omega arith)

        go : (o : Stepped) → accepted x ≡ answered_by room n size o → n + size + 2 ≤ room
        go (moved st next) f = leb-true _ _ (and_left (leb (n + size + 2) room) (leb (n + size + 2) 8192) (fit (room_in room n size) _ f))
        go (stopped k) f = let z : ◌≡◌ {A = ℕ} 0 1 = cc in absurd (omega arith)

-- the frame's own rule for its room
pub room_there : (room n size : ℕ) (b : Bool) → b ≡ room_in room n size → b ≡ true → n + size + 2 ≤ 8192
room_there room n size b e t = leb-true _ _ (and_right (leb (n + size + 2) room) (leb (n + size + 2) 8192) (sym e ∙ t))

-- ---- the promise of the stores

module _ (buf : List ℕ) (n : ℕ) (bs : List ℕ) (o : Stepped) (size : ℕ) (s : size ≡ length bs) where
  pub kept : (k p : ℕ) → refused k p ≡ answered_by (length buf) n size o → PutWrote (placed buf n bs o) (placed_left buf n bs o) (refused k p) buf
  kept k p e =
      let f : refused k p ≡ placed buf n bs o = e ∙ ap (λ (m : ℕ). answered_by (length buf) n m o) s in
      record { answered = f; written = rw (← f) }

  pub stored : (x : Put) (b : List ℕ) → accepted x ≡ answered_by (length buf) n size o → b ≡ sets buf n bs
      → PutWrote (placed buf n bs o) (placed_left buf n bs o) (accepted x) b
  stored x b e g =
      let f : accepted x ≡ placed buf n bs o = e ∙ ap (λ (m : ℕ). answered_by (length buf) n m o) s in
      record { answered = f; written = rw (← f) g }

-- ---- an item that passes the rules fits its fields

passed : (a b c : Bool) (r st : ReaderState) → pick a (pick b (pick c (good r) (bad 10)) (bad 9)) (bad 8) ≡ good st → b ≡ true
passed true true c r st e = refl
passed true false c r st e = let z : ◌≡◌ {A = ℕ} 0 1 = cc in absurd (omega arith)
passed false b c r st e = let z : ◌≡◌ {A = ℕ} 0 1 = cc in absurd (omega arith)

good_fits : (card at : ℕ) (st : ReaderState) (x : Item) (st' : ReaderState) → check_by card at st (whole x) ≡ good st' → fits x ≡ true
unfolding check_by
good_fits card at st x st' e =
    item_in_range card x (and_left (in_range card x) (sized_by at st x) (passed (place_by st (class_for x)) (value_by card at st x) (order_by st x) (state_after at st x) st' e))

-- ---- class by class

module _ (buf : List ℕ) (n card : ℕ) (st : ReaderState) (o : Stepped) (answer : Outcome Put) (left : List ℕ) where
  abbrev pub Stored : List ℕ → Type 0
  Stored bs = PutWrote (placed buf n bs o) (placed_left buf n bs o) answer left

  abbrev pub Promised : Token → Type 0
  Promised t = PutWrote (put_answer buf n card st t) (put_left buf n card st t) answer left

  -- the bytes count only where the item passes
  same_answer : (bs cs : List ℕ) (q : Checked ReaderState) → ((r : ReaderState) → q ≡ good r → bs ≡ cs) → placed buf n bs (marked 0 q) ≡ put_checked buf n cs q
  unfolding answered_by
  same_answer bs cs (good r) f = rw (f r refl)
  same_answer bs cs (bad k) f = refl

  same_left : (bs cs : List ℕ) (q : Checked ReaderState) → ((r : ReaderState) → q ≡ good r → bs ≡ cs)
      → placed_left buf n bs (marked 0 q) ≡ leaves (put_checked buf n cs q) buf (sets buf n cs)
  unfolding answered_by
  same_left bs cs (good r) f = rw (f r refl)
  same_left bs cs (bad k) f = refl

  turned : (t : Token) (bs : List ℕ) → ((r : ReaderState) → check_by card (n / 2) st t ≡ good r → bs ≡ token_bytes t) → o ≡ marked 0 (check_by card (n / 2) st t) → Stored bs → Promised t
  unfolding put_answer put_left
  turned t bs g e w =
      record {
        answered = w.answered ∙ ap (placed buf n bs) e ∙ same_answer bs (token_bytes t) (check_by card (n / 2) st t) g;
        written = w.written ∙ ap (placed_left buf n bs) e ∙ same_left bs (token_bytes t) (check_by card (n / 2) st t) g;
      }

  arm : (x : Item) (ws : List ℕ) → (fits x ≡ true → words_of x ≡ ws) → o ≡ marked 0 (check_by card (n / 2) st (whole x)) → Stored (bytes ws) → Promised (whole x)
  arm x ws f = turned (whole x) (bytes ws) (λ r q. ap bytes (sym (f (good_fits card (n / 2) st x r q))))

  start_cut : (x : start.StartEvent) → fits (start_item x) ≡ true → words_of (start_item x) ≡ start_word x ∷ (time_cut x.timestamp ++ long_words x.number)
  start_cut x h = start_words x h ∙ ap (λ (k : ℕ). start_word x ∷ (x.timestamp % 65536) ∷ (x.timestamp / 65536 % 65536) ∷ k ∷ long_words x.number) cut
    where
      cut : x.timestamp / 4294967296 ≡ x.timestamp / 4294967296 % 65536
      cut =
          let t = leb-true x.timestamp 281474976710655 (and_right (leb x.kind 15) (leb x.timestamp 281474976710655) (and_left (leb x.kind 15 && leb x.timestamp 281474976710655) (ltb x.number 4294967296) h)) in
          omega (arith, t)

  pub item_put : (x : handed.Item) → o ≡ marked 0 (check_by card (n / 2) st (given (view_item x))) → Stored (item_bytes x) → Promised (given (view_item x))
  item_put (item.Channel x) = arm (channel_item x) _ (channel_words x)
  item_put (item.Histogram x) = arm (histogram_item x) _ (histogram_words x)
  item_put (item.HitCount x) = arm (hits_item x) _ (hits_words x)
  item_put (item.Sample x) = arm (sample_item x) _ (sample_words x)
  item_put (item.Bin x) = arm (bin_item x) _ (bin_words x)
  item_put (item.LastCell x) = arm (cell_item x) _ (cell_words x)
  item_put (item.TimeBin x) = arm (time_item x) _ (time_words_lem x)
  item_put (item.Text x) = turned (broken text) [] (λ r q. refl)
  item_put (item.StartEvent x) = arm (start_item x) _ (start_cut x)
  item_put (item.ContinueEvent x) = arm (continue_item x) _ (λ h. continue_words x)
  item_put (item.EndEvent x) = arm (end_item x) _ (λ h. end_words x)

  -- a text that is too long
  pub text_long : (s : List ℕ) → 254 < length s → o ≡ marked 0 (text_tested st false) → answer ≡ answered_by (length buf) n 0 o → left ≡ buf → Promised (whole (Text s))
  unfolding put_answer put_left check_by text_tested answered_by
  text_long s h e f g = rw (lt-leb (length s) 254 h) (go (place_by st text) (f ∙ ap (answered_by (length buf) n 0) e))
    where
      go : (b : Bool) → answer ≡ answered_by (length buf) n 0 (marked 0 (pick b (bad 9) (bad 8)))
          → PutWrote (put_checked buf n (bytes (words_of (Text s))) (pick b (bad 9) (bad 8))) (leaves (put_checked buf n (bytes (words_of (Text s))) (pick b (bad 9) (bad 8))) buf (sets buf n (bytes (words_of (Text s))))) answer left
      go true a = record { answered = a; written = g }
      go false a = record { answered = a; written = g }

  -- the rules at a text of at most 254 bytes
  text_tested_lem : (s : List ℕ) → Bytes s → length s ≤ 254 → text_tested st (non_zero s) ≡ check_by card (n / 2) st (whole (Text s))
  unfolding check_by text_tested
  text_tested_lem s bs h = rw (le-leb (length s) 254 h, bytes_are s bs) (rw (and-true, and-true))

  text_is : (s : List ℕ) → Bytes s → length s ≤ 254 → lettered s ≡ bytes (words_of (Text s))
  unfolding text_bytes words_of bytes
  text_is s bs h =
      let w : 0x0100 + (length s + 1) % 256 ≡ 0x0100 + (length s + 1) = omega arith in
      ap₂ (λ (v : ℕ) (z : List ℕ). (v % 256) ∷ (v / 256) ∷ z) w (sym (zero_behind s bs))

  pub text_put : (s : List ℕ) (b : Bool) → Bytes s → length s ≤ 254 → b ≡ non_zero s → o ≡ marked 0 (text_tested st b) → Stored (lettered s) → Promised (whole (Text s))
  text_put s b bs h e f = turned (whole (Text s)) (lettered s) (λ r q. text_is s bs h) (f ∙ ap (λ (c : Bool). marked 0 (text_tested st c)) e ∙ ap (marked 0) (text_tested_lem s bs h))

-- the rules at an End event, with its low bits zero
pub end_handed : (at next : ℕ) (st : ReaderState) (size : ℕ) (r : Stepped) → size < 4294967296 → r ≡ marked next (end_tested at st size 0)
    → r ≡ marked next (check_by 0 at st (whole (EndEvent size)))
unfolding end_tested check_by
end_handed at next st size r h e = rw (lt-ltb size 4294967296 h) e

-- the rules at a Continue event, with its content zero
pub continue_handed : (next : ℕ) (st : ReaderState) (number : ℕ) (r : Stepped) → number < 4294967296 → r ≡ marked next (continue_tested st 0)
    → r ≡ marked next (check_by 0 0 st (whole (ContinueEvent number)))
unfolding continue_tested check_by
continue_handed next st number r h e = rw (lt-ltb number 4294967296 h) e
