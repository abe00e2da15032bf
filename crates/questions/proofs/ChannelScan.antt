-- The search for a Channel header of an event, by its chip and channel.
-- Assumes nothing.
use Prim.Native.Nat.{ℕ, ◌+◌, ◌/◌, ◌%◌, ◌<◌, ◌≤◌}
use mathlib.Core.Path.{◌≡◌, refl, sym, ap, ◌∙◌}
use mathlib.Core.List.{List, [], ◌∷◌}
use mathlib.Core.Bool.{Bool, true, false, ◌&&◌, true≢false}
use mathlib.Core.Option.{none, some}
use native.Mathlib.Omega.{arith}
use lib.Dec.{leb, ltb, eqb, lit<}
use borrow.Author.Tests.{leb-true, ltb-true}
use Rattle.format.specs.Words.{word_at}
use Rattle.format.specs.Book.{channel, histogram, end_event}
use Rattle.format.specs.Items.{ItemOf, Item, Channel, Histogram, HitCount, Sample, Bin, LastCell, TimeBin, Text, StartEvent, ContinueEvent, EndEvent, class_for}
use Rattle.format.specs.Rules.{data_kind, same, place}
use Rattle.format.specs.Frames.{earlier_then, last_of}
use Rattle.format.specs.Cursor.{standing_at, shown_by, items_from, On}
use Rattle.format.specs.Questions.{shown, until, past_at, is_channel}
use Rattle.format.proofs.book.PrefixLaws.{and_left, and_right}
use Rattle.format.proofs.items.WordLaws.{word_below}
use Rattle.format.proofs.book.BookLaws.{ranged, in_range}
use Rattle.format.proofs.reader.CursorLaws.{Turn, channel_turn, answered, run_out}
use Rattle.book.specs.Fields.{channel_of}
use Rattle.book.specs.Fields as ch
use Rattle.questions.specs.Sought.{Amid, ends_event, is_header, ChannelAt}
use Rattle.questions.proofs.PastLaws.{past_hit, past_miss, until_other, until_end}
use Rattle.questions.proofs.Turns.{ends_shown, never_in_data, amid_next, placed, one_turn}

pub record Seeking (s : List ℕ) (from chip c at : ℕ) : Type 0 where
  pub amid : Amid s data_kind at
  pub still : past_at (is_channel chip c) at (until end_event (items_from s at)) ≡ past_at (is_channel chip c) from (until end_event (items_from s from))

pub seeking_start : (s : List ℕ) (from chip c : ℕ) → Amid s data_kind from → Seeking s from chip c from
seeking_start s from chip c a = record { amid = a; still = refl }

module _ (chip c : ℕ) where
  -- only a Channel passes the test
  other_class : (x : Item) → (channel ≡ class_for x → ⊥) → is_channel chip c x ≡ false
  other_class (Channel a b d) f = absurd (f refl)
  other_class (Histogram a b d) f = refl
  other_class (HitCount a b d) f = refl
  other_class (Sample v) f = refl
  other_class (Bin b n) f = refl
  other_class (LastCell a b) f = refl
  other_class (TimeBin t) f = refl
  other_class (Text s) f = refl
  other_class (StartEvent t ts n) f = refl
  other_class (ContinueEvent n) f = refl
  other_class (EndEvent n) f = refl

  pub record Header (x : Item) : Type 0 where
    pub card : ℕ
    pub chip_is : ℕ
    pub channel_is : ℕ
    pub is : x ≡ Channel card chip_is channel_is

  header_of : (x : Item) → is_channel chip c x ≡ true → Header x
  header_of (Channel a b d) e = record { card = a; chip_is = b; channel_is = d; is = refl }
  header_of (Histogram a b d) e = absurd (true≢false (sym e))
  header_of (HitCount a b d) e = absurd (true≢false (sym e))
  header_of (Sample v) e = absurd (true≢false (sym e))
  header_of (Bin b n) e = absurd (true≢false (sym e))
  header_of (LastCell a b) e = absurd (true≢false (sym e))
  header_of (TimeBin t) e = absurd (true≢false (sym e))
  header_of (Text s) e = absurd (true≢false (sym e))
  header_of (StartEvent t ts n) e = absurd (true≢false (sym e))
  header_of (ContinueEvent n) e = absurd (true≢false (sym e))
  header_of (EndEvent n) e = absurd (true≢false (sym e))

  -- and the answer tells whether it does: it shows no Histogram
  as_shown : (x : Item) → (histogram ≡ class_for x → ⊥) → is_channel chip c x ≡ is_header chip c (shown x)
  as_shown (Channel a b d) f = refl
  as_shown (Histogram a b d) f = absurd (f refl)
  as_shown (HitCount a b d) f = refl
  as_shown (Sample v) f = refl
  as_shown (Bin b n) f = refl
  as_shown (LastCell a b) f = refl
  as_shown (TimeBin t) f = refl
  as_shown (Text s) f = refl
  as_shown (StartEvent t ts n) f = refl
  as_shown (ContinueEvent n) f = refl
  as_shown (EndEvent n) f = refl

module _ (s : List ℕ) (from chip c at : ℕ) (k : Seeking s from chip c at) where
  abbrev g : On s at
  g = k.amid.on

  here : (x : Item) (n : ℕ) → Turn s at g x n → same end_event (class_for x) ≡ false
      → past_at (is_channel chip c) from (until end_event (items_from s from)) ≡ past_at (is_channel chip c) at (x ∷ until end_event (items_from s n))
  here x n t e =
      sym k.still ∙ ap (λ (xs : List Item). past_at (is_channel chip c) at (until end_event xs)) t.split ∙ ap (past_at (is_channel chip c) at) (until_other x (items_from s n) e)

  past_item : (x : Item) (n : ℕ) → Turn s at g x n → same end_event (class_for x) ≡ false → is_channel chip c x ≡ false → Seeking s from chip c n
  past_item x n t e f = record {
    amid = amid_next s data_kind at k.amid x n t;
    still = sym (here x n t e ∙ past_miss (is_channel chip c) at n x _ t.wide f);
  }

  hit_item : (x : Item) (n : ℕ) → Turn s at g x n → same end_event (class_for x) ≡ false → is_channel chip c x ≡ true → ChannelAt s from chip c n
  hit_item x n t e f =
      let h = header_of chip c x f in
      record {
        passed = here x n t e ∙ past_hit (is_channel chip c) at n x _ t.wide f;
        headed = record {
          on = t.next;
          card = h.card;
          chip = h.chip_is;
          channel = h.channel_is;
          before = earlier_then [] g.before;
          header = t.latest ∙ ap (λ (y : Item). y ∷ earlier_then [] g.before) h.is;
        };
      }

  none_in_data : (x : Item) (n : ℕ) → Turn s at g x n → histogram ≡ class_for x → ⊥
  none_in_data x n t e =
      never_in_data histogram refl refl refl refl refl refl (earlier_then [] g.before)
      (ap (place data_kind (earlier_then [] g.before)) e ∙ placed s data_kind at k.amid x n t)

  -- ---- a word that tells it

  module _ (h : at < last_of s) (w : ℕ) (i : w ≡ word_at s at) where
    module _ (l : 0xC000 ≤ w) (y : ch.Channel) (q : y ≡ channel_of w) where
      header_turn : Turn s at g (Channel (word_at s at / 512 % 32) (word_at s at / 128 % 4) (word_at s at % 128)) (at + 1)
      header_turn = channel_turn s at g h (sym (in_range (word_at s at) 0 (lit< tt) (omega arith, omega (arith, word_below s g.bytes at))))

      fields : (b : Bool) → eqb y.chip chip && eqb y.channel c ≡ b → eqb (word_at s at / 128 % 4) chip && eqb (word_at s at % 128) c ≡ b
      fields b e = ap (λ (v : ℕ). eqb (v / 128 % 4) chip && eqb (v % 128) c) (sym i) ∙ ap (λ (z : ch.Channel). eqb z.chip chip && eqb z.channel c) (sym q) ∙ e

      pub seeking_header : eqb y.chip chip && eqb y.channel c ≡ false → Seeking s from chip c (at + 1)
      seeking_header e = past_item _ (at + 1) header_turn refl (fields false e)

      pub seeking_hit : eqb y.chip chip && eqb y.channel c ≡ true → ChannelAt s from chip c (at + 1)
      seeking_hit e = hit_item _ (at + 1) header_turn refl (fields true e)

    pub seeking_one : leb 0x0E00 w && ltb w 0xC000 ≡ true → Seeking s from chip c (at + 1)
    seeking_one e =
        let a = leb-true 0x0E00 w (and_left (leb 0x0E00 w) (ltb w 0xC000) e) in
        let b = ltb-true w 0xC000 (and_right (leb 0x0E00 w) (ltb w 0xC000) e) in
        let o = one_turn s at k.amid h w i a in
        past_item o.x (at + 1) o.turn o.plain.no_end
        (other_class chip c o.x (λ f. let (u, v) = ranged (word_at s at) channel (sym (f ∙ o.turn.class)) refl in omega arith))

  -- ---- an item that the cursor answers

  module _ (z : ItemOf ℕ) (n : ℕ) (r : some (record { item = z; next = n }) ≡ shown_by (standing_at s at)) where
    pub seeking_end : ends_event z ≡ true → past_at (is_channel chip c) from (until end_event (items_from s from)) ≡ none
    unfolding past_at
    seeking_end f =
        let (x, i, t) = answered s at g z n (sym r) in
        sym k.still ∙ ap (λ (xs : List Item). past_at (is_channel chip c) at (until end_event xs)) t.split ∙ ap (past_at (is_channel chip c) at) (until_end x _ (ends_shown x z i ∙ f))

    module _ (f : ends_event z ≡ false) where
      pub seeking_next : is_header chip c z ≡ false → Seeking s from chip c n
      seeking_next e =
          let (x, i, t) = answered s at g z n (sym r) in
          past_item x n t (ends_shown x z i ∙ f) (as_shown chip c x (none_in_data x n t) ∙ ap (is_header chip c) i ∙ e)

      pub seeking_found : is_header chip c z ≡ true → ChannelAt s from chip c n
      seeking_found e =
          let (x, i, t) = answered s at g z n (sym r) in
          hit_item x n t (ends_shown x z i ∙ f) (as_shown chip c x (none_in_data x n t) ∙ ap (is_header chip c) i ∙ e)

  pub seeking_none : last_of s ≤ at → past_at (is_channel chip c) from (until end_event (items_from s from)) ≡ none
  unfolding past_at until
  seeking_none l = sym k.still ∙ ap (λ (xs : List Item). past_at (is_channel chip c) at (until end_event xs)) (run_out s at g l).0
