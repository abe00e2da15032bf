-- The search for a Histogram header of a monitor frame, by its chip and channel.
-- Assumes nothing.
use Prim.Native.Nat.{ℕ, ◌+◌, ◌/◌, ◌%◌, ◌<◌, ◌≤◌}
use mathlib.Core.Path.{◌≡◌, refl, sym, ap, ◌∙◌}
use mathlib.Core.List.{List, [], ◌∷◌}
use mathlib.Core.Bool.{Bool, true, false, ◌&&◌, true≢false}
use mathlib.Core.Option.{none, some}
use lib.Dec.{leb, ltb, eqb}
use borrow.Author.Tests.{ltb-true}
use Rattle.format.specs.Words.{word_at}
use Rattle.format.specs.Book.{channel}
use Rattle.format.specs.Items.{ItemOf, Item, Channel, Histogram, HitCount, Sample, Bin, LastCell, TimeBin, Text, StartEvent, ContinueEvent, EndEvent, class_for}
use Rattle.format.specs.Rules.{monitor_kind, place}
use Rattle.format.specs.Frames.{earlier_then, last_of}
use Rattle.format.specs.Cursor.{standing_at, shown_by, items_from, On}
use Rattle.format.specs.Questions.{shown, past_at, is_histogram}
use Rattle.format.proofs.book.PrefixLaws.{and_right}
use Rattle.format.proofs.rules.SoundLaws.{monitor_place}
use Rattle.format.proofs.reader.CursorLaws.{Turn, histogram_turn, bin_turn, answered, run_out}
use Rattle.book.specs.Fields.{histogram_of}
use Rattle.book.specs.Fields as hi
use Rattle.questions.specs.Sought.{Amid, is_header, HistogramAt}
use Rattle.questions.proofs.PastLaws.{past_hit, past_miss}
use Rattle.questions.proofs.Turns.{amid_next, placed, header_word, bin_word}

pub record Seeking (s : List ℕ) (chip c at : ℕ) : Type 0 where
  pub amid : Amid s monitor_kind at
  pub still : past_at (is_histogram chip c) at (items_from s at) ≡ past_at (is_histogram chip c) 3 (items_from s 3)

pub seeking_start : (s : List ℕ) (chip c : ℕ) → Amid s monitor_kind 3 → Seeking s chip c 3
seeking_start s chip c a = record { amid = a; still = refl }

-- the answer tells whether the item passes the test: it shows no Channel
as_shown : (chip c : ℕ) (x : Item) → (channel ≡ class_for x → ⊥) → is_histogram chip c x ≡ is_header chip c (shown x)
as_shown chip c (Channel a b d) f = absurd (f refl)
as_shown chip c (Histogram a b d) f = refl
as_shown chip c (HitCount a b d) f = refl
as_shown chip c (Sample v) f = refl
as_shown chip c (Bin b n) f = refl
as_shown chip c (LastCell a b) f = refl
as_shown chip c (TimeBin t) f = refl
as_shown chip c (Text s) f = refl
as_shown chip c (StartEvent t ts n) f = refl
as_shown chip c (ContinueEvent n) f = refl
as_shown chip c (EndEvent n) f = refl

module _ (s : List ℕ) (chip c at : ℕ) (k : Seeking s chip c at) where
  abbrev g : On s at
  g = k.amid.on

  here : (x : Item) (n : ℕ) → Turn s at g x n → past_at (is_histogram chip c) 3 (items_from s 3) ≡ past_at (is_histogram chip c) at (x ∷ items_from s n)
  here x n t = sym k.still ∙ ap (past_at (is_histogram chip c) at) t.split

  past_item : (x : Item) (n : ℕ) → Turn s at g x n → is_histogram chip c x ≡ false → Seeking s chip c n
  past_item x n t f = record { amid = amid_next s monitor_kind at k.amid x n t; still = sym (here x n t ∙ past_miss (is_histogram chip c) at n x _ t.wide f) }

  hit_item : (x : Item) (n : ℕ) → Turn s at g x n → is_histogram chip c x ≡ true → HistogramAt s chip c n
  hit_item x n t f = record { passed = here x n t ∙ past_hit (is_histogram chip c) at n x _ t.wide f; on = t.next }

  none_in_monitor : (x : Item) (n : ℕ) → Turn s at g x n → channel ≡ class_for x → ⊥
  none_in_monitor x n t e =
      true≢false (sym (monitor_place (earlier_then [] g.before) channel (ap (place monitor_kind (earlier_then [] g.before)) e ∙ placed s monitor_kind at k.amid x n t)))

  -- ---- a word that tells it

  module _ (h : at < last_of s) (w : ℕ) (i : w ≡ word_at s at) where
    module _ (l : 0x8000 ≤ w) (y : hi.Histogram) (q : y ≡ histogram_of w) where
      header_turn : Turn s at g (Histogram (word_at s at / 512 % 32) (word_at s at / 128 % 4) (word_at s at % 128)) (at + 1)
      header_turn = histogram_turn s at g h (header_word s at k.amid h w i l)

      fields : (b : Bool) → eqb y.chip chip && eqb y.channel c ≡ b → eqb (word_at s at / 128 % 4) chip && eqb (word_at s at % 128) c ≡ b
      fields b e = ap (λ (v : ℕ). eqb (v / 128 % 4) chip && eqb (v % 128) c) (sym i) ∙ ap (λ (z : hi.Histogram). eqb z.chip chip && eqb z.channel c) (sym q) ∙ e

      pub seeking_header : eqb y.chip chip && eqb y.channel c ≡ false → Seeking s chip c (at + 1)
      seeking_header e = past_item _ (at + 1) header_turn (fields false e)

      pub seeking_hit : eqb y.chip chip && eqb y.channel c ≡ true → HistogramAt s chip c (at + 1)
      seeking_hit e = hit_item _ (at + 1) header_turn (fields true e)

    pub seeking_bin : leb 0x2000 w && ltb w 0x8000 ≡ true → Seeking s chip c (at + 3)
    seeking_bin e =
        past_item _ (at + 3) (bin_turn s at g h (bin_word s at k.amid h w i (ltb-true w 0x8000 (and_right (leb 0x2000 w) (ltb w 0x8000) e)))) refl

  -- ---- an item that the cursor answers

  module _ (z : ItemOf ℕ) (n : ℕ) (r : some (record { item = z; next = n }) ≡ shown_by (standing_at s at)) where
    pub seeking_next : is_header chip c z ≡ false → Seeking s chip c n
    seeking_next e =
        let (x, i, t) = answered s at g z n (sym r) in
        past_item x n t (as_shown chip c x (none_in_monitor x n t) ∙ ap (is_header chip c) i ∙ e)

    pub seeking_found : is_header chip c z ≡ true → HistogramAt s chip c n
    seeking_found e =
        let (x, i, t) = answered s at g z n (sym r) in
        hit_item x n t (as_shown chip c x (none_in_monitor x n t) ∙ ap (is_header chip c) i ∙ e)

  pub seeking_none : last_of s ≤ at → past_at (is_histogram chip c) 3 (items_from s 3) ≡ none
  unfolding past_at
  seeking_none l = sym k.still ∙ ap (past_at (is_histogram chip c) at) (run_out s at g l).0
