-- An item whose class is among some classes is an item of one of them.
-- Assumes nothing.
use Prim.Native.Nat.{ℕ}
use mathlib.Core.Path.{◌≡◌, refl, sym, ap, subst, ◌∙◌}
use mathlib.Core.List.{List, [], ◌∷◌}
use mathlib.Core.Bool.{Bool, true, false, ◌||◌, true≢false}
use mathlib.Core.Logic.{◌⊎◌, inl, inr}
use lib.ListN.{get_or}
use borrow.Author.Tests.{eqb-true}
use Rattle.format.specs.Book.{Class, channel, histogram, hit_count, sample, bin, last_cell, time_bin, data_frame, monitor_frame, command_frame, text, start_event, continue_event, end_event, frame_end, unassigned, row_of}
use Rattle.format.specs.Items.{Item, Channel, Histogram, HitCount, Sample, Bin, LastCell, TimeBin, Text, StartEvent, ContinueEvent, EndEvent, class_for}
use Rattle.format.specs.Rules.{same, among}

-- the item is of the class
pub data Is : Class → Item → Type 0 where
  is_channel : (a b c : ℕ) → Is channel (Channel a b c)
  is_histogram : (a b c : ℕ) → Is histogram (Histogram a b c)
  is_hit_count : (a b c : ℕ) → Is hit_count (HitCount a b c)
  is_sample : (v : ℕ) → Is sample (Sample v)
  is_bin : (b n : ℕ) → Is bin (Bin b n)
  is_last_cell : (a b : ℕ) → Is last_cell (LastCell a b)
  is_time_bin : (t : ℕ) → Is time_bin (TimeBin t)
  is_text : (s : List ℕ) → Is text (Text s)
  is_start_event : (t ts n : ℕ) → Is start_event (StartEvent t ts n)
  is_continue_event : (n : ℕ) → Is continue_event (ContinueEvent n)
  is_end_event : (z : ℕ) → Is end_event (EndEvent z)

its_own : (x : Item) → Is (class_for x) x
its_own (Channel a b c) = is_channel a b c
its_own (Histogram a b c) = is_histogram a b c
its_own (HitCount a b c) = is_hit_count a b c
its_own (Sample v) = is_sample v
its_own (Bin b n) = is_bin b n
its_own (LastCell a b) = is_last_cell a b
its_own (TimeBin t) = is_time_bin t
its_own (Text s) = is_text s
its_own (StartEvent t ts n) = is_start_event t ts n
its_own (ContinueEvent z) = is_continue_event z
its_own (EndEvent z) = is_end_event z

-- the class of a row
abbrev class_at : ℕ → Class
class_at n =
    get_or
    (unassigned ∷ channel ∷ histogram ∷ hit_count ∷ sample ∷ bin ∷ last_cell ∷ time_bin ∷ data_frame ∷ monitor_frame ∷ command_frame ∷ text ∷ start_event
    ∷ end_event ∷ frame_end ∷ continue_event ∷ []) n unassigned

row_back : (c : Class) → class_at (row_of c) ≡ c
row_back channel = refl
row_back histogram = refl
row_back hit_count = refl
row_back sample = refl
row_back bin = refl
row_back last_cell = refl
row_back time_bin = refl
row_back data_frame = refl
row_back monitor_frame = refl
row_back command_frame = refl
row_back text = refl
row_back start_event = refl
row_back continue_event = refl
row_back end_event = refl
row_back frame_end = refl
row_back unassigned = refl

pub same_class : (c d : Class) → same c d ≡ true → c ≡ d
same_class c d e = sym (row_back c) ∙ ap class_at (eqb-true (row_of c) (row_of d) e) ∙ row_back d

-- the item is of one of the classes
abbrev pub OneOf : List Class → Item → Type 0
OneOf [] x = ⊥
OneOf (d ∷ ds) x = Is d x ⊎ OneOf ds x

pub one_of : (ds : List Class) (x : Item) → among (class_for x) ds ≡ true → OneOf ds x
one_of [] x e = true≢false (sym e)
one_of (d ∷ ds) x e = go (same (class_for x) d) refl e (one_of ds x)
  where
    go : (b : Bool) → same (class_for x) d ≡ b → b || among (class_for x) ds ≡ true → (among (class_for x) ds ≡ true → OneOf ds x) → Is d x ⊎ OneOf ds x
    go true f g h = inl (subst (λ (c : Class). Is c x) (same_class (class_for x) d f) (its_own x))
    go false f g h = inr (h g)
