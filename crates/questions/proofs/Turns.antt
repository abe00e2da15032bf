-- A turn of a scan over a frame of a known kind. In a data frame a word from 0x0E00 on is an item of one word that begins or ends no event; in a
-- monitor frame a word from 0x8000 on is a Histogram header, and one from 0x2000 on below it a Bin. Each is a case of the one law of a turn.
-- Assumes nothing.
use Prim.Native.Nat.{ℕ, ◌+◌, ◌<◌, ◌≤◌}
use mathlib.Core.Path.{◌≡◌, refl, sym, ap, subst, ◌∙◌}
use mathlib.Core.List.{List, [], ◌∷◌}
use mathlib.Core.Bool.{Bool, true, false, ◌||◌, true≢false}
use mathlib.Core.Option.{none, some}
use native.Mathlib.Omega.{arith}
use lib.ListN.{length}
use Rattle.format.specs.Words.{pick, word_at}
use Rattle.format.specs.Book.{Class, channel, histogram, hit_count, sample, bin, last_cell, time_bin, data_frame, monitor_frame, command_frame, text, start_event, continue_event, end_event, frame_end, unassigned, class_of}
use Rattle.format.specs.Items.{ItemOf, Item, Channel, Histogram, HitCount, Sample, Bin, LastCell, TimeBin, Text, StartEvent, ContinueEvent, EndEvent, class_for, words_of}
use Rattle.format.specs.Rules.{Kind, data_kind, monitor_kind, same, latest, in_event, inside_after, between_events, fresh, outside, inside, after_channel, after_time, after_sample, allowed, among, place}
use Rattle.format.specs.Frames.{Frame, earlier_then, last_of}
use Rattle.format.specs.Steps.{next_at}
use Rattle.format.specs.Cursor.{standing_at, shown_by, On}
use Rattle.format.specs.Questions.{shown}
use Rattle.format.proofs.book.BookLaws.{ranged}
use Rattle.format.proofs.tree.ClassLaws.{same_class}
use Rattle.format.proofs.rules.SoundLaws.{Plain, starts, continues, Seen, opening, ends, other, seen, monitor_place}
use Rattle.format.proofs.reader.CursorLaws.{Turn, turn, on_range, shown_class, answered, nothing_answered}
use Rattle.questions.specs.Sought.{Amid, opens_event, ends_event}

-- ---- what an answer tells of events

told_start : (z : ItemOf ℕ) → same start_event (class_for z) || same continue_event (class_for z) ≡ opens_event z
told_start (Channel a b c) = refl
told_start (Histogram a b c) = refl
told_start (HitCount a b c) = refl
told_start (Sample v) = refl
told_start (Bin b n) = refl
told_start (LastCell a b) = refl
told_start (TimeBin t) = refl
told_start (Text n) = refl
told_start (StartEvent t ts n) = refl
told_start (ContinueEvent n) = refl
told_start (EndEvent n) = refl

told_end : (z : ItemOf ℕ) → same end_event (class_for z) ≡ ends_event z
told_end (Channel a b c) = refl
told_end (Histogram a b c) = refl
told_end (HitCount a b c) = refl
told_end (Sample v) = refl
told_end (Bin b n) = refl
told_end (LastCell a b) = refl
told_end (TimeBin t) = refl
told_end (Text n) = refl
told_end (StartEvent t ts n) = refl
told_end (ContinueEvent n) = refl
told_end (EndEvent n) = refl

-- the answer z shows the item x
pub opens_shown : (x : Item) (z : ItemOf ℕ) → shown x ≡ z → same start_event (class_for x) || same continue_event (class_for x) ≡ opens_event z
opens_shown x z i = ap (λ (c : Class). same start_event c || same continue_event c) (sym (shown_class x) ∙ ap (λ (y : ItemOf ℕ). class_for y) i) ∙ told_start z

pub ends_shown : (x : Item) (z : ItemOf ℕ) → shown x ≡ z → same end_event (class_for x) ≡ ends_event z
ends_shown x z i = ap (same end_event) (sym (shown_class x) ∙ ap (λ (y : ItemOf ℕ). class_for y) i) ∙ told_end z

-- ---- a class that has no place in a data frame

module _ (d : Class) (i : among d (allowed inside) ≡ false) (c : among d (allowed after_channel) ≡ false) (t : among d (allowed after_time) ≡ false)
    (m : among d (allowed after_sample) ≡ false) where
  never_within : (k : Class) → among d (allowed (inside_after k)) ≡ false
  never_within channel = c
  never_within histogram = i
  never_within hit_count = i
  never_within sample = m
  never_within bin = i
  never_within last_cell = i
  never_within time_bin = t
  never_within data_frame = i
  never_within monitor_frame = i
  never_within command_frame = i
  never_within text = i
  never_within start_event = i
  never_within continue_event = i
  never_within end_event = i
  never_within frame_end = i
  never_within unassigned = i

  pub never_in_data : among d (allowed outside) ≡ false → among d (allowed fresh) ≡ false → (p : List Item) → place data_kind p d ≡ true → ⊥
  never_in_data o n p e = go (in_event p) p e
    where
      go : (b : Bool) (q : List Item) → among d (allowed (pick b (inside_after (latest p)) (between_events q))) ≡ true → ⊥
      go true q f = true≢false (sym f ∙ never_within (latest p))
      go false [] f = true≢false (sym f ∙ n)
      go false (x ∷ q) f = true≢false (sym f ∙ o)

pub plain : (x : Item) → same start_event (class_for x) ≡ false → same continue_event (class_for x) ≡ false → same end_event (class_for x) ≡ false → Plain x
plain x a c b = go (seen x)
  where
    go : Seen x → Plain x
    go (opening (starts t ts n e)) = absurd (true≢false (ap (λ (y : Item). same start_event (class_for y)) (sym e) ∙ a))
    go (opening (continues n e)) = absurd (true≢false (ap (λ (y : Item). same continue_event (class_for y)) (sym e) ∙ c))
    go (ends n e) = absurd (true≢false (ap (λ (y : Item). same end_event (class_for y)) (sym e) ∙ b))
    go (other q) = q

module _ (s : List ℕ) (kind : Kind) (at : ℕ) (a : Amid s kind at) where
  pub amid_range : (3 ≤ at) × (at ≤ last_of s)
  amid_range = on_range s at a.on

  -- the frame's kind is still the same behind the item
  pub amid_next : (x : Item) (n : ℕ) → Turn s at a.on x n → Amid s kind n
  amid_next x n t = record { on = t.next; kind_is = ap (λ (f : Frame). f.kind) t.same_frame ∙ a.kind_is }

  pub placed : (x : Item) (n : ℕ) → Turn s at a.on x n → place kind (earlier_then [] a.on.before) (class_for x) ≡ true
  placed x n t = ap (λ (k : Kind). place k (earlier_then [] a.on.before) (class_for x)) (sym a.kind_is) ∙ t.allowed.placed

-- ---- a word of a data frame

-- an item of one word that neither starts nor ends an event
pub record One (s : List ℕ) (at : ℕ) (g : On s at) : Type 0 where
  pub x : Item
  pub plain : Plain x
  pub turn : Turn s at g x (at + 1)

module _ (s : List ℕ) (at : ℕ) (a : Amid s data_kind at) (h : at < last_of s) (w : ℕ) (e : w ≡ word_at s at) (l : 0x0E00 ≤ w) where
  pub one_turn : One s at a.on
  unfolding words_of
  one_turn = let (x, t) = turn s at a.on h in go x t
    where
      one : (x : Item) → same start_event (class_for x) ≡ false → same continue_event (class_for x) ≡ false → same end_event (class_for x) ≡ false → length (words_of x) ≡ 1
          → Turn s at a.on x (next_at s at) → One s at a.on
      one x b d c n t =
          let v = t.wide in
          let m : next_at s at ≡ at + 1 = omega arith in
          record { x = x; plain = plain x b d c; turn = subst (λ (i : ℕ). Turn s at a.on x i) m t }

      no : (x : Item) (c : Class) → class_for x ≡ c → Turn s at a.on x (next_at s at)
          → ((p : List Item) → place data_kind p c ≡ true → ⊥) → One s at a.on
      no x c k t f = absurd (f (earlier_then [] a.on.before) (ap (place data_kind (earlier_then [] a.on.before)) (sym k) ∙ placed s data_kind at a x (next_at s at) t))

      go : (x : Item) → Turn s at a.on x (next_at s at) → One s at a.on
      go (Channel b c d) t = one (Channel b c d) refl refl refl refl t
      go (Histogram b c d) t = no (Histogram b c d) histogram refl t (never_in_data histogram refl refl refl refl refl refl)
      go (HitCount b c d) t = one (HitCount b c d) refl refl refl refl t
      go (Sample v) t = one (Sample v) refl refl refl refl t
      go (Bin b n) t = no (Bin b n) bin refl t (never_in_data bin refl refl refl refl refl refl)
      go (LastCell b c) t = one (LastCell b c) refl refl refl refl t
      go (TimeBin u) t = one (TimeBin u) refl refl refl refl t
      go (Text b) t = no (Text b) text refl t (never_in_data text refl refl refl refl refl refl)
      go (StartEvent k ts n) t = let (i, j) = ranged (word_at s at) start_event (sym t.class) refl in absurd (omega arith)
      go (ContinueEvent n) t = let (i, j) = ranged (word_at s at) continue_event (sym t.class) refl in absurd (omega arith)
      go (EndEvent n) t = let (i, j) = ranged (word_at s at) end_event (sym t.class) refl in absurd (omega arith)

-- ---- a word of a monitor frame

data Which (c : Class) : Type 0 where
  header : c ≡ histogram → Which c
  counted : c ≡ bin → Which c

which : (c : Class) → same c histogram || same c bin ≡ true → Which c
which c e = go (same c histogram) refl
  where
    go : (b : Bool) → same c histogram ≡ b → Which c
    go true f = header (same_class c histogram f)
    go false f = counted (same_class c bin (ap (λ (b : Bool). b || same c bin) (sym f) ∙ e))

module _ (s : List ℕ) (at : ℕ) (a : Amid s monitor_kind at) (h : at < last_of s) (w : ℕ) (e : w ≡ word_at s at) where
  kinds : Which (class_of (word_at s at))
  kinds =
      let (x, t) = turn s at a.on h in
      subst Which t.class (which (class_for x) (monitor_place (earlier_then [] a.on.before) (class_for x) (placed s monitor_kind at a x (next_at s at) t)))

  pub header_word : 0x8000 ≤ w → histogram ≡ class_of (word_at s at)
  header_word l = go kinds
    where
      go : Which (class_of (word_at s at)) → histogram ≡ class_of (word_at s at)
      go (header k) = sym k
      go (counted k) = let (i, j) = ranged (word_at s at) bin k refl in absurd (omega arith)

  pub bin_word : w < 0x8000 → bin ≡ class_of (word_at s at)
  bin_word l = go kinds
    where
      go : Which (class_of (word_at s at)) → bin ≡ class_of (word_at s at)
      go (header k) = let (i, j) = ranged (word_at s at) histogram k refl in absurd (omega arith)
      go (counted k) = sym k

-- ---- an item that the cursor answers lies further on, and in an accepted frame it answers one

module _ (s : List ℕ) (kind : Kind) (at : ℕ) (a : Amid s kind at) where
  pub next_further : (z : ItemOf ℕ) (n : ℕ) → some (record { item = z; next = n }) ≡ shown_by (standing_at s at) → (at < n) × (n ≤ last_of s)
  next_further z n r = let (x, i, t) = answered s at a.on z n (sym r) in (t.further, t.within)

  pub nothing_there : {A : Type 0} → at < last_of s → none ≡ shown_by (standing_at s at) → A
  nothing_there h r = absurd (nothing_answered s at a.on h (sym r))
