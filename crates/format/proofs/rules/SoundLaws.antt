-- Sound lists in parts, and when an event is open: from a Start or Continue event until the first End event behind it, and only so in a data frame.
-- Assumes nothing.
use Prim.Native.Nat.{ℕ, ◌+◌}
use mathlib.Core.Path.{◌≡◌, refl, sym, ap, ◌∙◌}
use mathlib.Core.List.{List, [], ◌∷◌, ◌++◌}
use mathlib.Core.Bool.{Bool, true, false, ◌||◌, true≢false}
use native.Mathlib.Omega.{arith}
use lib.ListN.{length, length-append}
use borrow.Author.Tests.{le-leb}
use Rattle.format.specs.Words.{pick}
use Rattle.format.specs.Book.{Class, channel, histogram, hit_count, sample, bin, last_cell, time_bin, data_frame, monitor_frame, command_frame, text, start_event, continue_event, end_event, frame_end, unassigned}
use Rattle.format.specs.Items.{Item, Channel, Histogram, HitCount, Sample, Bin, LastCell, TimeBin, Text, StartEvent, ContinueEvent, EndEvent, class_for, words_of}
use Rattle.format.specs.Rules.{Kind, data_kind, monitor_kind, command_kind, same, since, count, has, latest, total, in_event, openers, begun, between_events, inside_after, headed, unheaded, allowed, among, place}
use Rattle.format.specs.Frames.{Allowed, Sound, earlier_then, all_words}
use Rattle.format.specs.Questions.{opens, end_size}

-- 1 where the test holds
abbrev pub tally : Bool → ℕ
tally b = pick b 1 0

pub tally_zero : (b : Bool) → tally b ≡ 0 → b ≡ false
tally_zero true e = absurd (omega arith)
tally_zero false e = refl

-- ---- lists in parts

pub behind_append : (p xs ys : List Item) → earlier_then p (xs ++ ys) ≡ earlier_then (earlier_then p xs) ys
unfolding earlier_then
behind_append p [] ys = refl
behind_append p (x ∷ xs) ys = behind_append (x ∷ p) xs ys

pub count_append : (c : Class) (xs ys : List Item) → count c (xs ++ ys) ≡ count c xs + count c ys
unfolding count
count_append c [] ys = omega arith
count_append c (x ∷ xs) ys = omega (arith, count_append c xs ys)

module _ (kind : Kind) (card : ℕ) where
  pub sound_left : (p xs ys : List Item) → Sound kind card p (xs ++ ys) → Sound kind card p xs
  unfolding Sound
  sound_left p [] ys s = tt
  sound_left p (x ∷ xs) ys s = (s.0, sound_left (x ∷ p) xs ys s.1)

  pub sound_right : (p xs ys : List Item) → Sound kind card p (xs ++ ys) → Sound kind card (earlier_then p xs) ys
  unfolding Sound earlier_then
  sound_right p [] ys s = s
  sound_right p (x ∷ xs) ys s = sound_right (x ∷ p) xs ys s.1

  pub sound_head : (p : List Item) (x : Item) (xs : List Item) → Sound kind card p (x ∷ xs) → Allowed kind card p x
  unfolding Sound
  sound_head p x xs s = s.0

  pub sound_tail : (p : List Item) (x : Item) (xs : List Item) → Sound kind card p (x ∷ xs) → Sound kind card (x ∷ p) xs
  unfolding Sound
  sound_tail p x xs s = s.1

-- ---- an item as events see it

-- opens an event, or goes on with one
pub data Opening (x : Item) : Type 0 where
  starts : (t ts n : ℕ) → x ≡ StartEvent t ts n → Opening x
  continues : (n : ℕ) → x ≡ ContinueEvent n → Opening x

-- neither opens nor ends an event
pub record Plain (x : Item) : Type 0 where
  pub no_start : same start_event (class_for x) ≡ false
  pub no_continue : same continue_event (class_for x) ≡ false
  pub no_end : same end_event (class_for x) ≡ false
  pub no_event : (at : ℕ) (xs : List Item) → opens at x xs ≡ []
  pub no_size : end_size x ≡ []

pub data Seen (x : Item) : Type 0 where
  opening : Opening x → Seen x
  ends : (n : ℕ) → x ≡ EndEvent n → Seen x
  other : Plain x → Seen x

pub seen : (x : Item) → Seen x
seen (Channel a b c) = other (record { no_start = refl; no_continue = refl; no_end = refl; no_event = λ at xs. refl; no_size = refl })
seen (Histogram a b c) = other (record { no_start = refl; no_continue = refl; no_end = refl; no_event = λ at xs. refl; no_size = refl })
seen (HitCount a b c) = other (record { no_start = refl; no_continue = refl; no_end = refl; no_event = λ at xs. refl; no_size = refl })
seen (Sample v) = other (record { no_start = refl; no_continue = refl; no_end = refl; no_event = λ at xs. refl; no_size = refl })
seen (Bin b n) = other (record { no_start = refl; no_continue = refl; no_end = refl; no_event = λ at xs. refl; no_size = refl })
seen (LastCell a b) = other (record { no_start = refl; no_continue = refl; no_end = refl; no_event = λ at xs. refl; no_size = refl })
seen (TimeBin t) = other (record { no_start = refl; no_continue = refl; no_end = refl; no_event = λ at xs. refl; no_size = refl })
seen (Text s) = other (record { no_start = refl; no_continue = refl; no_end = refl; no_event = λ at xs. refl; no_size = refl })
seen (StartEvent t ts n) = opening (starts t ts n refl)
seen (ContinueEvent n) = opening (continues n refl)
seen (EndEvent n) = ends n refl

-- an item that opens counts as one
pub opening_one : (x : Item) → Opening x → tally (same start_event (class_for x)) + tally (same continue_event (class_for x)) ≡ 1
opening_one x (starts t ts n e) = rw e
opening_one x (continues n e) = rw e

pub opening_no_end : (x : Item) → Opening x → same end_event (class_for x) ≡ false
opening_no_end x (starts t ts n e) = rw e
opening_no_end x (continues n e) = rw e

-- ---- when an event is open

pub open_nil : in_event [] ≡ false
unfolding since count
open_nil = refl

pub open_opening : (x : Item) (p : List Item) → Opening x → in_event (x ∷ p) ≡ true
unfolding since count
open_opening x p h =
    rw (opening_no_end x h)
    (le-leb 1 ((tally (same start_event (class_for x)) + count start_event (since end_event p)) + (tally (same continue_event (class_for x)) + count continue_event (since end_event p))) (omega (arith, opening_one x h)))

pub open_end : (n : ℕ) (p : List Item) → in_event (EndEvent n ∷ p) ≡ false
unfolding since count
open_end n p = refl

pub open_other : (x : Item) (p : List Item) → Plain x → in_event (x ∷ p) ≡ in_event p
unfolding since count
open_other x p h =
    let z : (0 + count start_event (since end_event p)) + (0 + count continue_event (since end_event p)) ≡ openers (since end_event p) = omega arith in
    rw (h.no_end, h.no_start, h.no_continue, z)

-- the places of a Start event and of an End event
no_start_within : (c : Class) → among start_event (allowed (inside_after c)) ≡ false
no_start_within channel = refl
no_start_within histogram = refl
no_start_within hit_count = refl
no_start_within sample = refl
no_start_within bin = refl
no_start_within last_cell = refl
no_start_within time_bin = refl
no_start_within data_frame = refl
no_start_within monitor_frame = refl
no_start_within command_frame = refl
no_start_within text = refl
no_start_within start_event = refl
no_start_within continue_event = refl
no_start_within end_event = refl
no_start_within frame_end = refl
no_start_within unassigned = refl

no_continue_within : (c : Class) → among continue_event (allowed (inside_after c)) ≡ false
no_continue_within channel = refl
no_continue_within histogram = refl
no_continue_within hit_count = refl
no_continue_within sample = refl
no_continue_within bin = refl
no_continue_within last_cell = refl
no_continue_within time_bin = refl
no_continue_within data_frame = refl
no_continue_within monitor_frame = refl
no_continue_within command_frame = refl
no_continue_within text = refl
no_continue_within start_event = refl
no_continue_within continue_event = refl
no_continue_within end_event = refl
no_continue_within frame_end = refl
no_continue_within unassigned = refl

-- in a monitor frame only these two classes have a place
pub monitor_place : (p : List Item) (c : Class) → place monitor_kind p c ≡ true → same c histogram || same c bin ≡ true
monitor_place p c e = go (same histogram (latest p) || same bin (latest p)) e
  where
    go : (b : Bool) → among c (allowed (pick b headed unheaded)) ≡ true → same c histogram || same c bin ≡ true
    go true f = orr (same c histogram) (same c bin) f
      where
        orr : (a b : Bool) → a || (b || false) ≡ true → a || b ≡ true
        orr true b g = refl
        orr false true g = refl
        orr false false g = g
    go false f = orr (same c histogram) (same c bin) f
      where
        orr : (a b : Bool) → a || false ≡ true → a || b ≡ true
        orr true b g = refl
        orr false b g = absurd (true≢false (sym g))

pub start_place : (kind : Kind) (p : List Item) → place kind p start_event ≡ true → (kind ≡ data_kind) × (in_event p ≡ false)
start_place data_kind p e = (refl, go (in_event p) e)
  where
    go : (b : Bool) → among start_event (allowed (pick b (inside_after (latest p)) (between_events p))) ≡ true → b ≡ false
    go true f = absurd (true≢false (sym f ∙ no_start_within (latest p)))
    go false f = refl
start_place monitor_kind p e = absurd (true≢false (sym (monitor_place p start_event e)))
start_place command_kind p e = absurd (true≢false (sym e))

-- a Continue event is the first item
pub continue_place : (kind : Kind) (p : List Item) → place kind p continue_event ≡ true → (kind ≡ data_kind) × (p ≡ [])
continue_place data_kind p e = (refl, go (in_event p) p e)
  where
    go : (b : Bool) (q : List Item) → among continue_event (allowed (pick b (inside_after (latest p)) (between_events q))) ≡ true → q ≡ []
    go true q f = absurd (true≢false (sym f ∙ no_continue_within (latest p)))
    go false [] f = refl
    go false (x ∷ q) f = absurd (true≢false (sym f))
continue_place monitor_kind p e = absurd (true≢false (sym (monitor_place p continue_event e)))
continue_place command_kind p e = absurd (true≢false (sym e))

pub opening_place : (kind : Kind) (p : List Item) (x : Item) → Opening x → place kind p (class_for x) ≡ true → (kind ≡ data_kind) × (in_event p ≡ false)
opening_place kind p x (starts t ts n e) h = start_place kind p (ap (λ (y : Item). place kind p (class_for y)) (sym e) ∙ h)
opening_place kind p x (continues n e) h =
    let (d, m) = continue_place kind p (ap (λ (y : Item). place kind p (class_for y)) (sym e) ∙ h) in
    (d, ap (λ (q : List Item). in_event q) m ∙ open_nil)

-- a class of no header, text or opener stands inside an event only
pub inside_place : (kind : Kind) (p : List Item) (c : Class) → same c start_event ≡ false → same c continue_event ≡ false → same c histogram || same c bin ≡ false → same c text ≡ false
    → place kind p c ≡ true → (kind ≡ data_kind) × (in_event p ≡ true)
inside_place data_kind p c s n h t e = (refl, go (in_event p) p e)
  where
    go : (b : Bool) (q : List Item) → among c (allowed (pick b (inside_after (latest p)) (between_events q))) ≡ true → b ≡ true
    go true q f = refl
    go false [] f = absurd (true≢false (sym f ∙ rw (s, n)))
    go false (x ∷ q) f = absurd (true≢false (sym f ∙ rw s))
inside_place monitor_kind p c s n h t e = absurd (true≢false (sym (monitor_place p c e) ∙ h))
inside_place command_kind p c s n h t e = absurd (true≢false (sym e ∙ rw t))

pub end_place : (kind : Kind) (p : List Item) → place kind p end_event ≡ true → (kind ≡ data_kind) × (in_event p ≡ true)
end_place kind p e = inside_place kind p end_event refl refl refl refl e

-- an open event stays open until an End event
pub stays_open : (p xs : List Item) → in_event p ≡ true → count end_event xs ≡ 0 → in_event (earlier_then p xs) ≡ true
unfolding earlier_then count
stays_open p [] o n = o
stays_open p (x ∷ xs) o n = stays_open (x ∷ p) xs (go (seen x)) (omega arith)
  where
    go : Seen x → in_event (x ∷ p) ≡ true
    go (opening h) = open_opening x p h
    go (ends k e) = let m : tally (same end_event (class_for x)) ≡ 1 = rw e in absurd (omega arith)
    go (other h) = open_other x p h ∙ o

module _ (kind : Kind) (card : ℕ) where
  -- each Start event opens one, a Continue event goes on with one, each End event closes one
  pub balance : (p xs : List Item) → Sound kind card p xs → openers xs + tally (in_event p) ≡ count end_event xs + tally (in_event (earlier_then p xs))
  unfolding Sound earlier_then count
  balance p [] s = refl
  balance p (x ∷ xs) s = go (seen x) (balance (x ∷ p) xs s.1)
    where
      last : ℕ
      last = tally (in_event (earlier_then (x ∷ p) xs))

      go : Seen x → openers xs + tally (in_event (x ∷ p)) ≡ count end_event xs + last
          → (tally (same start_event (class_for x)) + count start_event xs) + (tally (same continue_event (class_for x)) + count continue_event xs) + tally (in_event p)
          ≡ tally (same end_event (class_for x)) + count end_event xs + last
      go (opening q) h =
          let o : tally (in_event (x ∷ p)) ≡ 1 = ap (λ (b : Bool). tally b) (open_opening x p q) in
          let c : tally (in_event p) ≡ 0 = ap (λ (b : Bool). tally b) (opening_place kind p x q s.0.placed).1 in
          let b : tally (same end_event (class_for x)) ≡ 0 = rw (opening_no_end x q) in
          omega (arith, opening_one x q)
      go (ends n e) h =
          let o : tally (in_event (x ∷ p)) ≡ 0 = ap (λ (b : Bool). tally b) (ap (λ (y : Item). in_event (y ∷ p)) e ∙ open_end n p) in
          let c : tally (in_event p) ≡ 1 = ap (λ (b : Bool). tally b) (end_place kind p (ap (λ (y : Item). place kind p (class_for y)) (sym e) ∙ s.0.placed)).1 in
          let a : tally (same start_event (class_for x)) ≡ 0 = rw e in
          let d : tally (same continue_event (class_for x)) ≡ 0 = rw e in
          let b : tally (same end_event (class_for x)) ≡ 1 = rw e in
          omega arith
      go (other q) h =
          let o : tally (in_event (x ∷ p)) ≡ tally (in_event p) = ap (λ (b : Bool). tally b) (open_other x p q) in
          let a : tally (same start_event (class_for x)) ≡ 0 = rw q.no_start in
          let d : tally (same continue_event (class_for x)) ≡ 0 = rw q.no_continue in
          let b : tally (same end_event (class_for x)) ≡ 0 = rw q.no_end in
          omega arith

  -- no other kind of frame has an event
  pub no_openers : (kind ≡ data_kind → ⊥) → (p xs : List Item) → Sound kind card p xs → openers xs ≡ 0
  unfolding Sound count
  no_openers d p [] s = refl
  no_openers d p (x ∷ xs) s = go (seen x) (no_openers d (x ∷ p) xs s.1)
    where
      go : Seen x → openers xs ≡ 0 → (tally (same start_event (class_for x)) + count start_event xs) + (tally (same continue_event (class_for x)) + count continue_event xs) ≡ 0
      go (opening q) h = absurd (d (opening_place kind p x q s.0.placed).0)
      go (ends n e) h =
          let a : tally (same start_event (class_for x)) ≡ 0 = rw e in
          let b : tally (same continue_event (class_for x)) ≡ 0 = rw e in
          omega arith
      go (other q) h =
          let a : tally (same start_event (class_for x)) ≡ 0 = rw q.no_start in
          let b : tally (same continue_event (class_for x)) ≡ 0 = rw q.no_continue in
          omega arith

  -- inside an event none is opened
  pub none_opened : (p xs : List Item) → Sound kind card p xs → in_event p ≡ true → count end_event xs ≡ 0 → openers xs ≡ 0
  none_opened p xs s o n =
      let a : tally (in_event p) ≡ 1 = ap (λ (b : Bool). tally b) o in
      let b : tally (in_event (earlier_then p xs)) ≡ 1 = ap (λ (b : Bool). tally b) (stays_open p xs o n) in
      omega (arith, balance p xs s)

-- an event that is open behind a Start event began in this frame
abbrev pub Own : List Item → Type 0
Own p = in_event p ≡ true → has start_event p ≡ begun p

pub own_nil : Own []
unfolding since count
own_nil o = refl

pub own_further : (kind : Kind) (p : List Item) (x : Item) → place kind p (class_for x) ≡ true → Own p → Own (x ∷ p)
unfolding since count
own_further kind p x h w o = go (seen x)
  where
    go : Seen x → has start_event (x ∷ p) ≡ begun (x ∷ p)
    go (opening (starts t ts n e)) =
        rw e (le-leb 1 (1 + count start_event p) (omega arith) ∙ sym (le-leb 1 (1 + count start_event (since end_event p)) (omega arith)))
    go (opening (continues n e)) = rw (e, (continue_place kind p (ap (λ (y : Item). place kind p (class_for y)) (sym e) ∙ h)).1)
    go (ends n e) = absurd (true≢false (sym o ∙ ap (λ (y : Item). in_event (y ∷ p)) e ∙ open_end n p))
    go (other d) =
        let z : 0 + count start_event p ≡ count start_event p = omega arith in
        let y : 0 + count start_event (since end_event p) ≡ count start_event (since end_event p) = omega arith in
        rw (d.no_start, d.no_end, z, y) (w (sym (open_other x p d) ∙ o))

pub own_sound : (kind : Kind) (card : ℕ) (p xs : List Item) → Sound kind card p xs → Own p → Own (earlier_then p xs)
unfolding Sound earlier_then
own_sound kind card p [] s w = w
own_sound kind card p (x ∷ xs) s w = own_sound kind card (x ∷ p) xs s.1 (own_further kind p x s.0.placed w)

-- the words of an event so far: those of its Start event and of what stands behind it
pub total_since : (p xs : List Item) → count start_event xs ≡ 0 → total (since start_event (earlier_then p xs)) ≡ total (since start_event p) + length (all_words xs)
unfolding earlier_then count since total all_words
total_since p [] n = omega arith
total_since p (x ∷ xs) n =
    let a : tally (same start_event (class_for x)) ≡ 0 = omega arith in
    let f : same start_event (class_for x) ≡ false = tally_zero (same start_event (class_for x)) a in
    let h : total (since start_event (x ∷ p)) ≡ length (words_of x) + total (since start_event p) = rw f in
    omega (arith, total_since (x ∷ p) xs (omega arith), length-append (words_of x) (all_words xs))
