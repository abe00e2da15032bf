-- The rules at one item, by their tests: what the functions of src/steps.rt answer is the turn that the state takes.
-- Assumes nothing.
use Prim.Native.Nat.{ℕ, ◌+◌, ◌*◌, ◌-◌, ◌≤◌}
use mathlib.Core.Path.{◌≡◌, refl, sym, ap, ◌∙◌}
use mathlib.Core.Bool.{Bool, true, false, ◌&&◌, ◌||◌, and-true}
use lib.Dec.{leb, eqb}
use borrow.Author.Tests.{leb-true}
use Rattle.format.specs.Words.{pick}
use Rattle.format.specs.Book.{channel, histogram, hit_count, sample, bin, last_cell, time_bin, text, start_event, continue_event, end_event}
use Rattle.format.specs.Items.{Item, Channel, Histogram, HitCount, Sample, Bin, LastCell, TimeBin, StartEvent, class_for, in_range, key, whole}
use Rattle.format.specs.Rules.{ReaderMode, fresh, outside, inside, after_channel, after_time, after_sample, unheaded, headed, commands, allowed, among}
use Rattle.format.specs.Steps.{ReaderState, place_by, sized_by, paused, order_by, marks_start, marks_end, state_after, check_by, Stepped, marked}
use Rattle.rules.specs.Views.{tested, continue_tested, end_tested, text_tested}

-- equal tests give equal answers; the state counts only where the order rule holds
same_tested : (next : ℕ) {p p' v v' o o' : Bool} {s s' : ReaderState} → p ≡ p' → v ≡ v' → o ≡ o' → (o' ≡ true → s ≡ s')
    → marked next (tested p v o s) ≡ marked next (tested p' v' o' s')
same_tested next {p} {p'} {v} {v'} {o} {o'} {s} {s'} a b c d = rw (a, b, c) (go p' v' o' d)
  where
    go : (p v o : Bool) → (o ≡ true → s ≡ s') → marked next (tested p v o s) ≡ marked next (tested p v o s')
    go false v o e = refl
    go true false o e = refl
    go true true false e = refl
    go true true true e = rw (e refl)

same_front : (next : ℕ) (o : Bool) (s : ReaderState) {p p' v v' : Bool} → p ≡ p' → v ≡ v' → marked next (tested p v o s) ≡ marked next (tested p' v' o s)
same_front next o s a b = rw (a, b)

-- the answer to an item that is whole, from the answers to its tests
pub whole_turn : (card at next : ℕ) (st : ReaderState) (x : Item) (r : Stepped) {p v o : Bool} {s : ReaderState} → r ≡ marked next (tested p v o s)
    → p ≡ place_by st (class_for x) → v ≡ in_range card x && sized_by at st x → o ≡ order_by st x → (order_by st x ≡ true → s ≡ state_after at st x)
    → r ≡ marked next (check_by card at st (whole x))
unfolding check_by
whole_turn card at next st x r e p v o s = e ∙ same_tested next p v o s

-- what holds in each place holds in any
pub in_every : (P : ReaderMode → Type 0) → P outside → P inside → P after_channel → P after_time → P after_sample → P unheaded → P headed → P commands → P fresh → (m : ReaderMode) → P m
in_every P a b c d e f g h i outside = a
in_every P a b c d e f g h i inside = b
in_every P a b c d e f g h i after_channel = c
in_every P a b c d e f g h i after_time = d
in_every P a b c d e f g h i after_sample = e
in_every P a b c d e f g h i unheaded = f
in_every P a b c d e f g h i headed = g
in_every P a b c d e f g h i commands = h
in_every P a b c d e f g h i fresh = i

-- Hit count, Last cell and End event stand where a Channel may
pub hit_inside : (m : ReaderMode) → among channel (allowed m) ≡ among hit_count (allowed m)
hit_inside = in_every (λ m. among channel (allowed m) ≡ among hit_count (allowed m)) refl refl refl refl refl refl refl refl refl

pub cell_inside : (m : ReaderMode) → among channel (allowed m) ≡ among last_cell (allowed m)
cell_inside = in_every (λ m. among channel (allowed m) ≡ among last_cell (allowed m)) refl refl refl refl refl refl refl refl refl

pub end_inside : (m : ReaderMode) → among channel (allowed m) ≡ among end_event (allowed m)
end_inside = in_every (λ m. among channel (allowed m) ≡ among end_event (allowed m)) refl refl refl refl refl refl refl refl refl

-- the eleven items, each from the answers to its tests
module _ (next : ℕ) (st : ReaderState) (r : Stepped) where
  pub channel_turn : (card a b c k n : ℕ) {p v : Bool} → k ≡ key a b c → n ≡ pick (eqb st.marks.opener 0 && eqb st.marks.first 0) (k + 1) st.marks.first
      → r ≡ marked next (tested p v (leb st.key k) (record { mode = after_channel; key = k + 1; next = st.next; marks = record { opener = st.marks.opener; first = n; lead = st.marks.lead } }))
      → p ≡ place_by st channel → v ≡ in_range card (Channel a b c) → r ≡ marked next (check_by card 0 st (whole (Channel a b c)))
  channel_turn card a b c k n {p} {v} q m e f g =
      whole_turn card 0 next st (Channel a b c) r (rw (m, q) at e) f (g ∙ sym (and-true _)) refl (λ o. refl)

  pub histogram_turn : (card a b c k : ℕ) {p v : Bool} → k ≡ key a b c
      → r ≡ marked next (tested p v (leb st.key k) (record { mode = headed; key = k + 1; next = 0; marks = st.marks }))
      → p ≡ place_by st histogram → v ≡ in_range card (Histogram a b c) → r ≡ marked next (check_by card 0 st (whole (Histogram a b c)))
  histogram_turn card a b c k {p} {v} q e f g =
      whole_turn card 0 next st (Histogram a b c) r (rw q at e) f (g ∙ sym (and-true _)) refl (λ o. refl)

  pub hit_turn : (card a b c : ℕ) {p v : Bool}
      → r ≡ marked next (tested p v true (record { mode = inside; key = st.key; next = st.next; marks = st.marks }))
      → p ≡ place_by st channel → v ≡ in_range card (HitCount a b c) → r ≡ marked next (check_by card 0 st (whole (HitCount a b c)))
  hit_turn card a b c e f g = whole_turn card 0 next st (HitCount a b c) r e (f ∙ hit_inside st.mode) (g ∙ sym (and-true _)) refl (λ o. refl)

  pub cell_turn : (a b : ℕ) {p v : Bool}
      → r ≡ marked next (tested p v true (record { mode = inside; key = st.key; next = st.next; marks = st.marks }))
      → p ≡ place_by st channel → v ≡ in_range 0 (LastCell a b) → r ≡ marked next (check_by 0 0 st (whole (LastCell a b)))
  cell_turn a b e f g = whole_turn 0 0 next st (LastCell a b) r e (f ∙ cell_inside st.mode) (g ∙ sym (and-true _)) refl (λ o. refl)

  pub time_turn : (t : ℕ) {p v o : Bool}
      → r ≡ marked next (tested p v o (record { mode = after_time; key = st.key; next = t; marks = st.marks }))
      → p ≡ place_by st time_bin → v ≡ in_range 0 (TimeBin t) → o ≡ paused st.mode st.next t → r ≡ marked next (check_by 0 0 st (whole (TimeBin t)))
  time_turn t e f g h = whole_turn 0 0 next st (TimeBin t) r e f (g ∙ sym (and-true _)) h (λ o. refl)

  pub sample_turn : (v n : ℕ) {p w : Bool}
      → (st.next ≤ 511 → n ≡ st.next + 1)
      → r ≡ marked next (tested p w (leb st.next 511) (record { mode = after_sample; key = st.key; next = n; marks = st.marks }))
      → p ≡ place_by st sample → w ≡ in_range 0 (Sample v) → r ≡ marked next (check_by 0 0 st (whole (Sample v)))
  sample_turn v n i e f g =
      whole_turn 0 0 next st (Sample v) r e f (g ∙ sym (and-true _)) refl
      (λ o. ap (λ (m : ℕ). record { mode = after_sample; key = st.key; next = m; marks = st.marks }) (i (leb-true _ _ o)))

  pub bin_turn : (b n : ℕ) {p v : Bool}
      → r ≡ marked next (tested p v (leb st.next b) (record { mode = headed; key = st.key; next = b + 1; marks = st.marks }))
      → p ≡ place_by st bin → v ≡ in_range 0 (Bin b n) → r ≡ marked next (check_by 0 0 st (whole (Bin b n)))
  bin_turn b n e f g = whole_turn 0 0 next st (Bin b n) r e f (g ∙ sym (and-true _)) refl (λ o. refl)

  pub start_turn : (at t ts n : ℕ) {p v : Bool}
      → r ≡ marked next (tested p v true (record { mode = inside; key = 0; next = st.next; marks = marks_start at st.marks }))
      → p ≡ place_by st start_event → v ≡ in_range 0 (StartEvent t ts n) → r ≡ marked next (check_by 0 at st (whole (StartEvent t ts n)))
  start_turn at t ts n e f g = whole_turn 0 at next st (StartEvent t ts n) r e f (g ∙ sym (and-true _)) refl (λ o. refl)

  pub continue_turn : (low : ℕ) {p : Bool}
      → r ≡ marked next (tested p (eqb low 0) true (record { mode = inside; key = st.key; next = st.next; marks = st.marks }))
      → p ≡ place_by st continue_event → r ≡ marked next (continue_tested st low)
  unfolding continue_tested
  continue_turn low e f = e ∙ same_front next true (record { mode = inside; key = st.key; next = st.next; marks = st.marks }) {v = eqb low 0} {v' = eqb low 0} f refl

  pub end_turn : (at size low n : ℕ) {p v : Bool} → n ≡ pick (eqb st.marks.opener 0) at st.marks.lead
      → r ≡ marked next (tested p (eqb low 0 && v) true (record { mode = outside; key = st.key; next = st.next; marks = record { opener = st.marks.opener; first = st.marks.first; lead = n } }))
      → p ≡ place_by st channel → v ≡ eqb st.marks.opener 0 || eqb size (2 * (at - st.marks.opener) + 6) → r ≡ marked next (end_tested at st size low)
  unfolding end_tested
  end_turn at size low n m e f g =
      (rw m at e) ∙ same_front next true (record { mode = outside; key = st.key; next = st.next; marks = marks_end at st.marks }) (f ∙ end_inside st.mode) (ap (λ (b : Bool). eqb low 0 && b) g)

  pub text_turn : (closed : Bool) {p : Bool}
      → r ≡ marked next (tested p closed true (record { mode = commands; key = 0; next = 0; marks = st.marks }))
      → p ≡ place_by st text → r ≡ marked next (text_tested st closed)
  unfolding text_tested
  text_turn closed e f = e ∙ same_front next true (record { mode = commands; key = 0; next = 0; marks = st.marks }) {v = closed} {v' = closed} f refl
