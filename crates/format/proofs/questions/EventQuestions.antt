-- T12. The e-th event of an accepted frame is the e-th item that opens one, a Start or a leading Continue event, and the first End event behind it.
-- Assumes nothing.
use Prim.Native.Nat.{ℕ, zero, suc, ◌+◌, ◌*◌, ◌<◌, ◌≤◌}
use mathlib.Core.Path.{◌≡◌, refl, sym, ap, subst, ◌∙◌}
use mathlib.Core.List.{List, [], ◌∷◌, ◌++◌, append-nil}
use mathlib.Core.Logic.{◌↔◌}
use mathlib.Core.Bool.{Bool, true, false}
use mathlib.Core.Option.{Option, none, some}
use native.Mathlib.Omega.{arith}
use lib.Dec.{leb}
use lib.ListN.{length, length-append}
use borrow.Author.Tests.{leb-true, leb-false, le-leb, eqb-true}
use Rattle.format.specs.Words.{Bytes}
use Rattle.format.specs.Answers.{Outcome, accepted, refused, and_then}
use Rattle.format.specs.Book.{start_event, continue_event, end_event}
use Rattle.format.specs.Items.{Item, Channel, Histogram, HitCount, Sample, Bin, LastCell, TimeBin, Text, StartEvent, ContinueEvent, EndEvent, class_for, words_of, in_range}
use Rattle.format.specs.Rules.{Kind, data_kind, same, since, count, total, gather, openers, in_event, begun as began, event_size, sized}
use Rattle.format.specs.Frames.{Frame, Sound, earlier_then, all_words, verdict}
use Rattle.format.specs.Questions.{Began, Event, Opened, opens, end_size, head_of, events, pick_nth, present, event_at}
use Rattle.format.specs.Stands.{Opener, Closing, ends_with, goes_on, EventIn}
use Rattle.format.proofs.book.PrefixLaws.{and_right}
use Rattle.format.proofs.verdict.Acceptance.{exactly}
use Rattle.format.proofs.rules.SoundLaws.{tally, tally_zero, sound_left, sound_right, sound_head, sound_tail, Opening, starts, continues, Seen, opening, ends, other, seen, opening_one, opening_no_end, open_nil, open_opening, balance, no_openers, none_opened, total_since}
use Rattle.format.proofs.questions.ItemQuestions.{no_some, some_is, picked, unpicked, all_words_lem}

index_nil : (at : ℕ) → at ≡ at + length (all_words [])
unfolding all_words
index_nil at = omega arith

none_open : openers [] ≡ 0
unfolding count
none_open = refl

-- ---- the events of a list, an item at a time

-- what an item at word `at` opens
abbrev pub opened : ℕ → (x : Item) → Opening x → List Item → Opened
opened at x (starts t ts n i) xs = record { event = record { began = some (record { kind = t; timestamp = ts }); number = n; size = head_of (gather end_size xs); index = at }; items = xs; inside = at + 6 }
opened at x (continues n i) xs = record { event = record { began = none; number = n; size = head_of (gather end_size xs); index = at }; items = xs; inside = at + 3 }

opens_one : (at : ℕ) (x : Item) (h : Opening x) (xs : List Item) → opens at x xs ≡ opened at x h xs ∷ []
opens_one at x (starts t ts n i) xs = ap (λ (y : Item). opens at y xs) i
opens_one at x (continues n i) xs = ap (λ (y : Item). opens at y xs) i

-- the item and its event
opened_by : (at : ℕ) (x : Item) (h : Opening x) (xs : List Item) → Opener x (opened at x h xs).event
opened_by at x (starts t ts n i) xs = subst (λ (y : Item). Opener y (opened at x (starts t ts n i) xs).event) (sym i) (refl, refl)
opened_by at x (continues n i) xs = subst (λ (y : Item). Opener y (opened at x (continues n i) xs).event) (sym i) (refl, refl)

opened_size : (at : ℕ) (x : Item) (h : Opening x) (xs : List Item) → (opened at x h xs).event.size ≡ head_of (gather end_size xs)
opened_size at x (starts t ts n i) xs = refl
opened_size at x (continues n i) xs = refl

opened_index : (at : ℕ) (x : Item) (h : Opening x) (xs : List Item) → (opened at x h xs).event.index ≡ at
opened_index at x (starts t ts n i) xs = refl
opened_index at x (continues n i) xs = refl

opened_items : (at : ℕ) (x : Item) (h : Opening x) (xs : List Item) → (opened at x h xs).items ≡ xs
opened_items at x (starts t ts n i) xs = refl
opened_items at x (continues n i) xs = refl

-- what stands behind the item that opens it begins behind that item's words
opened_inside : (at : ℕ) (x : Item) (h : Opening x) (xs : List Item) → (opened at x h xs).inside ≡ at + length (words_of x)
unfolding words_of
opened_inside at x (starts t ts n i) xs = ap (λ (y : Item). at + length (words_of y)) (sym i)
opened_inside at x (continues n i) xs = ap (λ (y : Item). at + length (words_of y)) (sym i)

-- the event is told by the item that opens it, its size and its index
opened_is : (at : ℕ) (x : Item) (h : Opening x) (xs : List Item) (w : Event) → Opener x w → head_of (gather end_size xs) ≡ w.size → at ≡ w.index → (opened at x h xs).event ≡ w
opened_is at x (starts t ts n i) xs w o e f =
    let (a, c) = subst (λ (y : Item). Opener y w) i o in
    λ j. record { began = sym a j; number = sym c j; size = e j; index = f j }
opened_is at x (continues n i) xs w o e f =
    let (a, c) = subst (λ (y : Item). Opener y w) i o in
    λ j. record { began = sym a j; number = sym c j; size = e j; index = f j }

pub opening_of : (x : Item) (w : Event) → Opener x w → Opening x
opening_of (Channel a b c) w o = absurd o
opening_of (Histogram a b c) w o = absurd o
opening_of (HitCount a b c) w o = absurd o
opening_of (Sample v) w o = absurd o
opening_of (Bin b n) w o = absurd o
opening_of (LastCell a b) w o = absurd o
opening_of (TimeBin t) w o = absurd o
opening_of (Text s) w o = absurd o
opening_of (StartEvent t ts n) w o = starts t ts n refl
opening_of (ContinueEvent n) w o = continues n refl
opening_of (EndEvent n) w o = absurd o

-- how many an item opens
opens_count : (at : ℕ) (x : Item) (xs : List Item) → length (opens at x xs) ≡ tally (same start_event (class_for x)) + tally (same continue_event (class_for x))
opens_count at x xs = go (seen x)
  where
    go : Seen x → length (opens at x xs) ≡ tally (same start_event (class_for x)) + tally (same continue_event (class_for x))
    go (opening h) = ap length (opens_one at x h xs) ∙ sym (opening_one x h)
    go (ends n e) = rw e
    go (other q) = rw (q.no_event, q.no_start, q.no_continue)

-- there are as many as items that open one
events_count : (at : ℕ) (xs : List Item) → length (events at xs) ≡ openers xs
unfolding events count
events_count at [] = refl
events_count at (x ∷ xs) =
    omega (arith, length-append (opens at x xs) (events (at + length (words_of x)) xs), opens_count at x xs, events_count (at + length (words_of x)) xs)

-- what an event that was found began with
record Begun (at : ℕ) (xs : List Item) (e : ℕ) (o : Opened) : Type 0 where
  before : List Item
  opener : Item
  items : xs ≡ before ++ (opener ∷ o.items)
  opens : Opener opener o.event
  ordinal : openers before ≡ e
  index : o.event.index ≡ at + length (all_words before)
  size : o.event.size ≡ head_of (gather end_size o.items)

-- the same behind one more item
later : (at e e' : ℕ) (x : Item) (xs : List Item) (o : Opened) → tally (same start_event (class_for x)) + tally (same continue_event (class_for x)) + e ≡ e'
    → Begun (at + length (words_of x)) xs e o → Begun at (x ∷ xs) e' o
unfolding count all_words
later at e e' x xs o n b =
    let c = b.ordinal in
    let i = b.index in
    record {
      before = x ∷ b.before;
      opener = b.opener;
      items = ap (λ (l : List Item). x ∷ l) b.items;
      opens = b.opens;
      ordinal = omega arith;
      index = omega (arith, length-append (words_of x) (all_words b.before));
      size = b.size;
    }

-- the event that the e-th pick finds, in the list without the first item
abbrev Behind : ℕ → Item → List Item → Opened → Type 0
Behind at x xs o = (e : ℕ) → pick_nth e (events (at + length (words_of x)) xs) ≡ some o → Begun (at + length (words_of x)) xs e o

begun_opening : (at e : ℕ) (x : Item) (h : Opening x) (xs : List Item) (o : Opened) → Behind at x xs o
    → pick_nth e (opened at x h xs ∷ events (at + length (words_of x)) xs) ≡ some o → Begun at (x ∷ xs) e o
unfolding pick_nth
begun_opening at zero x h xs o b p =
    subst (Begun at (x ∷ xs) 0) (some_is (opened at x h xs) o p)
    (record {
      before = [];
      opener = x;
      items = ap (λ (l : List Item). x ∷ l) (sym (opened_items at x h xs));
      opens = opened_by at x h xs;
      ordinal = none_open;
      index = opened_index at x h xs ∙ index_nil at;
      size = opened_size at x h xs ∙ ap (λ (l : List Item). head_of (gather end_size l)) (sym (opened_items at x h xs));
    })
begun_opening at (suc e) x h xs o b p = later at e (suc e) x xs o (omega (arith, opening_one x h)) (b e p)

begun : (at e : ℕ) (xs : List Item) (o : Opened) → pick_nth e (events at xs) ≡ some o → Begun at xs e o
unfolding events
begun at e [] o h = no_some o (sym (unpicked e [] (omega arith)) ∙ h)
begun at e (x ∷ xs) o h = go (seen x) (λ d. begun (at + length (words_of x)) d xs o) h
  where
    go : Seen x → Behind at x xs o → pick_nth e (opens at x xs ++ events (at + length (words_of x)) xs) ≡ some o → Begun at (x ∷ xs) e o
    go (opening q) b h =
        begun_opening at e x q xs o b (ap (λ (l : List Opened). pick_nth e (l ++ events (at + length (words_of x)) xs)) (sym (opens_one at x q xs)) ∙ h)
    go (ends n i) b h =
        let a : tally (same start_event (class_for x)) ≡ 0 = rw i in
        let c : tally (same continue_event (class_for x)) ≡ 0 = rw i in
        later at e e x xs o (omega arith) (b e (ap (λ (y : Item). pick_nth e (opens at y xs ++ events (at + length (words_of x)) xs)) (sym i) ∙ h))
    go (other q) b h =
        let a : tally (same start_event (class_for x)) ≡ 0 = rw q.no_start in
        let c : tally (same continue_event (class_for x)) ≡ 0 = rw q.no_continue in
        later at e e x xs o (omega arith) (b e (ap (λ (l : List Opened). pick_nth e (l ++ events (at + length (words_of x)) xs)) (sym (q.no_event at xs)) ∙ h))

-- and an item that opens one, with e of them before it, is found by the e-th pick
begins : (at e : ℕ) (before : List Item) (y : Item) (k : Opening y) (xs : List Item) → openers before ≡ e
    → pick_nth e (events at (before ++ (y ∷ xs))) ≡ some (opened (at + length (all_words before)) y k xs)
unfolding events count all_words pick_nth
begins at zero [] y k xs h =
    ap (λ (l : List Opened). pick_nth 0 (l ++ events (at + length (words_of y)) xs)) (opens_one at y k xs) ∙ ap (λ (m : ℕ). some (opened m y k xs)) (index_nil at)
begins at (suc e) [] y k xs h = absurd (omega arith)
begins at e (x ∷ before) y k xs h = go e h (seen x) (λ d. begins (at + length (words_of x)) d before y k xs)
  where
    rest : List Item
    rest = before ++ (y ∷ xs)

    index : at + length (words_of x) + length (all_words before) ≡ at + length (words_of x ++ all_words before)
    index = omega (arith, length-append (words_of x) (all_words before))

    go : (e : ℕ) → (tally (same start_event (class_for x)) + count start_event before) + (tally (same continue_event (class_for x)) + count continue_event before) ≡ e → Seen x
        → ((d : ℕ) → openers before ≡ d
        → pick_nth d (events (at + length (words_of x)) rest) ≡ some (opened (at + length (words_of x) + length (all_words before)) y k xs))
        → pick_nth e (opens at x rest ++ events (at + length (words_of x)) rest) ≡ some (opened (at + length (words_of x ++ all_words before)) y k xs)
    go zero h (opening q) b = absurd (omega (arith, opening_one x q))
    go (suc e) h (opening q) b =
        ap (λ (l : List Opened). pick_nth (suc e) (l ++ events (at + length (words_of x)) rest)) (opens_one at x q rest)
        ∙ b e (omega (arith, opening_one x q)) ∙ ap (λ (m : ℕ). some (opened m y k xs)) index
    go e h (ends n' i) b =
        let a : tally (same start_event (class_for x)) ≡ 0 = rw i in
        let c : tally (same continue_event (class_for x)) ≡ 0 = rw i in
        ap (λ (y : Item). pick_nth e (opens at y rest ++ events (at + length (words_of x)) rest)) i
        ∙ b e (omega arith) ∙ ap (λ (m : ℕ). some (opened m y k xs)) index
    go e h (other q) b =
        let a : tally (same start_event (class_for x)) ≡ 0 = rw q.no_start in
        let c : tally (same continue_event (class_for x)) ≡ 0 = rw q.no_continue in
        ap (λ (l : List Opened). pick_nth e (l ++ events (at + length (words_of x)) rest)) (q.no_event at rest)
        ∙ b e (omega arith) ∙ ap (λ (m : ℕ). some (opened m y k xs)) index

-- ---- the first End event

-- no End event stands in a list, or a first one does
data Ending (xs : List Item) : Type 0 where
  never : count end_event xs ≡ 0 → Ending xs
  at_last : (between : List Item) (m : ℕ) (after : List Item) → xs ≡ between ++ (EndEvent m ∷ after) → count end_event between ≡ 0 → Ending xs

ending : (xs : List Item) → Ending xs
unfolding count
ending [] = never refl
ending (x ∷ xs) = go (seen x) (ending xs)
  where
    one_more : tally (same end_event (class_for x)) ≡ 0 → Ending xs → Ending (x ∷ xs)
    one_more a (never h) = never (omega arith)
    one_more a (at_last b m r e h) = at_last (x ∷ b) m r (ap (λ (l : List Item). x ∷ l) e) (omega arith)

    go : Seen x → Ending xs → Ending (x ∷ xs)
    go (opening q) r = one_more (rw (opening_no_end x q)) r
    go (ends n i) r = at_last [] n xs (ap (λ (y : Item). y ∷ xs) i) refl
    go (other q) r = one_more (rw q.no_end) r

-- its size is the first that the items give
first_size : (between rest : List Item) → count end_event between ≡ 0 → gather end_size (between ++ rest) ≡ gather end_size rest
unfolding count gather
first_size [] rest h = refl
first_size (x ∷ xs) rest h = go (seen x) ∙ first_size xs rest (omega arith)
  where
    more : List ℕ
    more = gather end_size (xs ++ rest)

    go : Seen x → end_size x ++ more ≡ more
    go (opening (starts t ts n i)) = ap (λ (y : Item). end_size y ++ more) i
    go (opening (continues n i)) = ap (λ (y : Item). end_size y ++ more) i
    go (ends n i) = let a : tally (same end_event (class_for x)) ≡ 1 = rw i in absurd (omega arith)
    go (other q) = ap (λ (l : List ℕ). l ++ more) q.no_size

closing_size : (between rest : List Item) (z : Option ℕ) → Closing rest z → count end_event between ≡ 0 → head_of (gather end_size (between ++ rest)) ≡ z
unfolding gather
closing_size between rest z (ends_with m after) h = ap head_of (first_size between rest h)
closing_size between rest z goes_on h = ap head_of (first_size between rest h)

-- ---- T12, of the items of a legal frame

-- what event e of some items answers
abbrev pub event_of : List Item → ℕ → Outcome Event
event_of xs e = and_then (present (pick_nth e (events 3 xs))) (λ o. accepted o.event)

-- an item that opens an event, with e of them before it, and the first End event behind it are event e
pub event_picked : (xs : List Item) (e : ℕ) (v : Event) (h : EventIn xs e v)
    → pick_nth e (events 3 xs) ≡ some (opened (3 + length (all_words h.before)) h.opener (opening_of h.opener v h.opens) (h.between ++ h.rest))
event_picked xs e v h =
    ap (λ (l : List Item). pick_nth e (events 3 l)) h.items
    ∙ begins 3 e h.before h.opener (opening_of h.opener v h.opens) (h.between ++ h.rest) h.ordinal

-- where the items behind it begin
pub picked_inside : (xs : List Item) (e : ℕ) (v : Event) (h : EventIn xs e v) (o : Opened) → pick_nth e (events 3 xs) ≡ some o
    → o.inside ≡ 3 + length (all_words h.before) + length (words_of h.opener)
picked_inside xs e v h o p =
    ap (λ (o : Opened). o.inside) (some_is _ _ (sym p ∙ event_picked xs e v h))
    ∙ opened_inside (3 + length (all_words h.before)) h.opener (opening_of h.opener v h.opens) (h.between ++ h.rest)

event_there : (xs : List Item) (e : ℕ) (v : Event) → EventIn xs e v → event_of xs e ≡ accepted v
event_there xs e v h =
    ap (λ (o : Option Opened). and_then (present o) (λ o. accepted o.event)) (event_picked xs e v h)
    ∙ ap accepted
    (opened_is (3 + length (all_words h.before)) h.opener (opening_of h.opener v h.opens) (h.between ++ h.rest) v h.opens
    (closing_size h.between h.rest v.size h.closing h.ended) (sym h.index))

-- an answer came from a pick
record Answered (xs : List Item) (e : ℕ) (v : Event) : Type 0 where
  found : Opened
  pick : pick_nth e (events 3 xs) ≡ some found
  event : found.event ≡ v

answered : (xs : List Item) (e : ℕ) (v : Event) → event_of xs e ≡ accepted v → Answered xs e v
answered xs e v h = go (pick_nth e (events 3 xs)) refl h
  where
    go : (o : Option Opened) → pick_nth e (events 3 xs) ≡ o → and_then (present o) (λ o. accepted o.event) ≡ accepted v → Answered xs e v
    go none p i = let z : ◌≡◌ {A = ℕ} 0 1 = cc in absurd (omega arith)
    go (some o) p i = record { found = o; pick = p; event = inner o.event v i }
      where
        inner : (a b : Event) → accepted a ≡ accepted b → a ≡ b
        inner a b j = cc

module _ (xs : List Item) where
  found_in : (e : ℕ) (o : Opened) → Begun 3 xs e o → EventIn xs e o.event
  unfolding gather
  found_in e o b = go (ending o.items)
    where
      made : (between rest : List Item) → o.items ≡ between ++ rest → Closing rest o.event.size → count end_event between ≡ 0 → EventIn xs e o.event
      made between rest i c h =
          record {
            before = b.before;
            opener = b.opener;
            between = between;
            rest = rest;
            items = b.items ∙ ap (λ (l : List Item). b.before ++ (b.opener ∷ l)) i;
            opens = b.opens;
            closing = c;
            ordinal = b.ordinal;
            ended = h;
            index = b.index;
          }

      size_of : (between rest : List Item) → o.items ≡ between ++ rest → count end_event between ≡ 0 → head_of (gather end_size rest) ≡ o.event.size
      size_of between rest i h = sym (b.size ∙ ap (λ (l : List Item). head_of (gather end_size l)) i ∙ ap head_of (first_size between rest h))

      go : Ending o.items → EventIn xs e o.event
      go (never h) =
          let i : o.items ≡ o.items ++ [] = sym (append-nil o.items) in
          made o.items [] i (subst (Closing []) (size_of o.items [] i h) goes_on) h
      go (at_last between m after i h) =
          made between (EndEvent m ∷ after) i (subst (Closing (EndEvent m ∷ after)) (size_of between (EndEvent m ∷ after) i h) (ends_with m after)) h

  pub picked_event : (e : ℕ) (o : Opened) → pick_nth e (events 3 xs) ≡ some o → EventIn xs e o.event
  picked_event e o h = found_in e o (begun 3 e xs o h)

  event_in : (e : ℕ) (v : Event) → event_of xs e ≡ accepted v → EventIn xs e v
  event_in e v h = let a = answered xs e v h in subst (EventIn xs e) a.event (picked_event e a.found a.pick)

  pub event_exactly : (e : ℕ) (v : Event) → (event_of xs e ≡ accepted v) ↔ EventIn xs e v
  event_exactly e v = (event_in e v, event_there xs e v)

-- an event that began in the frame goes on so until its End event
stays_begun : (p xs : List Item) → began p ≡ true → count end_event xs ≡ 0 → began (earlier_then p xs) ≡ true
unfolding earlier_then count since
stays_begun p [] o n = o
stays_begun p (x ∷ xs) o n =
    let e : same end_event (class_for x) ≡ false = tally_zero (same end_event (class_for x)) (omega arith) in
    let g : 1 ≤ count start_event (since end_event p) = leb-true 1 (count start_event (since end_event p)) o in
    stays_begun (x ∷ p) xs (rw e (le-leb 1 (tally (same start_event (class_for x)) + count start_event (since end_event p)) (omega arith))) (omega arith)

start_begun : (t ts n : ℕ) (p : List Item) → began (StartEvent t ts n ∷ p) ≡ true
unfolding count since
start_begun t ts n p = le-leb 1 (1 + count start_event (since end_event p)) (omega arith)

module _ (kind : Kind) (card : ℕ) (xs : List Item) (sound : Sound kind card [] xs) where
  -- the items of an event, as they stand in the frame
  pub between_sound : (e : ℕ) (v : Event) (h : EventIn xs e v) → Sound kind card (h.opener ∷ earlier_then [] h.before) (h.between ++ h.rest)
  between_sound e v h =
      sound_tail kind card _ _ _
      (sound_right kind card [] h.before _ (subst (Sound kind card []) h.items sound))

  -- the size of an event that began and ended in this frame is its bytes, from its Start event word to the end of its End event item
  pub event_size_lem : (e : ℕ) (v : Event) (h : EventIn xs e v) (t : Began) (z : ℕ) → v.began ≡ some t → v.size ≡ some z
      → z ≡ 2 * length (all_words (h.opener ∷ (h.between ++ (EndEvent z ∷ []))))
  unfolding all_words words_of since total
  event_size_lem e v h t z k l = at_end h.rest v.size h.closing l (between_sound e v h)
    where
      start_of : (x : Item) → Opener x v → (y : ℕ) × (ts : ℕ) × (n : ℕ) × (x ≡ StartEvent y ts n)
      start_of (StartEvent y ts n) o = (y, ts, n, refl)
      start_of (ContinueEvent n) o = no_some t (sym o.0 ∙ k)
      start_of (Channel a b c) o = absurd o
      start_of (Histogram a b c) o = absurd o
      start_of (HitCount a b c) o = absurd o
      start_of (Sample v) o = absurd o
      start_of (Bin b n) o = absurd o
      start_of (LastCell a b) o = absurd o
      start_of (TimeBin u) o = absurd o
      start_of (Text s) o = absurd o
      start_of (EndEvent n) o = absurd o

      q : List Item
      q = h.opener ∷ earlier_then [] h.before

      whole : (z' : ℕ) (after : List Item) → Sound kind card q (h.between ++ (EndEvent z' ∷ after)) → z' ≡ 2 * length (all_words (h.opener ∷ (h.between ++ (EndEvent z' ∷ []))))
      whole z' after s =
          let (kd, ts, n, i) = start_of h.opener h.opens in
          let o : began q ≡ true = ap (λ (x : Item). began (x ∷ earlier_then [] h.before)) i ∙ start_begun kd ts n (earlier_then [] h.before) in
          let b : began (earlier_then q h.between) ≡ true = stays_begun q h.between o h.ended in
          let a = sound_head kind card _ _ _ (sound_right kind card q h.between _ s) in
          let y : sized (earlier_then q h.between) (EndEvent z') ≡ true = and_right (in_range card (EndEvent z')) _ a.valued in
          let w : z' ≡ event_size (earlier_then q h.between) = eqb-true _ _ (rw b at y) in
          let m : openers h.between ≡ 0 =
          none_opened kind card q h.between (sound_left kind card q h.between _ s) (open_opening h.opener (earlier_then [] h.before) (starts kd ts n i)) h.ended in
          let c = total_since q h.between (omega arith) in
          let d : total (since start_event q) ≡ 6 = ap (λ (x : Item). total (since start_event (x ∷ earlier_then [] h.before))) i in
          let f : length (words_of h.opener) ≡ 6 = ap (λ (x : Item). length (words_of x)) i in
          let u = length-append (words_of h.opener) (all_words (h.between ++ (EndEvent z' ∷ []))) in
          let r = ap length (all_words_lem h.between (EndEvent z' ∷ [])) in
          let g = length-append (all_words h.between) (all_words (EndEvent z' ∷ [])) in
          omega arith

      at_end : (rest : List Item) (y : Option ℕ) → Closing rest y → y ≡ some z → Sound kind card q (h.between ++ rest)
          → z ≡ 2 * length (all_words (h.opener ∷ (h.between ++ (EndEvent z ∷ []))))
      at_end rest y (ends_with m after) j s = subst (λ (z : ℕ). z ≡ 2 * length (all_words (h.opener ∷ (h.between ++ (EndEvent z ∷ []))))) (some_is m z j) (whole m after s)
      at_end rest y goes_on j s = no_some z j

  -- each event ends but a last one that is open
  pub openers_ends : openers xs ≡ count end_event xs + tally (in_event (earlier_then [] xs))
  openers_ends =
      let i : tally (in_event []) ≡ 0 = ap (λ (b : Bool). tally b) open_nil in
      omega (arith, balance kind card [] xs sound)

-- 13 exactly where no more than e items open an event
pub event_absent : (xs : List Item) (e : ℕ) → (event_of xs e ≡ refused 13 0) ↔ (openers xs ≤ e)
event_absent xs e = (λ h. go (leb (openers xs) e) refl h, λ h. none_found h)
  where
    none_found : openers xs ≤ e → event_of xs e ≡ refused 13 0
    none_found h =
        ap (λ (o : Option Opened). and_then (present o) (λ o. accepted o.event))
        (unpicked e (events 3 xs) (omega (arith, events_count 3 xs)))

    go : (b : Bool) → leb (openers xs) e ≡ b → event_of xs e ≡ refused 13 0 → openers xs ≤ e
    go true l h = leb-true _ _ l
    go false l h =
        let m : e < openers xs = leb-false _ _ l in
        let (o, p) = picked e (events 3 xs) (omega (arith, events_count 3 xs)) in
        let i : event_of xs e ≡ accepted o.event = ap (λ (o : Option Opened). and_then (present o) (λ o. accepted o.event)) p in
        let z : ◌≡◌ {A = ℕ} 0 1 = cc in
        absurd (omega arith)

-- ---- of an accepted frame

pub event_of_lem : (s : List ℕ) (f : Frame) → verdict s ≡ accepted f → (e : ℕ) → event_at s e ≡ event_of f.items e
unfolding event_at
event_of_lem s f v e = rw v

pub event_refused : (s : List ℕ) (k p : ℕ) → verdict s ≡ refused k p → (e : ℕ) → event_at s e ≡ refused k p
unfolding event_at
event_refused s k p v e = rw v

-- an accepted frame's items are sound
pub sounds : (s : List ℕ) → Bytes s → (f : Frame) → verdict s ≡ accepted f → Sound f.kind f.card [] f.items
sounds s bs f v = let (l, e) = (exactly s bs f).0 v in l.sound

module _ (s : List ℕ) (f : Frame) (v : verdict s ≡ accepted f) where
  pub event_none : (e : ℕ) → (event_at s e ≡ refused 13 0) ↔ (openers f.items ≤ e)
  event_none e = subst (λ (o : Outcome Event). (o ≡ refused 13 0) ↔ (openers f.items ≤ e)) (sym (event_of_lem s f v e)) (event_absent f.items e)

module _ (s : List ℕ) (bs : Bytes s) (f : Frame) (v : verdict s ≡ accepted f) where
  pub event_answer : (e : ℕ) (w : Event) → (event_at s e ≡ accepted w) ↔ EventIn f.items e w
  event_answer e w = subst (λ (o : Outcome Event). (o ≡ accepted w) ↔ EventIn f.items e w) (sym (event_of_lem s f v e)) (event_exactly f.items e w)

  pub event_bytes : (e : ℕ) (w : Event) (h : EventIn f.items e w) (t : Began) (z : ℕ) → w.began ≡ some t → w.size ≡ some z
      → z ≡ 2 * length (all_words (h.opener ∷ (h.between ++ (EndEvent z ∷ []))))
  event_bytes = event_size_lem f.kind f.card f.items (sounds s bs f v)

  pub frame_balance : openers f.items ≡ count end_event f.items + tally (in_event (earlier_then [] f.items))
  frame_balance = openers_ends f.kind f.card f.items (sounds s bs f v)

  -- no other kind of frame has an event
  pub other_kind : (f.kind ≡ data_kind → ⊥) → (e : ℕ) → event_at s e ≡ refused 13 0
  other_kind d e = (event_none s f v e).1 (omega (arith, no_openers f.kind f.card d [] f.items (sounds s bs f v)))
