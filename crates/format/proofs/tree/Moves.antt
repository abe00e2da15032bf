-- The rules of place, value and order as moves from state to state, item by item: a move is allowed, and leads to the state that the items then
-- leave.
-- Assumes nothing.
use Prim.Native.Nat.{ℕ, suc, ◌+◌, ◌*◌, ◌<◌, ◌≤◌}
use mathlib.Core.Path.{◌≡◌, refl, sym, ap, subst, ◌∙◌}
use mathlib.Core.List.{List, [], ◌∷◌}
use mathlib.Core.Logic.{◌↔◌}
use mathlib.Core.Bool.{Bool, true, false, not, ◌&&◌, ◌||◌}
use native.Mathlib.Omega.{arith}
use lib.Dec.{leb, ltb}
use lib.ListN.{length}
use borrow.Author.Tests.{leb-true, eqb-true, le-leb, lt-leb, eq-eqb, ltb-true, ltb-false}
use Rattle.format.specs.Words.{pick}
use Rattle.format.specs.Book.{Class, channel, histogram, hit_count, sample, bin, last_cell, time_bin, data_frame, monitor_frame, command_frame, text, start_event, continue_event, end_event, frame_end, unassigned}
use Rattle.format.specs.Items.{Item, Channel, Histogram, HitCount, Sample, Bin, LastCell, TimeBin, Text, StartEvent, ContinueEvent, EndEvent, class_for, header_bits, words_of, in_range, key}
use Rattle.format.specs.Rules.{Kind, data_kind, monitor_kind, command_kind, same, since, before, count, has, latest, total, gather, channel_key, histogram_key, bin_number, above, openers, in_event, begun, time, last_time, ReaderMode, fresh, outside, inside, after_channel, after_time, after_sample, unheaded, headed, inside_after, between_events, mode_after, allowed, among, place, may_end, event_size, sized, value, order}
use Rattle.format.specs.Frames.{Allowed}
use Rattle.format.specs.Steps.{ended_by}
use Rattle.format.proofs.book.PrefixLaws.{and_both}
use Rattle.format.proofs.rules.LimitLaws.{limits}

-- ---- the states and the moves

pub data State : Type 0 where
  -- a data frame before its first item; after an event
  begin : State
  out : State
  -- in an event: whether it began in this frame, the least content that the next Channel may have, and the words from the item that opens it on
  amid : Bool → ℕ → ℕ → State
  -- after a Channel; after a Time bin, with its time; after a Sample, with the time of the next
  opened : Bool → ℕ → ℕ → State
  timed : Bool → ℕ → ℕ → ℕ → State
  sampled : Bool → ℕ → ℕ → ℕ → State
  -- a monitor frame before its first Histogram; after it: the least content that the next one may have, and the least bin
  empty : State
  filling : ℕ → ℕ → State
  texts : State

abbrev pub kind_for : State → Kind
kind_for begin = data_kind
kind_for out = data_kind
kind_for (amid h m n) = data_kind
kind_for (opened h m n) = data_kind
kind_for (timed h m n t) = data_kind
kind_for (sampled h m n t) = data_kind
kind_for empty = monitor_kind
kind_for (filling m k) = monitor_kind
kind_for texts = command_kind

-- where a part of an event may begin
pub data Body : State → Bool → ℕ → ℕ → Type 0 where
  free : (h : Bool) (m n : ℕ) → Body (amid h m n) h m n
  past : (h : Bool) (m n t : ℕ) → Body (sampled h m n t) h m n

-- where an event may begin
pub data Outer : State → Type 0 where
  at_first : Outer begin
  at_next : Outer out

-- the size that an End event gives, n words after the item that opens the event: that of an event that began in another frame is not judged
abbrev pub EndSize : Bool → ℕ → ℕ → Type 0
EndSize true n z = z ≡ 2 * (n + 3)
EndSize false n z = Unit {0}

pub data Move : State → Item → State → Type 0 where
  starts : (st : State) (t ts n : ℕ) → Outer st → Move st (StartEvent t ts n) (amid true 0 6)
  continues : (n : ℕ) → Move begin (ContinueEvent n) (amid false 0 3)
  counts : (st : State) (h : Bool) (m n a b c : ℕ) → Body st h m n → Move st (HitCount a b c) (amid h m (n + 1))
  cells : (st : State) (h : Bool) (m n a b : ℕ) → Body st h m n → Move st (LastCell a b) (amid h m (n + 1))
  opens : (st : State) (h : Bool) (m n a b c : ℕ) → Body st h m n → m ≤ header_bits a b c → Move st (Channel a b c) (opened h (suc (header_bits a b c)) (n + 1))
  ends : (st : State) (h : Bool) (m n z : ℕ) → Body st h m n → EndSize h n z → Move st (EndEvent z) out
  times : (h : Bool) (m n t : ℕ) → Move (opened h m n) (TimeBin t) (timed h m (n + 1) t)
  first : (h : Bool) (m n t v : ℕ) → t ≤ 511 → Move (timed h m n t) (Sample v) (sampled h m (n + 1) (t + 1))
  next : (h : Bool) (m n t v : ℕ) → t ≤ 511 → Move (sampled h m n t) (Sample v) (sampled h m (n + 1) (t + 1))
  later : (h : Bool) (m n t u : ℕ) → t + 1 ≤ u → Move (sampled h m n t) (TimeBin u) (timed h m (n + 1) u)
  heads : (a b c : ℕ) → Move empty (Histogram a b c) (filling (suc (header_bits a b c)) 0)
  heads_next : (m k a b c : ℕ) → m ≤ header_bits a b c → Move (filling m k) (Histogram a b c) (filling (suc (header_bits a b c)) 0)
  fills : (m k b n : ℕ) → k ≤ b → Move (filling m k) (Bin b n) (filling m (suc b))
  says : (s : List ℕ) → Move texts (Text s) texts

-- where a frame's items may end
pub data Final : State → Type 0 where
  at_outer : (st : State) → Outer st → Final st
  at_body : (st : State) (h : Bool) (m n : ℕ) → Body st h m n → Final st
  at_empty : Final empty
  at_filling : (m k : ℕ) → Final (filling m k)
  at_texts : Final texts

pub data Moves : State → List Item → Type 0 where
  done : (st : State) → Final st → Moves st []
  move : (st st' : State) (x : Item) (xs : List Item) → Move st x st' → Moves st' xs → Moves st (x ∷ xs)

-- ---- the earlier items and the state that they leave

pub record InEvent (card : ℕ) (p : List Item) (h : Bool) (m n : ℕ) : Type 0 where
  pub opened : in_event p ≡ true
  pub here : begun p ≡ h
  pub keys : (b c : ℕ) → above (key card b c) (gather channel_key (since start_event p)) ≡ leb m (header_bits card b c)
  pub words : total (since start_event p) ≡ n

pub record Left (card : ℕ) (p : List Item) (h : Bool) (m n : ℕ) (w : ReaderMode) : Type 0 where
  pub event : InEvent card p h m n
  pub stands : mode_after data_kind p ≡ w
  pub ended : may_end p ≡ ended_by w

pub record Shut (p : List Item) : Type 0 where
  pub shut : in_event p ≡ false
  pub stands : between_events p ≡ outside
  pub ended : may_end p ≡ true

pub record Filled (card : ℕ) (p : List Item) (m k : ℕ) : Type 0 where
  pub stands : mode_after monitor_kind p ≡ headed
  pub ended : may_end p ≡ true
  pub keys : (b c : ℕ) → above (key card b c) (gather histogram_key p) ≡ leb m (header_bits card b c)
  pub bins : (b : ℕ) → above b (gather bin_number (since histogram p)) ≡ leb k b

abbrev pub Leaves : ℕ → List Item → State → Type 0
Leaves card p begin = p ≡ []
Leaves card p out = Shut p
Leaves card p (amid h m n) = Left card p h m n inside
Leaves card p (opened h m n) = Left card p h m n after_channel × (has sample (since channel p) ≡ false)
Leaves card p (timed h m n t) = Left card p h m n after_time × (time p ≡ t)
Leaves card p (sampled h m n t) = Left card p h m n after_sample × (time p ≡ t) × (has sample (since channel p) ≡ true) × (last_time p + 1 ≡ t)
Leaves card p empty = p ≡ []
Leaves card p (filling m k) = Filled card p m k
Leaves card p texts = may_end p ≡ true

-- the rules of time
pub sample_order : (p : List Item) (v : ℕ) → (order p (Sample v) ≡ true) ↔ (time p ≤ 511)
sample_order p v = (leb-true (time p) 511, le-leb (time p) 511)

first_bin_order : (p : List Item) (t : ℕ) → has sample (since channel p) ≡ false → order p (TimeBin t) ≡ true
first_bin_order p t e = rw e

pub next_bin_order : (p : List Item) (t u : ℕ) → has sample (since channel p) ≡ true → last_time p + 1 ≡ t → (order p (TimeBin u) ≡ true) ↔ (t + 1 ≤ u)
next_bin_order p t u e f = (λ o. omega (arith, leb-true _ u (rw e at o)), λ h. rw e (le-leb _ u (omega arith)))

-- an item that is no End event leaves an event open
still_open : (p : List Item) (x : Item) → same end_event (class_for x) ≡ false → in_event p ≡ true → in_event (x ∷ p) ≡ true
unfolding since count
still_open p x e h =
    let g : 1 ≤ openers (since end_event p) = leb-true 1 (openers (since end_event p)) h in
    rw e
    (le-leb 1 ((pick (same start_event (class_for x)) 1 0 + count start_event (since end_event p)) + (pick (same continue_event (class_for x)) 1 0 + count continue_event (since end_event p))) (omega arith))

-- and one that is no Start event either, one that began where it began
still_begun : (p : List Item) (x : Item) → same end_event (class_for x) ≡ false → same start_event (class_for x) ≡ false → begun (x ∷ p) ≡ begun p
unfolding since count
still_begun p x e f = let z : 0 + count start_event (since end_event p) ≡ count start_event (since end_event p) = omega arith in rw (e, f, z)

stands_after : (p : List Item) (x : Item) → in_event (x ∷ p) ≡ true → mode_after data_kind (x ∷ p) ≡ inside_after (class_for x)
stands_after p x e = ap (λ (b : Bool). pick b (inside_after (class_for x)) outside) e

-- after which the items may end
ended_within : (c : Class) → not (same channel c || same time_bin c) ≡ ended_by (inside_after c)
ended_within channel = refl
ended_within histogram = refl
ended_within hit_count = refl
ended_within sample = refl
ended_within bin = refl
ended_within last_cell = refl
ended_within time_bin = refl
ended_within data_frame = refl
ended_within monitor_frame = refl
ended_within command_frame = refl
ended_within text = refl
ended_within start_event = refl
ended_within continue_event = refl
ended_within end_event = refl
ended_within frame_end = refl
ended_within unassigned = refl

-- an item of one word that neither ends the event nor heads a channel
stays : (card : ℕ) (p : List Item) (h : Bool) (m n : ℕ) (x : Item) → same end_event (class_for x) ≡ false → same start_event (class_for x) ≡ false → channel_key x ≡ []
    → length (words_of x) ≡ 1 → InEvent card p h m n → Left card (x ∷ p) h m (n + 1) (inside_after (class_for x))
unfolding since gather total
stays card p h m n x e f g k i =
    let o = still_open p x e i.opened in
    record {
      event = record { opened = o; here = still_begun p x e f ∙ i.here; keys = λ b c. rw (f, g) (i.keys b c); words = rw (f, k) (omega (arith, i.words)) };
      stands = stands_after p x o;
      ended = ended_within (class_for x);
    }

-- a number above those before it is above just what is above it
rise : (k k' x x' m : ℕ) (a : Bool) → (k' < k → x' < x) → (k ≤ k' → x ≤ x') → m ≤ x' → a ≡ leb m x → ltb k' k && a ≡ leb (suc x') x
rise k k' x x' m a f g l e = go (ltb k' k) refl
  where
    go : (b : Bool) → ltb k' k ≡ b → b && a ≡ leb (suc x') x
    go true h = let i = f (ltb-true k' k h) in e ∙ le-leb m x (omega arith) ∙ sym (le-leb (suc x') x (omega arith))
    go false h = let i = g (ltb-false k' k h) in sym (lt-leb (suc x') x (omega arith))

module _ (card : ℕ) where
  -- ---- a move is allowed, and leads to the state that the items then leave

  -- the item's class is allowed where it stands
  at_place : (kind : Kind) (p : List Item) (w : ReaderMode) (c : Class) → mode_after kind p ≡ w → among c (allowed w) ≡ true → place kind p c ≡ true
  at_place kind p w c e f = ap (λ (w : ReaderMode). among c (allowed w)) e ∙ f

  body_event : (st : State) (p : List Item) (h : Bool) (m n : ℕ) → Body st h m n → Leaves card p st → InEvent card p h m n
  body_event st p h m n (free _ _ _) l = l.event
  body_event st p h m n (past _ _ _ t) l = l.0.event

  pub body_ended : (st : State) (p : List Item) (h : Bool) (m n : ℕ) → Body st h m n → Leaves card p st → may_end p ≡ true
  body_ended st p h m n (free _ _ _) l = l.ended
  body_ended st p h m n (past _ _ _ t) l = l.0.ended

  pub body_kind : (st : State) (h : Bool) (m n : ℕ) → Body st h m n → kind_for st ≡ data_kind
  body_kind st h m n (free _ _ _) = refl
  body_kind st h m n (past _ _ _ t) = refl

  pub outer_kind : (st : State) → Outer st → kind_for st ≡ data_kind
  outer_kind st at_first = refl
  outer_kind st at_next = refl

  pub outer_ended : (st : State) (p : List Item) → Outer st → Leaves card p st → may_end p ≡ true
  outer_ended st p at_first l = ap (λ (q : List Item). may_end q) l
  outer_ended st p at_next l = l.ended

  body_allowed : (st : State) (p : List Item) (h : Bool) (m n : ℕ) (x : Item) → Body st h m n → Leaves card p st
      → among (class_for x) (allowed inside) ≡ true → among (class_for x) (allowed after_sample) ≡ true
      → value card p x ≡ true → order p x ≡ true → Allowed (kind_for st) card p x
  body_allowed st p h m n x (free _ _ _) l e f v o = record { placed = at_place data_kind p inside (class_for x) l.stands e; valued = v; ordered = o }
  body_allowed st p h m n x (past _ _ _ t) l e f v o = record { placed = at_place data_kind p after_sample (class_for x) l.0.stands f; valued = v; ordered = o }

  -- where a data frame's first item stands, and the first one after an event
  pub fresh_place : (p : List Item) → p ≡ [] → mode_after data_kind p ≡ fresh
  unfolding since count
  fresh_place p e = ap (λ (q : List Item). mode_after data_kind q) e

  pub outside_place : (p : List Item) → Shut p → mode_after data_kind p ≡ outside
  outside_place p s = ap (λ (b : Bool). pick b (inside_after (latest p)) (between_events p)) s.shut ∙ s.stands

  starts_allowed : (st : State) (p : List Item) (t ts n : ℕ) → Outer st → Leaves card p st → in_range card (StartEvent t ts n) ≡ true → Allowed (kind_for st) card p (StartEvent t ts n)
  starts_allowed st p t ts n at_first l r = record { placed = at_place data_kind p fresh start_event (fresh_place p l) refl; valued = and_both _ _ r refl; ordered = refl }
  starts_allowed st p t ts n at_next l r = record { placed = at_place data_kind p outside start_event (outside_place p l) refl; valued = and_both _ _ r refl; ordered = refl }

  -- the rule of an End event's size
  pub end_size : (p : List Item) (h : Bool) (m n z : ℕ) → InEvent card p h m n → (sized p (EndEvent z) ≡ true) ↔ EndSize h n z
  end_size p true m n z i = (
    λ e. let g = eqb-true z (event_size p) (rw i.here at e) in omega (arith, i.words),
    λ e. rw i.here (eq-eqb z (event_size p) (omega (arith, i.words))),
  )
  end_size p false m n z i = (λ e. tt, λ e. rw i.here)

  -- a header is above those before it exactly where its content is one that may come next
  header_order : (a b c m : ℕ) (ks : List ℕ) → a ≡ card → above (key card b c) ks ≡ leb m (header_bits card b c) → (above (key a b c) ks ≡ true) ↔ (m ≤ header_bits a b c)
  header_order a b c m ks e k =
      let f : above (key a b c) ks ≡ leb m (header_bits a b c) = subst (λ (a : ℕ). above (key a b c) ks ≡ leb m (header_bits a b c)) (sym e) k in
      (λ h. leb-true m (header_bits a b c) (sym f ∙ h), λ h. f ∙ le-leb m (header_bits a b c) h)

  -- the rules of headers
  pub channel_order : (p : List Item) (h : Bool) (m n a b c : ℕ) → InEvent card p h m n → a ≡ card → (order p (Channel a b c) ≡ true) ↔ (m ≤ header_bits a b c)
  channel_order p h m n a b c i e = header_order a b c m (gather channel_key (since start_event p)) e (i.keys b c)

  pub histogram_order : (p : List Item) (m a b c : ℕ) → ((b c : ℕ) → above (key card b c) (gather histogram_key p) ≡ leb m (header_bits card b c)) → a ≡ card
      → (order p (Histogram a b c) ≡ true) ↔ (m ≤ header_bits a b c)
  histogram_order p m a b c k e = header_order a b c m (gather histogram_key p) e (k b c)

  -- and those above a header
  above_header : (a b c m : ℕ) (ks : List ℕ) → a ≡ card → ((b c : ℕ) → above (key card b c) ks ≡ leb m (header_bits card b c)) → m ≤ header_bits a b c
      → (b' c' : ℕ) → above (key card b' c') (key a b c ∷ ks) ≡ leb (suc (header_bits a b c)) (header_bits card b' c')
  unfolding above
  above_header a b c m ks e k l b' c' =
      rise (key card b' c') (key a b c) (header_bits card b' c') (header_bits a b c) m (above (key card b' c') ks) (λ h. omega arith) (λ h. omega arith) l (k b' c')

  -- what the items leave after a Start event, a Channel, a Histogram, a Bin
  after_start : (p : List Item) (t ts n : ℕ) → Left card (StartEvent t ts n ∷ p) true 0 6 inside
  unfolding since count gather total above words_of
  after_start p t ts n =
      let o : in_event (StartEvent t ts n ∷ p) ≡ true = le-leb 1 ((1 + count start_event (since end_event p)) + (0 + count continue_event (since end_event p))) (omega arith) in
      record {
        event = record {
          opened = o;
          here = le-leb 1 (1 + count start_event (since end_event p)) (omega arith);
          keys = λ b c. sym (le-leb 0 (header_bits card b c) (omega arith));
          words = refl;
        };
        stands = stands_after p (StartEvent t ts n) o;
        ended = refl;
      }

  after_continue : (p : List Item) (n : ℕ) → p ≡ [] → Left card (ContinueEvent n ∷ p) false 0 3 inside
  unfolding since count gather total above words_of
  after_continue p n e = subst (λ (q : List Item). Left card (ContinueEvent n ∷ q) false 0 3 inside) (sym e)
      (record {
        event = record { opened = refl; here = refl; keys = λ b c. sym (le-leb 0 (header_bits card b c) (omega arith)); words = refl };
        stands = refl;
        ended = refl;
      })

  after_channel_lem : (p : List Item) (h : Bool) (m n a b c : ℕ) → a ≡ card → m ≤ header_bits a b c → InEvent card p h m n
      → Left card (Channel a b c ∷ p) h (suc (header_bits a b c)) (n + 1) after_channel
  unfolding since gather total words_of
  after_channel_lem p h m n a b c e l i =
      let o = still_open p (Channel a b c) refl i.opened in
      record {
        event = record {
          opened = o;
          here = still_begun p (Channel a b c) refl refl ∙ i.here;
          keys = above_header a b c m (gather channel_key (since start_event p)) e i.keys l;
          words = omega (arith, i.words);
        };
        stands = stands_after p (Channel a b c) o;
        ended = refl;
      }

  after_histogram : (p : List Item) (m a b c : ℕ) → a ≡ card → m ≤ header_bits a b c
      → ((b c : ℕ) → above (key card b c) (gather histogram_key p) ≡ leb m (header_bits card b c)) → Filled card (Histogram a b c ∷ p) (suc (header_bits a b c)) 0
  unfolding since gather above
  after_histogram p m a b c e l k =
      record {
        stands = refl;
        ended = refl;
        keys = above_header a b c m (gather histogram_key p) e k l;
        bins = λ b. sym (le-leb 0 b (omega arith));
      }

  after_bin : (p : List Item) (m k b n : ℕ) → k ≤ b → Filled card p m k → Filled card (Bin b n ∷ p) m (suc b)
  unfolding since gather above
  after_bin p m k b n l f =
      record {
        stands = refl;
        ended = refl;
        keys = f.keys;
        bins = λ b'. rise b' b b' b k (above b' (gather bin_number (since histogram p))) (λ h. h) (λ h. h) l (f.bins b');
      }

  empty_keys : (p : List Item) → p ≡ [] → (b c : ℕ) → above (key card b c) (gather histogram_key p) ≡ leb 0 (header_bits card b c)
  unfolding gather above
  empty_keys p e b c = ap (λ (p : List Item). above (key card b c) (gather histogram_key p)) e ∙ sym (le-leb 0 (header_bits card b c) (omega arith))

  -- the time that the next sample has
  time_bin_lem : (p : List Item) (t : ℕ) → time (TimeBin t ∷ p) ≡ t
  unfolding since count gather
  time_bin_lem p t = omega arith

  time_sample : (p : List Item) (t v : ℕ) → time p ≡ t → time (Sample v ∷ p) ≡ t + 1
  unfolding since count gather
  time_sample p t v e = omega arith

  -- and the last one's
  last_sample : (p : List Item) (t v : ℕ) → time p ≡ t → last_time (Sample v ∷ p) + 1 ≡ t + 1
  unfolding before
  last_sample p t v e = omega arith

  has_sample : (p : List Item) (v : ℕ) → has sample (since channel (Sample v ∷ p)) ≡ true
  unfolding since count
  has_sample p v = le-leb 1 (1 + count sample (since channel p)) (omega arith)

  pub moved : (p : List Item) (st st' : State) (x : Item) → Leaves card p st → in_range card x ≡ true → Move st x st' → Allowed (kind_for st) card p x × Leaves card (x ∷ p) st'
  unfolding since count gather total above words_of
  moved p st st' x l r (starts _ t ts n o) = (starts_allowed st p t ts n o l r, after_start p t ts n)
  moved p st st' x l r (continues n) =
      (record { placed = at_place data_kind p fresh continue_event (fresh_place p l) refl; valued = and_both _ _ r refl; ordered = refl }, after_continue p n l)
  moved p st st' x l r (counts _ h m n a b c d) =
      (body_allowed st p h m n (HitCount a b c) d l refl refl (and_both _ _ r refl) refl, stays card p h m n (HitCount a b c) refl refl refl refl (body_event st p h m n d l))
  moved p st st' x l r (cells _ h m n a b d) =
      (body_allowed st p h m n (LastCell a b) d l refl refl (and_both _ _ r refl) refl, stays card p h m n (LastCell a b) refl refl refl refl (body_event st p h m n d l))
  moved p st st' x l r (opens _ h m n a b c d g) =
      let i = body_event st p h m n d l in
      let e = ((limits card (Channel a b c)).0 r).0 in (
        body_allowed st p h m n (Channel a b c) d l refl refl (and_both _ _ r refl) ((channel_order p h m n a b c i e).1 g),
        (after_channel_lem p h m n a b c e g i, refl),
      )
  moved p st st' x l r (ends _ h m n z d g) =
      let i = body_event st p h m n d l in
      (body_allowed st p h m n (EndEvent z) d l refl refl (and_both _ _ r ((end_size p h m n z i).1 g)) refl, record { shut = refl; stands = refl; ended = refl })
  moved p st st' x l r (times h m n t) = (
    record { placed = at_place data_kind p after_channel time_bin l.0.stands refl; valued = and_both _ _ r refl; ordered = first_bin_order p t l.1 },
    (stays card p h m n (TimeBin t) refl refl refl refl l.0.event, time_bin_lem p t),
  )
  moved p st st' x l r (first h m n t v g) = (
    record { placed = at_place data_kind p after_time sample l.0.stands refl; valued = and_both _ _ r refl; ordered = (sample_order p v).1 (omega (arith, l.1)) },
    (stays card p h m n (Sample v) refl refl refl refl l.0.event, time_sample p t v l.1, has_sample p v, last_sample p t v l.1),
  )
  moved p st st' x l r (next h m n t v g) = (
    record { placed = at_place data_kind p after_sample sample l.0.stands refl; valued = and_both _ _ r refl; ordered = (sample_order p v).1 (omega (arith, l.1)) },
    (stays card p h m n (Sample v) refl refl refl refl l.0.event, time_sample p t v l.1, has_sample p v, last_sample p t v l.1),
  )
  moved p st st' x l r (later h m n t u g) = (
    record {
      placed = at_place data_kind p after_sample time_bin l.0.stands refl;
      valued = and_both _ _ r refl;
      ordered = (next_bin_order p t u l.2 l.3).1 g;
    },
    (stays card p h m n (TimeBin u) refl refl refl refl l.0.event, time_bin_lem p u),
  )
  moved p st st' x l r (heads a b c) =
      let e = ((limits card (Histogram a b c)).0 r).0 in
      let k = empty_keys p l in (
        record {
          placed = at_place monitor_kind p unheaded histogram (ap (λ (p : List Item). mode_after monitor_kind p) l) refl;
          valued = and_both _ _ r refl;
          ordered = (histogram_order p 0 a b c k e).1 (omega arith);
        },
        after_histogram p 0 a b c e (omega arith) k,
      )
  moved p st st' x l r (heads_next m k a b c h) =
      let e = ((limits card (Histogram a b c)).0 r).0 in (
        record {
          placed = at_place monitor_kind p headed histogram l.stands refl;
          valued = and_both _ _ r refl;
          ordered = (histogram_order p m a b c l.keys e).1 h;
        },
        after_histogram p m a b c e h l.keys,
      )
  moved p st st' x l r (fills m k b n h) =
      (record { placed = at_place monitor_kind p headed bin l.stands refl; valued = and_both _ _ r refl; ordered = l.bins b ∙ le-leb k b h }, after_bin p m k b n h l)
  moved p st st' x l r (says s) = (record { placed = refl; valued = and_both _ _ r refl; ordered = refl }, refl)
