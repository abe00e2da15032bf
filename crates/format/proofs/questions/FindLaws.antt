-- The header of a channel in an event, and of a histogram in a frame: the questions find it exactly where it stands, and it stands once.
-- Assumes nothing.
use Prim.Native.Nat.{ℕ, ◌+◌}
use mathlib.Core.Path.{◌≡◌, refl, sym, ap, ap₂, subst, ◌∙◌}
use mathlib.Core.List.{List, [], ◌∷◌, ◌++◌, append_assoc}
use mathlib.Core.Logic.{◌↔◌}
use mathlib.Core.Bool.{Bool, true, false, true≢false}
use mathlib.Core.Option.{Option, none, some}
use native.Mathlib.Omega.{arith}
use lib.Dec.{eqb}
use lib.ListN.{length, length-append, take}
use lib.Seq.{take_at}
use borrow.Author.Tests.{eqb-true, eq-eqb}
use Rattle.format.specs.Words.{pick}
use Rattle.format.specs.Answers.{Outcome, accepted, refused, and_then}
use Rattle.format.specs.Book.{start_event, end_event}
use Rattle.format.specs.Items.{Item, Channel, Histogram, HitCount, Sample, Bin, LastCell, TimeBin, Text, StartEvent, ContinueEvent, EndEvent, class_for}
use Rattle.format.specs.Rules.{Kind, same, count, openers}
use Rattle.format.specs.Frames.{Sound, earlier_then, all_words}
use Rattle.format.specs.Questions.{Event, Opened, events, pick_nth, present, until, past, is_channel, is_histogram, channel_in}
use Rattle.format.specs.Stands.{Closing, ends_with, goes_on, EventIn, ChannelIn, HistogramIn}
use Rattle.format.proofs.book.PrefixLaws.{and_left, and_right, and_both}
use Rattle.format.proofs.rules.SoundLaws.{tally_zero, count_append, sound_left, sound_right, sound_tail, Opening, starts, continues, open_opening, none_opened}
use Rattle.format.proofs.questions.ItemQuestions.{no_some, some_is}
use Rattle.format.proofs.rules.RisingLaws.{one_channel, one_histogram}
use Rattle.format.proofs.questions.EventQuestions.{opened, opening_of, event_picked, picked_event, between_sound}

-- ---- the first item that passes a test

no_pass : {A : Type 0} → false ≡ true → A
no_pass e = absurd (true≢false (sym e))

-- the headers of a chip and a channel
pub as_channel : (chip c : ℕ) (x : Item) → is_channel chip c x ≡ true → (a : ℕ) × (x ≡ Channel a chip c)
as_channel chip c (Channel a b d) e =
    (a, ap₂ (Channel a) (eqb-true b chip (and_left (eqb b chip) (eqb d c) e)) (eqb-true d c (and_right (eqb b chip) (eqb d c) e)))
as_channel chip c (Histogram a b d) e = no_pass e
as_channel chip c (HitCount a b d) e = no_pass e
as_channel chip c (Sample v) e = no_pass e
as_channel chip c (Bin b n) e = no_pass e
as_channel chip c (LastCell a b) e = no_pass e
as_channel chip c (TimeBin t) e = no_pass e
as_channel chip c (Text s) e = no_pass e
as_channel chip c (StartEvent t ts n) e = no_pass e
as_channel chip c (ContinueEvent n) e = no_pass e
as_channel chip c (EndEvent n) e = no_pass e

pub as_histogram : (chip c : ℕ) (x : Item) → is_histogram chip c x ≡ true → (a : ℕ) × (x ≡ Histogram a chip c)
as_histogram chip c (Channel a b d) e = no_pass e
as_histogram chip c (Histogram a b d) e =
    (a, ap₂ (Histogram a) (eqb-true b chip (and_left (eqb b chip) (eqb d c) e)) (eqb-true d c (and_right (eqb b chip) (eqb d c) e)))
as_histogram chip c (HitCount a b d) e = no_pass e
as_histogram chip c (Sample v) e = no_pass e
as_histogram chip c (Bin b n) e = no_pass e
as_histogram chip c (LastCell a b) e = no_pass e
as_histogram chip c (TimeBin t) e = no_pass e
as_histogram chip c (Text s) e = no_pass e
as_histogram chip c (StartEvent t ts n) e = no_pass e
as_histogram chip c (ContinueEvent n) e = no_pass e
as_histogram chip c (EndEvent n) e = no_pass e

module _ (f : Item → Bool) where
  -- nothing passes, or a first item does
  pub data Passing (xs : List Item) : Type 0 where
    missed : past f xs ≡ none → ((l : List Item) (x : Item) (r : List Item) → xs ≡ l ++ (x ∷ r) → f x ≡ true → ⊥) → Passing xs
    passed : (l : List Item) (x : Item) (r : List Item) → xs ≡ l ++ (x ∷ r) → f x ≡ true → past f xs ≡ some r → Passing xs

  cons_head : (x y : Item) (xs ys : List Item) → ◌≡◌ {A = List Item} (x ∷ xs) (y ∷ ys) → (x ≡ y) × (xs ≡ ys)
  cons_head x y xs ys e = ((cc), (cc))

  pub passing : (xs : List Item) → Passing xs
  unfolding past
  passing [] = missed refl (λ l x r e h. none_in l x r e)
    where
      none_in : (l : List Item) (x : Item) (r : List Item) → ◌≡◌ {A = List Item} [] (l ++ (x ∷ r)) → ⊥
      none_in [] x r e = let z : ◌≡◌ {A = ℕ} 0 1 = cc in omega arith
      none_in (y ∷ l) x r e = let z : ◌≡◌ {A = ℕ} 0 1 = cc in omega arith
  passing (y ∷ ys) = go (f y) refl (passing ys)
    where
      none_in : f y ≡ false → ((l : List Item) (x : Item) (r : List Item) → ys ≡ l ++ (x ∷ r) → f x ≡ true → ⊥)
          → (l : List Item) (x : Item) (r : List Item) → y ∷ ys ≡ l ++ (x ∷ r) → f x ≡ true → ⊥
      none_in n h [] x r e p = let (i, j) = cons_head y x ys r e in true≢false (sym p ∙ ap f (sym i) ∙ n)
      none_in n h (z ∷ l) x r e p = let (i, j) = cons_head y z ys (l ++ (x ∷ r)) e in h l x r j p

      go : (b : Bool) → f y ≡ b → Passing ys → Passing (y ∷ ys)
      go true p r = passed [] y ys refl p (rw p)
      go false p (missed q h) = missed (rw p q) (none_in p h)
      go false p (passed l x r e h q) = passed (y ∷ l) x r (ap (λ (l : List Item). y ∷ l) e) h (rw p q)

  -- behind items that do not pass, the first that does
  pub past_there : (l : List Item) (x : Item) (r : List Item) → f x ≡ true → ((l' : List Item) (y : Item) (r' : List Item) → l ≡ l' ++ (y ∷ r') → f y ≡ true → ⊥)
      → past f (l ++ (x ∷ r)) ≡ some r
  unfolding past
  past_there [] x r p n = rw p
  past_there (y ∷ l) x r p n = go (f y) refl (past_there l x r p (λ l' z r' e h. n (y ∷ l') z r' (ap (λ (l : List Item). y ∷ l) e) h))
    where
      go : (b : Bool) → f y ≡ b → past f (l ++ (x ∷ r)) ≡ some r → pick (f y) (some (l ++ (x ∷ r))) (past f (l ++ (x ∷ r))) ≡ some r
      go true q i = absurd (n [] y l refl q)
      go false q i = rw (q, i)

-- the items before the first End event
pub until_end : (between rest : List Item) (z : Option ℕ) → Closing rest z → count end_event between ≡ 0 → until end_event (between ++ rest) ≡ between
unfolding until count
until_end [] rest z (ends_with m after) h = refl
until_end [] rest z goes_on h = refl
until_end (x ∷ xs) rest z c h =
    rw (tally_zero (same end_event (class_for x)) (omega arith)) (ap (λ (l : List Item). x ∷ l) (until_end xs rest z c (omega arith)))

-- the items that an event opens, whichever item opens it
items_of : (at : ℕ) (x : Item) (k : Opening x) (xs : List Item) → until end_event (opened at x k xs).items ≡ until end_event xs
items_of at x (starts t ts n i) xs = refl
items_of at x (continues n i) xs = refl

-- ---- channels

pub present_is : {A : Type 0} (o : Option A) (a : A) → present o ≡ accepted a → o ≡ some a
present_is none a e = let z : ◌≡◌ {A = ℕ} 0 1 = cc in absurd (omega arith)
present_is (some b) a e = cc

-- the items of an event
pub event_items : (xs : List Item) (e : ℕ) (v : Event) (h : EventIn xs e v)
    → until end_event (opened (3 + length (all_words h.before)) h.opener (opening_of h.opener v h.opens) (h.between ++ h.rest)).items ≡ h.between
event_items xs e v h =
    items_of (3 + length (all_words h.before)) h.opener (opening_of h.opener v h.opens) (h.between ++ h.rest)
    ∙ until_end h.between h.rest v.size h.closing h.ended

-- the question looks among the event's items
channel_of : (xs : List Item) (e chip c : ℕ) (v : Event) (h : EventIn xs e v) → channel_in e chip c xs ≡ present (past (is_channel chip c) h.between)
unfolding channel_in
channel_of xs e chip c v h =
    ap (λ (o : Option Opened). and_then (present o) (λ o. present (past (is_channel chip c) (until end_event o.items)))) (event_picked xs e v h)
    ∙ ap (λ (l : List Item). present (past (is_channel chip c) l)) (event_items xs e v h)

-- event e is one part of the items
same_between : (xs : List Item) (e : ℕ) (v v' : Event) (h : EventIn xs e v) (h' : EventIn xs e v') → h.between ≡ h'.between
same_between xs e v v' h h' =
    sym (event_items xs e v h)
    ∙ ap (λ (o : Opened). until end_event o.items) (some_is _ _ (sym (event_picked xs e v h) ∙ event_picked xs e v' h'))
    ∙ event_items xs e v' h'

-- a list is split at one place by what stands behind it
one_split : (l l' : List Item) (x x' : Item) (ys ys' : List Item) → ys ≡ ys' → l ++ (x ∷ ys) ≡ l' ++ (x' ∷ ys') → l ≡ l'
one_split l l' x x' ys ys' i e =
    let a = length-append l (x ∷ ys) in
    let b = length-append l' (x' ∷ ys') in
    let k : length ys ≡ length ys' = ap length i in
    let n : length (l ++ (x ∷ ys)) ≡ length (l' ++ (x' ∷ ys')) = ap length e in
    let m : length l' ≡ length l = omega arith in
    sym (take_at l (x ∷ ys) (length l) refl) ∙ ap (take (length l)) e ∙ take_at l' (x' ∷ ys') (length l) m

-- an answer is some items, or 13
data Finding (o : Outcome (List Item)) : Type 0 where
  finds : (ys : List Item) → o ≡ accepted ys → Finding o
  missing : o ≡ refused 13 0 → Finding o

finding : (o : Option (List Item)) → Finding (present o)
finding none = missing refl
finding (some ys) = finds ys refl

is_one : (ys ys' : List Item) → ◌≡◌ {A = Outcome (List Item)} (accepted ys) (accepted ys') → ys ≡ ys'
is_one ys ys' e = cc

-- 13 exactly where nothing stands
absent_where : (o : Outcome (List Item)) (P : List Item → Type 0) → ((ys : List Item) → P ys → o ≡ accepted ys) → ((ys : List Item) → o ≡ accepted ys → P ys)
    → Finding o → (o ≡ refused 13 0) ↔ ((ys : List Item) → P ys → ⊥)
absent_where o P there back f = (λ e ys h. both ys e (there ys h), λ n. go n f)
  where
    both : (ys : List Item) → o ≡ refused 13 0 → o ≡ accepted ys → ⊥
    both ys e i = let z : ◌≡◌ {A = ℕ} 0 1 = cc in omega arith

    go : ((ys : List Item) → P ys → ⊥) → Finding o → o ≡ refused 13 0
    go n (finds ys e) = absurd (n ys (back ys e))
    go n (missing e) = e

module _ (kind : Kind) (card : ℕ) (xs : List Item) (sound : Sound kind card [] xs) (e chip c : ℕ) where
  -- the items up to the one that opens the event
  abbrev earlier : (v : Event) → EventIn xs e v → List Item
  earlier v h = h.opener ∷ earlier_then [] h.before

  inside : (v : Event) (h : EventIn xs e v) → Sound kind card (earlier v h) h.between
  inside v h = sound_left kind card (earlier v h) h.between h.rest (between_sound kind card xs sound e v h)

  -- of two headers with one chip and channel, one does not stand
  no_second : (v : Event) (h : EventIn xs e v) (l m r : List Item) (a a' : ℕ) → h.between ≡ l ++ (Channel a chip c ∷ (m ++ (Channel a' chip c ∷ r))) → ⊥
  unfolding count
  no_second v h l m r a a' i =
      let n : openers h.between ≡ 0 =
      none_opened kind card (earlier v h) h.between (inside v h) (open_opening h.opener (earlier_then [] h.before) (opening_of h.opener v h.opens)) h.ended in
      let j = ap (count start_event) i in
      let k = count_append start_event l (Channel a chip c ∷ (m ++ (Channel a' chip c ∷ r))) in
      let q = count_append start_event m (Channel a' chip c ∷ r) in
      one_channel kind card (earlier_then (earlier v h) l) m r a a' chip c (omega arith)
      (sound_right kind card (earlier v h) l _ (subst (Sound kind card (earlier v h)) i (inside v h)))

  is_there : (a : ℕ) → is_channel chip c (Channel a chip c) ≡ true
  is_there a = and_both _ _ (eq-eqb chip chip refl) (eq-eqb c c refl)

  pub channel_there : (ys : List Item) → ChannelIn xs e chip c ys → channel_in e chip c xs ≡ accepted ys
  channel_there ys h =
      channel_of xs e chip c h.event h.within
      ∙ ap (λ (l : List Item). present (past (is_channel chip c) l)) h.header
      ∙ ap present (past_there (is_channel chip c) h.left (Channel h.card chip c) ys (is_there h.card) alone)
    where
      alone : (l : List Item) (y : Item) (r : List Item) → h.left ≡ l ++ (y ∷ r) → is_channel chip c y ≡ true → ⊥
      alone l y r i p =
          let (a, j) = as_channel chip c y p in
          no_second h.event h.within l r ys a h.card
          (h.header
          ∙ ap (λ (l : List Item). l ++ (Channel h.card chip c ∷ ys)) (i ∙ ap (λ (y : Item). l ++ (y ∷ r)) j)
          ∙ append_assoc l (Channel a chip c ∷ r) (Channel h.card chip c ∷ ys))

  -- what the event's items say
  found : (v : Event) (h : EventIn xs e v) (ys : List Item) → Passing (is_channel chip c) h.between → past (is_channel chip c) h.between ≡ some ys → ChannelIn xs e chip c ys
  found v h ys (missed q n) i = no_some ys (sym q ∙ i)
  found v h ys (passed l x r j p q) i =
      let (a, k) = as_channel chip c x p in
      record {
        event = v;
        within = h;
        left = l;
        card = a;
        header = j ∙ ap₂ (λ (x : Item) (r : List Item). l ++ (x ∷ r)) k (some_is r ys (sym q ∙ i));
      }

  pub channel_in_lem : (ys : List Item) → channel_in e chip c xs ≡ accepted ys → ChannelIn xs e chip c ys
  unfolding channel_in
  channel_in_lem ys i = go (pick_nth e (events 3 xs)) refl i
    where
      go : (o : Option Opened) → pick_nth e (events 3 xs) ≡ o
          → and_then (present o) (λ o. present (past (is_channel chip c) (until end_event o.items))) ≡ accepted ys → ChannelIn xs e chip c ys
      go none p j = let z : ◌≡◌ {A = ℕ} 0 1 = cc in absurd (omega arith)
      go (some o) p j =
          let h = picked_event xs e o p in
          found o.event h ys (passing (is_channel chip c) h.between)
          (present_is (past (is_channel chip c) h.between) ys (sym (channel_of xs e chip c o.event h) ∙ i))

  channel_finding : Finding (channel_in e chip c xs)
  unfolding channel_in
  channel_finding = go (pick_nth e (events 3 xs))
    where
      go : (o : Option Opened) → Finding (and_then (present o) (λ o. present (past (is_channel chip c) (until end_event o.items))))
      go none = missing refl
      go (some o) = finding (past (is_channel chip c) (until end_event o.items))

  pub channel_absent : (channel_in e chip c xs ≡ refused 13 0) ↔ ((ys : List Item) → ChannelIn xs e chip c ys → ⊥)
  channel_absent = absent_where (channel_in e chip c xs) (ChannelIn xs e chip c) channel_there channel_in_lem channel_finding

  -- at most one header has that chip and channel
  pub one_place : (ys ys' : List Item) (h : ChannelIn xs e chip c ys) (h' : ChannelIn xs e chip c ys') → (h.left ≡ h'.left) × (ys ≡ ys')
  one_place ys ys' h h' =
      let i : ys ≡ ys' = is_one ys ys' (sym (channel_there ys h) ∙ channel_there ys' h') in (
        one_split h.left h'.left (Channel h.card chip c) (Channel h'.card chip c) ys ys' i
            (sym h.header ∙ same_between xs e h.event h'.event h.within h'.within ∙ h'.header),
        i,
      )

  -- the items behind the header, as they stand in the frame
  pub channel_sound : (ys : List Item) (h : ChannelIn xs e chip c ys) → Sound kind card (Channel h.card chip c ∷ earlier_then (earlier h.event h.within) h.left) ys
  channel_sound ys h =
      sound_tail kind card _ _ _
      (sound_right kind card (earlier h.event h.within) h.left _
      (subst (Sound kind card (earlier h.event h.within)) h.header (inside h.event h.within)))

-- ---- histograms

module _ (kind : Kind) (card : ℕ) (xs : List Item) (sound : Sound kind card [] xs) (chip c : ℕ) where
  one_header : (l m r : List Item) (a a' : ℕ) → xs ≡ l ++ (Histogram a chip c ∷ (m ++ (Histogram a' chip c ∷ r))) → ⊥
  one_header l m r a a' i = one_histogram kind card (earlier_then [] l) m r a a' chip c (sound_right kind card [] l _ (subst (Sound kind card []) i sound))

  pub histogram_there : (ys : List Item) → HistogramIn xs chip c ys → present (past (is_histogram chip c) xs) ≡ accepted ys
  histogram_there ys h =
      ap (λ (l : List Item). present (past (is_histogram chip c) l)) h.header
      ∙ ap present (past_there (is_histogram chip c) h.left (Histogram h.card chip c) ys (and_both _ _ (eq-eqb chip chip refl) (eq-eqb c c refl)) alone)
    where
      alone : (l : List Item) (y : Item) (r : List Item) → h.left ≡ l ++ (y ∷ r) → is_histogram chip c y ≡ true → ⊥
      alone l y r i p =
          let (a, j) = as_histogram chip c y p in
          one_header l r ys a h.card
          (h.header
          ∙ ap (λ (l : List Item). l ++ (Histogram h.card chip c ∷ ys)) (i ∙ ap (λ (y : Item). l ++ (y ∷ r)) j)
          ∙ append_assoc l (Histogram a chip c ∷ r) (Histogram h.card chip c ∷ ys))

  pub histogram_in : (ys : List Item) → present (past (is_histogram chip c) xs) ≡ accepted ys → HistogramIn xs chip c ys
  histogram_in ys i = go (passing (is_histogram chip c) xs) (present_is (past (is_histogram chip c) xs) ys i)
    where
      go : Passing (is_histogram chip c) xs → past (is_histogram chip c) xs ≡ some ys → HistogramIn xs chip c ys
      go (missed q n) j = no_some ys (sym q ∙ j)
      go (passed l x r k p q) j =
          let (a, h) = as_histogram chip c x p in
          record { left = l; card = a; header = k ∙ ap₂ (λ (x : Item) (r : List Item). l ++ (x ∷ r)) h (some_is r ys (sym q ∙ j)) }

  pub histogram_absent : (present (past (is_histogram chip c) xs) ≡ refused 13 0) ↔ ((ys : List Item) → HistogramIn xs chip c ys → ⊥)
  histogram_absent =
      absent_where (present (past (is_histogram chip c) xs)) (HistogramIn xs chip c) histogram_there histogram_in (finding (past (is_histogram chip c) xs))

  pub one_histogram_place : (ys ys' : List Item) (h : HistogramIn xs chip c ys) (h' : HistogramIn xs chip c ys') → (h.left ≡ h'.left) × (ys ≡ ys')
  one_histogram_place ys ys' h h' =
      let i : ys ≡ ys' = is_one ys ys' (sym (histogram_there ys h) ∙ histogram_there ys' h') in
      (one_split h.left h'.left (Histogram h.card chip c) (Histogram h'.card chip c) ys ys' i (sym h.header ∙ h'.header), i)

  pub histogram_sound : (ys : List Item) (h : HistogramIn xs chip c ys) → Sound kind card (Histogram h.card chip c ∷ earlier_then [] h.left) ys
  histogram_sound ys h = sound_tail kind card _ _ _ (sound_right kind card [] h.left _ (subst (Sound kind card []) h.header sound))
