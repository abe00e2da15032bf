-- The moves through a list of items, and the trees of that list: a lawful tree's leaves are moved through, and what is moved through is the leaves
-- of a lawful tree.
-- Assumes nothing.
use Prim.Native.Nat.{ℕ, suc, ◌+◌, ◌*◌, ◌≤◌}
use mathlib.Core.Path.{◌≡◌, refl, ap, subst, ◌∙◌}
use mathlib.Core.List.{List, [], ◌∷◌}
use mathlib.Core.Bool.{Bool, true, false}
use native.Mathlib.Omega.{arith}
use lib.ListN.{length, length-append}
use Rattle.format.specs.Items.{Item, Channel, Histogram, HitCount, Sample, Bin, LastCell, TimeBin, Text, StartEvent, ContinueEvent, EndEvent, header_bits, words_of}
use Rattle.format.specs.Frames.{all_words}
use Rattle.format.specs.Tree.{Stretch, stretch, Part, hits, cell, pulse, Event, event, Bar, bar, Pedestal, pedestal, new, ending, Tail, shut, opening, Readout, events, through, of_samples, of_stretches, of_parts, of_events, of_tail, of_readout, of_bars, of_pedestals, of_texts, Rising, Spaced, AllSpaced, channels, Ordered, AllEvents, TailOrdered, ReadoutOrdered, bin_numbers, histograms, AllBars}
use Rattle.format.proofs.tree.Moves.{State, begin, out, amid, opened, timed, sampled, empty, filling, texts, Body, free, past, Outer, at_first, at_next, EndSize, starts, continues, counts, cells, opens, ends, times, first, next, later, heads, heads_next, fills, says, at_outer, at_body, at_empty, at_filling, at_texts, Moves, done, move}

-- how many words some items have
abbrev word_count : List Item → ℕ
word_count xs = length (all_words xs)

count_cons : (x : Item) (xs : List Item) → word_count (x ∷ xs) ≡ length (words_of x) + word_count xs
unfolding all_words
count_cons x xs = length-append (words_of x) (all_words xs)

-- an item of one word
one_word : (x : Item) (xs : List Item) → length (words_of x) ≡ 1 → word_count (x ∷ xs) ≡ 1 + word_count xs
one_word x xs e = count_cons x xs ∙ ap (λ (n : ℕ). n + word_count xs) e

count_end : (z : ℕ) → word_count (EndEvent z ∷ []) ≡ 3
unfolding all_words words_of
count_end z = refl

-- ---- a lawful tree's leaves are moved through; each level goes on with what comes after it

module _ (h : Bool) where
  samples_moves : (vs : List ℕ) (m n t : ℕ) (xs : List Item) → t + length vs ≤ 512
      → ((n' t' : ℕ) → t' ≡ t + length vs → ((ys : List Item) → n' + word_count ys ≡ n + word_count (of_samples vs ys)) → Moves (sampled h m n' t') xs)
      → Moves (sampled h m n t) (of_samples vs xs)
  unfolding of_samples words_of
  samples_moves [] m n t xs l k = k n t (omega arith) (λ ys. refl)
  samples_moves (v ∷ vs) m n t xs l k =
      move _ _ _ _ (next h m n t v (omega arith))
      (samples_moves vs m (n + 1) (t + 1) xs (omega arith)
      (λ n' t' e f. k n' t' (omega arith) (λ ys. omega (arith, f ys, one_word (Sample v) (of_samples vs ys) refl))))

  run_moves : (v : ℕ) (vs : List ℕ) (m n t : ℕ) (xs : List Item) → t + length vs ≤ 511
      → ((n' t' : ℕ) → t' ≡ t + length vs + 1 → ((ys : List Item) → n' + word_count ys ≡ n + word_count (Sample v ∷ of_samples vs ys)) → Moves (sampled h m n' t') xs)
      → Moves (timed h m n t) (Sample v ∷ of_samples vs xs)
  unfolding words_of
  run_moves v vs m n t xs l k =
      move _ _ _ _ (first h m n t v (omega arith))
      (samples_moves vs m (n + 1) (t + 1) xs (omega arith)
      (λ n' t' e f. k n' t' (omega arith) (λ ys. omega (arith, f ys, one_word (Sample v) (of_samples vs ys) refl))))

  runs_moves : (rs : List Stretch) (m n t : ℕ) (xs : List Item) → Spaced (t + 1) rs
      → ((n' t' : ℕ) → ((ys : List Item) → n' + word_count ys ≡ n + word_count (of_stretches rs ys)) → Moves (sampled h m n' t') xs)
      → Moves (sampled h m n t) (of_stretches rs xs)
  unfolding of_stretches Spaced words_of
  runs_moves [] m n t xs s k = k n t (λ ys. refl)
  runs_moves (stretch u v vs ∷ rs) m n t xs s k =
      move _ _ _ _ (later h m n t u s.0)
      (run_moves v vs m (n + 1) u (of_stretches rs xs) s.1
      (λ n' t' e f. runs_moves rs m n' t' xs (subst (λ (k : ℕ). Spaced k rs) (omega arith) s.2)
      (λ n'' t'' g. k n'' t'' (λ ys. omega (arith, g ys, f (of_stretches rs ys), one_word (TimeBin u) (Sample v ∷ of_samples vs (of_stretches rs ys)) refl)))))

  parts_moves : (ps : List Part) (st : State) (m n : ℕ) (xs : List Item) → Body st h m n → AllSpaced ps → Rising m (channels ps)
      → ((st' : State) (m' n' : ℕ) → Body st' h m' n' → ((ys : List Item) → n' + word_count ys ≡ n + word_count (of_parts ps ys)) → Moves st' xs)
      → Moves st (of_parts ps xs)
  unfolding of_parts AllSpaced Rising channels of_stretches Spaced words_of
  parts_moves [] st m n xs b s r k = k st m n b (λ ys. refl)
  parts_moves (hits a₁ a₂ a₃ ∷ ps) st m n xs b s r k =
      move _ _ _ _ (counts st h m n a₁ a₂ a₃ b)
      (parts_moves ps (amid h m (n + 1)) m (n + 1) xs (free h m (n + 1)) s r
      (λ st' m' n' d f. k st' m' n' d (λ ys. omega (arith, f ys, one_word (HitCount a₁ a₂ a₃) (of_parts ps ys) refl))))
  parts_moves (cell a₁ a₂ ∷ ps) st m n xs b s r k =
      move _ _ _ _ (cells st h m n a₁ a₂ b)
      (parts_moves ps (amid h m (n + 1)) m (n + 1) xs (free h m (n + 1)) s r
      (λ st' m' n' d f. k st' m' n' d (λ ys. omega (arith, f ys, one_word (LastCell a₁ a₂) (of_parts ps ys) refl))))
  parts_moves (pulse a₁ a₂ a₃ (stretch t v vs) rs ∷ ps) st m n xs b s r k =
      let m₂ : ℕ = suc (header_bits a₁ a₂ a₃) in
      move _ _ _ _ (opens st h m n a₁ a₂ a₃ b r.0)
      (move _ _ _ _ (times h m₂ (n + 1) t)
      (run_moves v vs m₂ (n + 1 + 1) t (of_stretches rs (of_parts ps xs)) s.0.1
      (λ n₁ t₁ e f. runs_moves rs m₂ n₁ t₁ (of_parts ps xs) (subst (λ (k : ℕ). Spaced k rs) (omega arith) s.0.2)
      (λ n₂ t₂ g. parts_moves ps (sampled h m₂ n₂ t₂) m₂ n₂ xs (past h m₂ n₂ t₂) s.1 r.1
      (λ st' m' n' d i. k st' m' n' d
      (λ ys. omega (
        arith,
        i ys,
        g (of_parts ps ys),
        f (of_stretches rs (of_parts ps ys)),
        one_word (TimeBin t) (Sample v ∷ of_samples vs (of_stretches rs (of_parts ps ys))) refl,
        one_word (Channel a₁ a₂ a₃) (TimeBin t ∷ Sample v ∷ of_samples vs (of_stretches rs (of_parts ps ys))) refl,
      )))))))

-- an event's parts with which the frame ends
going_moves : (h : Bool) (ps : List Part) (n : ℕ) → Ordered ps → Moves (amid h 0 n) (of_parts ps [])
going_moves h ps n l = parts_moves h ps (amid h 0 n) 0 n [] (free h 0 n) l.0 l.1 (λ st' m' n' d f. done st' (at_body st' h m' n' d))

tail_moves : (o : Tail) → TailOrdered o → Moves out (of_tail o)
tail_moves shut l = done out (at_outer out at_next)
tail_moves (opening t ts n ps) l = move _ _ _ _ (starts out t ts n at_next) (going_moves true ps 6 l)

events_moves : (es : List Event) (o : Tail) → AllEvents es → TailOrdered o → Moves out (of_events es (of_tail o))
unfolding of_events AllEvents words_of
events_moves [] o l u = tail_moves o u
events_moves (event t ts n ps z ∷ es) o l u =
    move _ _ _ _ (starts out t ts n at_next)
    (parts_moves true ps (amid true 0 6) 0 6 (EndEvent z ∷ of_events es (of_tail o)) (free true 0 6) l.0.0 l.0.1
    (λ st' m' n' d f. move _ _ _ _
    (ends st' true m' n' z d (omega (arith, l.1, count_end z, f (EndEvent z ∷ []), count_cons (StartEvent t ts n) (of_parts ps (EndEvent z ∷ [])))))
    (events_moves es o l.2 u)))

-- a data frame begins as it goes on after an event, or with a Continue event
from_begin : (xs : List Item) → Moves out xs → Moves begin xs
from_begin xs (done _ f) = done begin (at_outer begin at_first)
from_begin xs (move _ st' x ys (starts _ t ts n o) ms) = move _ _ _ _ (starts begin t ts n at_first) ms
from_begin _ (move _ _ _ ys (counts _ h m n a b c o) ms) = elim o [ ]
from_begin _ (move _ _ _ ys (cells _ h m n a b o) ms) = elim o [ ]
from_begin _ (move _ _ _ ys (opens _ h m n a b c o _) ms) = elim o [ ]
from_begin _ (move _ _ _ ys (ends _ h m n z o _) ms) = elim o [ ]

pub readout_moves : (r : Readout) → ReadoutOrdered r → Moves begin (of_readout r)
readout_moves (events new es o) l = from_begin (of_events es (of_tail o)) (events_moves es o l.1 l.2)
readout_moves (events (ending n ps z) es o) l =
    move _ _ _ _ (continues n)
    (parts_moves false ps (amid false 0 3) 0 3 (EndEvent z ∷ of_events es (of_tail o)) (free false 0 3) l.0.0 l.0.1
    (λ st' m' n' d f. move _ _ _ _ (ends st' false m' n' z d tt) (events_moves es o l.1 l.2)))
readout_moves (through n ps) l = move _ _ _ _ (continues n) (going_moves false ps 3 l)

bars_moves : (bs : List Bar) (m k : ℕ) (xs : List Item) → Rising k (bin_numbers bs) → ((k' : ℕ) → Moves (filling m k') xs) → Moves (filling m k) (of_bars bs xs)
unfolding of_bars Rising bin_numbers
bars_moves [] m k xs r c = c k
bars_moves (bar b n ∷ bs) m k xs r c = move _ _ _ _ (fills m k b n r.0) (bars_moves bs m (suc b) xs r.1 c)

pedestals_moves : (hs : List Pedestal) (m k : ℕ) → Rising m (histograms hs) → AllBars hs → Moves (filling m k) (of_pedestals hs)
unfolding of_pedestals Rising histograms AllBars
pedestals_moves [] m k r l = done (filling m k) (at_filling m k)
pedestals_moves (pedestal a b c bs ∷ hs) m k r l =
    move _ _ _ _ (heads_next m k a b c r.0)
    (bars_moves bs (suc (header_bits a b c)) 0 (of_pedestals hs) l.0 (λ k'. pedestals_moves hs (suc (header_bits a b c)) k' r.1 l.1))

pub monitor_moves : (hs : List Pedestal) → Rising 0 (histograms hs) → AllBars hs → Moves empty (of_pedestals hs)
unfolding of_pedestals Rising histograms AllBars
monitor_moves [] r l = done empty at_empty
monitor_moves (pedestal a b c bs ∷ hs) r l =
    move _ _ _ _ (heads a b c) (bars_moves bs (suc (header_bits a b c)) 0 (of_pedestals hs) l.0 (λ k'. pedestals_moves hs (suc (header_bits a b c)) k' r.1 l.1))

pub texts_moves : (ss : List (List ℕ)) → Moves texts (of_texts ss)
unfolding of_texts
texts_moves [] = done texts at_texts
texts_moves (s ∷ ss) = move _ _ _ _ (says s) (texts_moves ss)

-- ---- what is moved through is the leaves of a lawful tree

-- what comes after an event's parts: an End event, and then events whole and perhaps a first part; or nothing
pub data After : Type 0 where
  ended : ℕ → List Event → Tail → After
  going : After

abbrev pub of_after : After → List Item
of_after (ended z es o) = EndEvent z ∷ of_events es (of_tail o)
of_after going = []

abbrev pub closing : After → List Item
closing (ended z es o) = EndEvent z ∷ []
closing going = []

abbrev pub AfterLawful : After → Type 0
AfterLawful (ended z es o) = AllEvents es × TailOrdered o
AfterLawful going = Unit {0}

-- the size of an event of k words that began in this frame
abbrev pub Sized : Bool → After → ℕ → Type 0
Sized true (ended z es o) k = z ≡ 2 * k
Sized false (ended z es o) k = Unit {0}
Sized h going k = Unit {0}

-- what is left of the tree in an event; after a sample; after a Time bin; in a histogram
pub record InBody (h : Bool) (m n : ℕ) (xs : List Item) : Type 0 where
  pub parts : List Part
  pub after : After
  pub spaced : AllSpaced parts
  pub rising : Rising m (channels parts)
  pub sized : Sized h after (n + word_count (of_parts parts (closing after)))
  pub lawful : AfterLawful after
  pub leaves : of_parts parts (of_after after) ≡ xs

pub record InStretches (h : Bool) (m n t : ℕ) (xs : List Item) : Type 0 where
  pub samples : List ℕ
  pub runs : List Stretch
  pub parts : List Part
  pub after : After
  pub fits : t + length samples ≤ 512
  pub apart : Spaced (t + length samples + 1) runs
  pub spaced : AllSpaced parts
  pub rising : Rising m (channels parts)
  pub sized : Sized h after (n + word_count (of_samples samples (of_stretches runs (of_parts parts (closing after)))))
  pub lawful : AfterLawful after
  pub leaves : of_samples samples (of_stretches runs (of_parts parts (of_after after))) ≡ xs

pub record InStretch (h : Bool) (m n t : ℕ) (xs : List Item) : Type 0 where
  pub sample : ℕ
  pub rest : List Item
  pub here : Sample sample ∷ rest ≡ xs
  pub fits : t ≤ 511
  pub runs : InStretches h m (n + 1) (t + 1) rest

pub record InChannel (h : Bool) (m n : ℕ) (xs : List Item) : Type 0 where
  pub start : ℕ
  pub rest : List Item
  pub here : TimeBin start ∷ rest ≡ xs
  pub stretch : InStretch h m (n + 1) start rest

pub record InBars (m k : ℕ) (xs : List Item) : Type 0 where
  pub bars : List Bar
  pub pedestals : List Pedestal
  pub bins : Rising k (bin_numbers bars)
  pub rising : Rising m (histograms pedestals)
  pub all : AllBars pedestals
  pub leaves : of_bars bars (of_pedestals pedestals) ≡ xs

abbrev pub Built : State → List Item → Type 0
Built begin xs = (r : Readout) × ReadoutOrdered r × (of_readout r ≡ xs)
Built out xs = (es : List Event) × (o : Tail) × AllEvents es × TailOrdered o × (of_events es (of_tail o) ≡ xs)
Built (amid h m n) xs = InBody h m n xs
Built (opened h m n) xs = InChannel h m n xs
Built (timed h m n t) xs = InStretch h m n t xs
Built (sampled h m n t) xs = InStretches h m n t xs
Built empty xs = (hs : List Pedestal) × Rising 0 (histograms hs) × AllBars hs × (of_pedestals hs ≡ xs)
Built (filling m k) xs = InBars m k xs
Built texts xs = (ss : List (List ℕ)) × (of_texts ss ≡ xs)

-- the next sample's time after one at 511 at most
abbrev Timely : State → Type 0
Timely begin = Unit {0}
Timely out = Unit {0}
Timely (amid h m n) = Unit {0}
Timely (opened h m n) = Unit {0}
Timely (timed h m n t) = Unit {0}
Timely (sampled h m n t) = t ≤ 512
Timely empty = Unit {0}
Timely (filling m k) = Unit {0}
Timely texts = Unit {0}

-- a part may come after a channel's last sample
in_body : (st : State) (h : Bool) (m n : ℕ) (xs : List Item) → Body st h m n → Timely st → InBody h m n xs → Built st xs
unfolding of_samples of_stretches Spaced
in_body st h m n xs (free _ _ _) u b = b
in_body st h m n xs (past _ _ _ t) u b =
    record {
      samples = [];
      runs = [];
      parts = b.parts;
      after = b.after;
      fits = omega arith;
      apart = tt;
      spaced = b.spaced;
      rising = b.rising;
      sized = b.sized;
      lawful = b.lawful;
      leaves = b.leaves;
    }

-- a Channel before its runs is a part
channel_part : (h : Bool) (m n a b c : ℕ) (xs : List Item) → m ≤ header_bits a b c → InChannel h (suc (header_bits a b c)) (n + 1) xs → InBody h m n (Channel a b c ∷ xs)
unfolding of_stretches of_parts Rising Spaced AllSpaced channels words_of
channel_part h m n a b c xs l i =
    let r = i.stretch in
    let f = r.runs in
    let tail : List Item = of_parts f.parts (closing f.after) in
    let counted : List Item = of_samples f.samples (of_stretches f.runs tail) in
    let sampled : List Item = Sample r.sample ∷ counted in
    record {
      parts = pulse a b c (stretch i.start r.sample f.samples) f.runs ∷ f.parts;
      after = f.after;
      spaced = ((omega arith, omega (arith, f.fits), subst (λ (k : ℕ). Spaced k f.runs) (omega arith) f.apart), f.spaced);
      rising = (l, f.rising);
      sized = subst (Sized h f.after)
          (omega (arith, one_word (Sample r.sample) counted refl, one_word (TimeBin i.start) sampled refl, one_word (Channel a b c) (TimeBin i.start ∷ sampled) refl))
          f.sized;
      lawful = f.lawful;
      leaves =
          ap (λ (l : List Item). Channel a b c ∷ TimeBin i.start ∷ Sample r.sample ∷ l) f.leaves
          ∙ ap (λ (l : List Item). Channel a b c ∷ TimeBin i.start ∷ l) r.here
          ∙ ap (λ (l : List Item). Channel a b c ∷ l) i.here;
    }

-- a Time bin after a sample begins a further run
later_run : (h : Bool) (m n t u : ℕ) (xs : List Item) → t ≤ 512 → t + 1 ≤ u → InStretch h m (n + 1) u xs → InStretches h m n t (TimeBin u ∷ xs)
unfolding of_samples of_stretches Spaced words_of
later_run h m n t u xs i l r =
    let f = r.runs in
    let tail : List Item = of_parts f.parts (closing f.after) in
    let counted : List Item = of_samples f.samples (of_stretches f.runs tail) in
    record {
      samples = [];
      runs = stretch u r.sample f.samples ∷ f.runs;
      parts = f.parts;
      after = f.after;
      fits = omega arith;
      apart = (omega arith, omega (arith, f.fits), subst (λ (k : ℕ). Spaced k f.runs) (omega arith) f.apart);
      spaced = f.spaced;
      rising = f.rising;
      sized = subst (Sized h f.after) (omega (arith, one_word (Sample r.sample) counted refl, one_word (TimeBin u) (Sample r.sample ∷ counted) refl)) f.sized;
      lawful = f.lawful;
      leaves = ap (λ (l : List Item). TimeBin u ∷ Sample r.sample ∷ l) f.leaves ∙ ap (λ (l : List Item). TimeBin u ∷ l) r.here;
    }

-- a.stretch event before what is left of its event: an event whole and what comes after it, or a first part
started : (t ts n : ℕ) (xs : List Item) → InBody true 0 6 xs → Built out (StartEvent t ts n ∷ xs)
unfolding of_events AllEvents words_of
started t ts n xs b = go b.after b.sized b.lawful b.leaves
  where
    go : (a : After) → Sized true a (6 + word_count (of_parts b.parts (closing a))) → AfterLawful a → of_parts b.parts (of_after a) ≡ xs → Built out (StartEvent t ts n ∷ xs)
    go (ended z es o) e l f = (
      event t ts n b.parts z ∷ es,
      o,
      ((b.spaced, b.rising), omega (arith, e, count_cons (StartEvent t ts n) (of_parts b.parts (EndEvent z ∷ []))), l.0),
      l.1,
      ap (λ (l : List Item). StartEvent t ts n ∷ l) f,
    )
    go going e l f = ([], opening t ts n b.parts, tt, (b.spaced, b.rising), ap (λ (l : List Item). StartEvent t ts n ∷ l) f)

-- and a Continue event before what is left of its event
continued : (n : ℕ) (xs : List Item) → InBody false 0 3 xs → Built begin (ContinueEvent n ∷ xs)
continued n xs b = go b.after b.lawful b.leaves
  where
    go : (a : After) → AfterLawful a → of_parts b.parts (of_after a) ≡ xs → Built begin (ContinueEvent n ∷ xs)
    go (ended z es o) l f = (events (ending n b.parts z) es o, ((b.spaced, b.rising), l.0, l.1), ap (λ (l : List Item). ContinueEvent n ∷ l) f)
    go going l f = (through n b.parts, (b.spaced, b.rising), ap (λ (l : List Item). ContinueEvent n ∷ l) f)

-- a data frame begins as it goes on after an event
outer : (st : State) (xs : List Item) → Outer st → Built out xs → Built st xs
outer st xs at_next b = b
outer st xs at_first b = let (es, o, l, u, e) = b in (events new es o, (tt, l, u), e)

pub build : (xs : List Item) (st : State) → Moves st xs → Timely st → Built st xs
unfolding of_samples of_stretches of_parts of_events of_bars of_pedestals of_texts Rising Spaced AllSpaced channels AllEvents bin_numbers histograms AllBars words_of
build xs st (done _ (at_outer _ o)) h = outer st [] o ([], shut, tt, tt, refl)
build xs st (done _ (at_body _ b m n d)) h =
    in_body st b m n [] d h (record { parts = []; after = going; spaced = tt; rising = tt; sized = sized_going b; lawful = tt; leaves = refl })
  where
    sized_going : (b : Bool) → Sized b going (n + 0)
    sized_going true = tt
    sized_going false = tt
build xs st (done _ at_empty) h = ([], tt, tt, refl)
build xs st (done _ (at_filling m k)) h = record { bars = []; pedestals = []; bins = tt; rising = tt; all = tt; leaves = refl }
build xs st (done _ at_texts) h = ([], refl)
build xs st (move _ _ _ ys (starts _ t ts n o) ms) h = outer st xs o (started t ts n ys (build ys (amid true 0 6) ms tt))
build xs st (move _ _ _ ys (continues n) ms) h = continued n ys (build ys (amid false 0 3) ms tt)
build xs st (move _ _ _ ys (counts _ g m n a₁ a₂ a₃ d) ms) h =
    let b = build ys (amid g m (n + 1)) ms tt in
    in_body st g m n xs d h
    (record {
      parts = hits a₁ a₂ a₃ ∷ b.parts;
      after = b.after;
      spaced = b.spaced;
      rising = b.rising;
      sized = subst (Sized g b.after) (omega (arith, one_word (HitCount a₁ a₂ a₃) (of_parts b.parts (closing b.after)) refl)) b.sized;
      lawful = b.lawful;
      leaves = ap (λ (l : List Item). HitCount a₁ a₂ a₃ ∷ l) b.leaves;
    })
build xs st (move _ _ _ ys (cells _ g m n a₁ a₂ d) ms) h =
    let b = build ys (amid g m (n + 1)) ms tt in
    in_body st g m n xs d h
    (record {
      parts = cell a₁ a₂ ∷ b.parts;
      after = b.after;
      spaced = b.spaced;
      rising = b.rising;
      sized = subst (Sized g b.after) (omega (arith, one_word (LastCell a₁ a₂) (of_parts b.parts (closing b.after)) refl)) b.sized;
      lawful = b.lawful;
      leaves = ap (λ (l : List Item). LastCell a₁ a₂ ∷ l) b.leaves;
    })
build xs st (move _ _ _ ys (opens _ g m n a₁ a₂ a₃ d l) ms) h =
    in_body st g m n xs d h (channel_part g m n a₁ a₂ a₃ ys l (build ys (opened g (suc (header_bits a₁ a₂ a₃)) (n + 1)) ms tt))
build xs st (move _ _ _ ys (ends _ g m n z d e) ms) h =
    let (es, o, l, u, f) = build ys out ms tt in
    in_body st g m n xs d h
    (record {
      parts = [];
      after = ended z es o;
      spaced = tt;
      rising = tt;
      sized = end_sized g e es o;
      lawful = (l, u);
      leaves = ap (λ (l : List Item). EndEvent z ∷ l) f;
    })
  where
    end_sized : (g : Bool) → EndSize g n z → (es : List Event) → (o : Tail) → Sized g (ended z es o) (n + word_count (EndEvent z ∷ []))
    end_sized true e es o = omega (arith, e, count_end z)
    end_sized false e es o = tt
build xs st (move _ _ _ ys (times g m n t) ms) h = record { start = t; rest = ys; here = refl; stretch = build ys (timed g m (n + 1) t) ms tt }
build xs st (move _ _ _ ys (first g m n t v l) ms) h =
    record { sample = v; rest = ys; here = refl; fits = l; runs = build ys (sampled g m (n + 1) (t + 1)) ms (omega arith) }
build xs st (move _ _ _ ys (next g m n t v l) ms) h =
    let b = build ys (sampled g m (n + 1) (t + 1)) ms (omega arith) in
    record {
      samples = v ∷ b.samples;
      runs = b.runs;
      parts = b.parts;
      after = b.after;
      fits = omega (arith, b.fits);
      apart = subst (λ (k : ℕ). Spaced k b.runs) (omega arith) b.apart;
      spaced = b.spaced;
      rising = b.rising;
      sized = subst (Sized g b.after)
          (omega (arith, one_word (Sample v) (of_samples b.samples (of_stretches b.runs (of_parts b.parts (closing b.after)))) refl)) b.sized;
      lawful = b.lawful;
      leaves = ap (λ (l : List Item). Sample v ∷ l) b.leaves;
    }
build xs st (move _ _ _ ys (later g m n t u l) ms) h = later_run g m n t u ys h l (build ys (timed g m (n + 1) u) ms tt)
build xs st (move _ _ _ ys (heads a b c) ms) h =
    let f = build ys (filling (suc (header_bits a b c)) 0) ms tt in
    (pedestal a b c f.bars ∷ f.pedestals, (omega arith, f.rising), (f.bins, f.all), ap (λ (l : List Item). Histogram a b c ∷ l) f.leaves)
build xs st (move _ _ _ ys (heads_next m k a b c l) ms) h =
    let f = build ys (filling (suc (header_bits a b c)) 0) ms tt in
    record {
      bars = [];
      pedestals = pedestal a b c f.bars ∷ f.pedestals;
      bins = tt;
      rising = (l, f.rising);
      all = (f.bins, f.all);
      leaves = ap (λ (l : List Item). Histogram a b c ∷ l) f.leaves;
    }
build xs st (move _ _ _ ys (fills m k b n l) ms) h =
    let f = build ys (filling m (suc b)) ms tt in
    record {
      bars = bar b n ∷ f.bars;
      pedestals = f.pedestals;
      bins = (l, f.bins);
      rising = f.rising;
      all = f.all;
      leaves = ap (λ (l : List Item). Bin b n ∷ l) f.leaves;
    }
build xs st (move _ _ _ ys (says s) ms) h =
    let (ss, l) = build ys texts ms tt in
    (s ∷ ss, ap (λ (l : List Item). Text s ∷ l) l)
