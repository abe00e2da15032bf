-- Why a frame does not link: the tests of an assembler's step against document 02's reasons, both ways.
-- Assumes nothing.
use Prim.Native.Nat.{ℕ, ◌+◌, ◌^◌, ◌<◌, ◌≤◌}
use mathlib.Core.Path.{◌≡◌, refl, sym, ap, ap₂, ◌∙◌}
use mathlib.Core.List.{List, [], ◌∷◌, ◌++◌}
use mathlib.Core.Bool.{Bool, true, false, ◌&&◌, true≢false}
use mathlib.Core.Logic.{◌↔◌}
use mathlib.Core.Option.{Option, none, some}
use native.Mathlib.Omega.{arith}
use lib.Dec.{leb, ltb, eqb}
use lib.ListN.{length, length-append}
use borrow.Author.Tests.{leb-false, lt-leb, eqb-false, ne_eqb, ltb-true, ltb-false, le-ltb}
use Rattle.format.specs.Words.{pick}
use Rattle.format.specs.Book.{end_event}
use Rattle.format.specs.Items.{Item, Channel, Histogram, HitCount, Sample, Bin, LastCell, TimeBin, Text, StartEvent, ContinueEvent, EndEvent, class_for, words_of, fits, key}
use Rattle.format.specs.Rules.{Kind, data_kind, monitor_kind, command_kind, same, gather, channel_key}
use Rattle.format.specs.Frames.{Frame, Sound, all_words, Legal}
use Rattle.format.specs.Questions.{end_size, head_of, until}
use Rattle.format.proofs.rules.SoundLaws.{starts, continues, Seen, opening, ends, other, seen}
use Rattle.format.proofs.questions.ItemQuestions.{no_some, some_is, all_words_lem}
use Rattle.format.proofs.verdict.WalkLaws.{allowed_fits}
use Rattle.runs.specs.Assembly.{Open, Assembler, continued, is_none, is_number, from, part_bytes, size_goes_on, goes_on, linked, is_data}
use Rattle.runs.specs.Runs.{bytes_of, BeginsWith}
use Rattle.runs.specs.Reasons.{part, Unlinked, no_data, other_card, loss_inside, not_continued, other_number, not_rising, other_size, past32_bits, none_open}
use Rattle.runs.proofs.joins.ListLaws.{gather_append}
use Rattle.runs.proofs.joins.BeginLaws.{continued_is}

-- ---- a frame's part of the open event

-- with its End event, or the whole of it
pub data Parted (xs : List Item) : Type 0 where
  goes_on_here : head_of (gather end_size xs) ≡ none → part xs ≡ until end_event xs → Parted xs
  ends_here : (z : ℕ) → head_of (gather end_size xs) ≡ some z → part xs ≡ until end_event xs ++ (EndEvent z ∷ []) → Parted xs

pub parted : (xs : List Item) → Parted xs
unfolding gather part until
parted [] = goes_on_here refl refl
parted (x ∷ xs) = go (seen x) (parted xs)
  where
    plain : same end_event (class_for x) ≡ false → end_size x ≡ [] → Parted xs → Parted (x ∷ xs)
    plain n e (goes_on_here h i) =
        goes_on_here (ap (λ (l : List ℕ). head_of (l ++ gather end_size xs)) e ∙ h)
        (ap₂ (λ (b : Bool) (l : List Item). x ∷ pick b [] l) n i ∙ sym (ap (λ (b : Bool). pick b [] (x ∷ until end_event xs)) n))
    plain n e (ends_here z h i) =
        ends_here z (ap (λ (l : List ℕ). head_of (l ++ gather end_size xs)) e ∙ h)
        (ap₂ (λ (b : Bool) (l : List Item). x ∷ pick b [] l) n i ∙ sym (ap (λ (b : Bool). pick b [] (x ∷ until end_event xs) ++ (EndEvent z ∷ [])) n))

    go : Seen x → Parted xs → Parted (x ∷ xs)
    go (opening (starts t ts n i)) h = plain (rw i) (ap end_size i) h
    go (opening (continues n i)) h = plain (rw i) (ap end_size i) h
    go (ends z i) h =
        ends_here z (ap (λ (y : Item). head_of (end_size y ++ gather end_size xs)) i)
        (ap (λ (y : Item). y ∷ pick (same end_event (class_for y)) [] (part xs)) i ∙ sym (ap (λ (y : Item). pick (same end_event (class_for y)) [] (y ∷ until end_event xs) ++ (EndEvent z ∷ [])) i))
    go (other d) h = plain d.no_end d.no_size h

-- before its End event no size is given
none_before : (xs : List Item) → gather end_size (until end_event xs) ≡ []
unfolding gather until
none_before [] = refl
none_before (x ∷ xs) = go (seen x) (none_before xs)
  where
    Goal : Type 0
    Goal = gather end_size (pick (same end_event (class_for x)) [] (x ∷ until end_event xs)) ≡ []

    plain : same end_event (class_for x) ≡ false → end_size x ≡ [] → gather end_size (until end_event xs) ≡ [] → Goal
    plain n e h = rw (n, e) h

    go : Seen x → gather end_size (until end_event xs) ≡ [] → Goal
    go (opening (starts t ts n i)) h = plain (rw i) (ap end_size i) h
    go (opening (continues n i)) h = plain (rw i) (ap end_size i) h
    go (ends z i) h = rw i
    go (other d) h = plain d.no_end d.no_size h

ended_bytes : (xs : List Item) (z : ℕ) → bytes_of (xs ++ (EndEvent z ∷ [])) ≡ bytes_of xs + 6
unfolding all_words words_of
ended_bytes xs z =
    let e : length (all_words (xs ++ (EndEvent z ∷ []))) ≡ length (all_words xs ++ all_words (EndEvent z ∷ [])) = ap length (all_words_lem xs (EndEvent z ∷ [])) in
    omega (arith, length-append (all_words xs) (all_words (EndEvent z ∷ [])))

part_keys : (xs : List Item) → gather channel_key (part xs) ≡ gather channel_key (until end_event xs)
unfolding gather
part_keys xs = go (parted xs)
  where
    end_nil : (l : List ℕ) → l ++ [] ≡ l
    end_nil [] = refl
    end_nil (n ∷ l) = ap (λ (m : List ℕ). n ∷ m) (end_nil l)

    go : Parted xs → gather channel_key (part xs) ≡ gather channel_key (until end_event xs)
    go (goes_on_here h i) = ap (gather channel_key) i
    go (ends_here z h i) = ap (gather channel_key) i ∙ gather_append channel_key (until end_event xs) (EndEvent z ∷ []) ∙ end_nil (gather channel_key (until end_event xs))

-- ---- channel headers that do not rise

pub record Low (k : ℕ) (xs : List Item) : Type 0 where
  pub before : List Item
  pub card : ℕ
  pub chip : ℕ
  pub channel : ℕ
  pub behind : List Item
  pub are : xs ≡ before ++ (Channel card chip channel ∷ behind)
  pub low : key card chip channel < k

some_low : (k : ℕ) (xs : List Item) → from k (gather channel_key xs) ≡ false → Low k xs
unfolding gather from
some_low k [] e = absurd (true≢false e)
some_low k (x ∷ xs) e = go x e (some_low k xs)
  where
    later : (y : Item) → Low k xs → Low k (y ∷ xs)
    later y h =
        record {
          before = y ∷ h.before;
          card = h.card;
          chip = h.chip;
          channel = h.channel;
          behind = h.behind;
          are = ap (λ (l : List Item). y ∷ l) h.are;
          low = h.low;
        }

    go : (y : Item) → from k (channel_key y ++ gather channel_key xs) ≡ false → (from k (gather channel_key xs) ≡ false → Low k xs) → Low k (y ∷ xs)
    go (Channel a b c) n h = test (leb k (key a b c)) refl n
      where
        test : (t : Bool) → leb k (key a b c) ≡ t → t && from k (gather channel_key xs) ≡ false → Low k (Channel a b c ∷ xs)
        test true p m = later (Channel a b c) (h m)
        test false p m = record { before = []; card = a; chip = b; channel = c; behind = xs; are = refl; low = leb-false k (key a b c) p }
    go (Histogram a b c) n h = later (Histogram a b c) (h n)
    go (HitCount a b c) n h = later (HitCount a b c) (h n)
    go (Sample v) n h = later (Sample v) (h n)
    go (Bin b m) n h = later (Bin b m) (h n)
    go (LastCell a b) n h = later (LastCell a b) (h n)
    go (TimeBin t) n h = later (TimeBin t) (h n)
    go (Text s) n h = later (Text s) (h n)
    go (StartEvent t ts m) n h = later (StartEvent t ts m) (h n)
    go (ContinueEvent m) n h = later (ContinueEvent m) (h n)
    go (EndEvent m) n h = later (EndEvent m) (h n)

from_low : (k m : ℕ) (ns bs : List ℕ) → m < k → from k (ns ++ (m ∷ bs)) ≡ false
unfolding from
from_low k m [] bs h = rw (lt-leb k m h)
from_low k m (n ∷ ns) bs h = rw (from_low k m ns bs h) (and_false (leb k n))
  where
    and_false : (b : Bool) → b && false ≡ false
    and_false true = refl
    and_false false = refl

low_false : (k : ℕ) (xs ys zs : List Item) (a b c : ℕ) → xs ≡ ys ++ (Channel a b c ∷ zs) → key a b c < k → from k (gather channel_key xs) ≡ false
unfolding gather
low_false k xs ys zs a b c e h =
    ap (λ (l : List Item). from k (gather channel_key l)) e ∙ ap (from k) (gather_append channel_key ys (Channel a b c ∷ zs))
    ∙ from_low k (key a b c) (gather channel_key ys) (gather channel_key zs) h

-- ---- an End event's size is of 32 bits by the frame's own rules

limited : (kind : Kind) (card z : ℕ) (p xs : List Item) → Sound kind card p xs → head_of (gather end_size xs) ≡ some z → z < 4294967296
unfolding Sound gather
limited kind card z p [] s e = no_some z e
limited kind card z p (x ∷ xs) s e = go (seen x) (limited kind card z (x ∷ p) xs s.1)
  where
    More : Type 0
    More = head_of (gather end_size xs) ≡ some z → z < 4294967296

    skip : end_size x ≡ [] → More → z < 4294967296
    skip n r = r (ap (λ (l : List ℕ). head_of (l ++ gather end_size xs)) (sym n) ∙ e)

    go : Seen x → More → z < 4294967296
    go (opening (starts t ts n i)) r = skip (ap end_size i) r
    go (opening (continues n i)) r = skip (ap end_size i) r
    go (ends n i) r =
        let w : n ≡ z = some_is n z (ap (λ (y : Item). head_of (end_size y ++ gather end_size xs)) (sym i) ∙ e) in
        let f : ltb n 4294967296 ≡ true = ap fits (sym i) ∙ allowed_fits kind card p x s.0 in
        let g = ltb-true n 4294967296 f in
        omega arith
    go (other d) r = skip d.no_size r

-- ---- the tests and the reasons

data_kind_lem : (k : Kind) → is_data k ≡ false → k ≡ data_kind → ⊥
data_kind_lem data_kind e i = true≢false e
data_kind_lem monitor_kind e i = true≢false (ap is_data (sym i))
data_kind_lem command_kind e i = true≢false (ap is_data (sym i))

other_kind : (k : Kind) → (k ≡ data_kind → ⊥) → is_data k ≡ false
other_kind data_kind h = absurd (h refl)
other_kind monitor_kind h = refl
other_kind command_kind h = refl

and_first : (a b : Bool) → a ≡ false → a && b ≡ false
and_first a b e = rw e

and_second : (a b : Bool) → b ≡ false → a && b ≡ false
and_second true b e = e
and_second false b e = refl

module _ (a : Assembler) (lost : ℕ) (f : Frame) (legal : Legal f) where
  abbrev xs : List Item
  xs = f.items

  -- an event is open
  module _ (o : Open) (e : a.event ≡ some o) where
    abbrev A : Bool
    A = eqb lost 0

    abbrev B : Bool
    B = is_number o.number (continued xs)

    abbrev C : Bool
    C = from o.key (gather channel_key (until end_event xs))

    abbrev D : Bool
    D = size_goes_on (o.size + part_bytes xs) (head_of (gather end_size xs))

    number_due : (c : Option ℕ) → continued xs ≡ c → is_number o.number c ≡ false → Unlinked a lost f
    number_due none i t = not_continued o e (λ n h. no_some n (sym i ∙ ap continued h.1))
    number_due (some n) i t = other_number o n e (continued_is xs n i) (λ j. eqb-false o.number n t (sym j))

    low_due : C ≡ false → Unlinked a lost f
    low_due t =
        let l = some_low o.key (part xs) (ap (from o.key) (part_keys xs) ∙ t) in
        not_rising o l.before l.behind l.card l.chip l.channel e l.are l.low

    size_due : Parted xs → D ≡ false → Unlinked a lost f
    size_due (goes_on_here h i) t =
        let b : bytes_of (part xs) ≡ part_bytes xs = ap (λ (l : List Item). bytes_of l) i in
        let g = ltb-false (o.size + part_bytes xs) 4294967296 (ap (size_goes_on (o.size + part_bytes xs)) (sym h) ∙ t) in
        past32_bits o e (omega arith)
    size_due (ends_here z h i) t =
        let b : bytes_of (part xs) ≡ part_bytes xs + 6 = ap (λ (l : List Item). bytes_of l) i ∙ ended_bytes (until end_event xs) z in
        other_size o (until end_event xs) z e i
        (λ j. eqb-false z (o.size + part_bytes xs + 6) (ap (size_goes_on (o.size + part_bytes xs)) (sym h) ∙ t) (omega arith))

    open_due : A && B && C && D ≡ false → Unlinked a lost f
    open_due t = go A refl B refl C refl D refl t
      where
        go : (p : Bool) → A ≡ p → (q : Bool) → B ≡ q → (r : Bool) → C ≡ r → (s : Bool) → D ≡ s → p && q && r && s ≡ false → Unlinked a lost f
        go false g q h r i s j t = loss_inside o e (let n = eqb-false lost 0 g in positive lost n)
          where
            positive : (n : ℕ) → (n ≡ 0 → ⊥) → 0 < n
            positive n h = omega arith
        go true g false h r i s j t = number_due (continued xs) refl h
        go true g true h false i s j t = low_due i
        go true g true h true i false j t = size_due (parted xs) j
        go true g true h true i true j t = absurd (true≢false t)

    loss_refused : 0 < lost → A && B && C && D ≡ false
    loss_refused h = and_first (A && B && C) D (and_first (A && B) C (and_first A B (ne_eqb lost 0 (λ i. omega arith))))

    number_refused : B ≡ false → A && B && C && D ≡ false
    number_refused h = and_first (A && B && C) D (and_first (A && B) C (and_second A B h))

    not_continued_lem : ((n : ℕ) → BeginsWith (ContinueEvent n) xs → ⊥) → (c : Option ℕ) → continued xs ≡ c → B ≡ false
    not_continued_lem h none i = ap (is_number o.number) i
    not_continued_lem h (some n) i = absurd (h n (continued_is xs n i))

    low_refused : C ≡ false → A && B && C && D ≡ false
    low_refused h = and_first (A && B && C) D (and_second (A && B) C h)

    last_refused : D ≡ false → A && B && C && D ≡ false
    last_refused h = and_second (A && B && C) D h

    -- an End event is the last item of its part
    one_size : (ys : List Item) (n z : ℕ) → until end_event xs ++ (EndEvent z ∷ []) ≡ ys ++ (EndEvent n ∷ []) → n ≡ z
    unfolding gather
    one_size ys n z i =
        let g = ap (gather end_size) i in
        let h : gather end_size (until end_event xs ++ (EndEvent z ∷ [])) ≡ z ∷ [] =
        gather_append end_size (until end_event xs) (EndEvent z ∷ []) ∙ ap (λ (l : List ℕ). l ++ (z ∷ [])) (none_before xs) in
        last (gather end_size ys) (sym h ∙ g ∙ gather_append end_size ys (EndEvent n ∷ []))
      where
        last : (l : List ℕ) → z ∷ [] ≡ l ++ (n ∷ []) → n ≡ z
        last [] j = cc
        last (m ∷ []) j = let c : ◌≡◌ {A = ℕ} 0 1 = cc in absurd (omega arith)
        last (m ∷ k ∷ l) j = let c : ◌≡◌ {A = ℕ} 0 1 = cc in absurd (omega arith)

    no_size_there : (ys : List Item) (n : ℕ) → until end_event xs ≡ ys ++ (EndEvent n ∷ []) → ⊥
    unfolding gather
    no_size_there ys n i = none (gather end_size ys) (sym (none_before xs) ∙ ap (gather end_size) i ∙ gather_append end_size ys (EndEvent n ∷ []))
      where
        none : (l : List ℕ) → [] ≡ l ++ (n ∷ []) → ⊥
        none [] j = let c : ◌≡◌ {A = ℕ} 0 1 = cc in omega arith
        none (m ∷ l) j = let c : ◌≡◌ {A = ℕ} 0 1 = cc in omega arith

    size_refused : Parted xs → (ys : List Item) (n : ℕ) → part xs ≡ ys ++ (EndEvent n ∷ []) → (n ≡ o.size + bytes_of (part xs) → ⊥) → D ≡ false
    size_refused (goes_on_here h i) ys n j d = absurd (no_size_there ys n (sym i ∙ j))
    size_refused (ends_here z h i) ys n j d =
        let b : bytes_of (part xs) ≡ part_bytes xs + 6 = ap (λ (l : List Item). bytes_of l) i ∙ ended_bytes (until end_event xs) z in
        let w = one_size ys n z (sym i ∙ j) in
        ap (size_goes_on (o.size + part_bytes xs)) h ∙ ne_eqb z (o.size + part_bytes xs + 6) (λ k. d (omega arith))

    bits_refused : Parted xs → 2 ^ 32 ≤ o.size + bytes_of (part xs) → D ≡ false
    bits_refused (goes_on_here h i) l =
        let b : bytes_of (part xs) ≡ part_bytes xs = ap (λ (l : List Item). bytes_of l) i in
        ap (size_goes_on (o.size + part_bytes xs)) h ∙ le-ltb (o.size + part_bytes xs) 4294967296 (omega arith)
    bits_refused (ends_here z h i) l =
        let b : bytes_of (part xs) ≡ part_bytes xs + 6 = ap (λ (l : List Item). bytes_of l) i ∙ ended_bytes (until end_event xs) z in
        let m = limited f.kind f.card z [] xs legal.sound h in
        ap (size_goes_on (o.size + part_bytes xs)) h ∙ ne_eqb z (o.size + part_bytes xs + 6) (λ k. omega arith)

  abbrev pub tested : Bool
  tested = is_data f.kind && eqb f.card a.card && linked a.event lost xs

  -- THE LAW of 15: the tests fail exactly where document 02 has a reason
  pub due : (tested ≡ false) ↔ Unlinked a lost f
  due = (forth, back)
    where
      shut : (c : Option ℕ) → continued xs ≡ c → a.event ≡ none → is_none c ≡ false → Unlinked a lost f
      shut none i e t = absurd (true≢false t)
      shut (some n) i e t = none_open n e (continued_is xs n i)

      links : (ev : Option Open) → a.event ≡ ev → linked ev lost xs ≡ false → Unlinked a lost f
      links none e t = shut (continued xs) refl e t
      links (some o) e t = open_due o e t

      forth : tested ≡ false → Unlinked a lost f
      forth t = go (is_data f.kind) refl (eqb f.card a.card) refl t
        where
          go : (p : Bool) → is_data f.kind ≡ p → (q : Bool) → eqb f.card a.card ≡ q → p && q && linked a.event lost xs ≡ false → Unlinked a lost f
          go false g q h t = no_data (data_kind_lem f.kind g)
          go true g false h t = other_card (eqb-false f.card a.card h)
          go true g true h t = links a.event refl t

      K : Bool
      K = is_data f.kind

      N : Bool
      N = eqb f.card a.card

      L : Bool
      L = linked a.event lost xs

      opened : (o : Open) → a.event ≡ some o → goes_on o lost xs ≡ false → tested ≡ false
      opened o e h = and_second (K && N) L (ap (λ (ev : Option Open). linked ev lost xs) e ∙ h)

      back : Unlinked a lost f → tested ≡ false
      back (no_data h) = and_first (K && N) L (and_first K N (other_kind f.kind h))
      back (other_card h) = and_first (K && N) L (and_second K N (ne_eqb f.card a.card h))
      back (loss_inside o e h) = opened o e (loss_refused o e h)
      back (not_continued o e h) = opened o e (number_refused o e (not_continued_lem o e h (continued xs) refl))
      back (other_number o n e h i) = opened o e (number_refused o e (ap (λ (l : List Item). is_number o.number (continued l)) h.1 ∙ ne_eqb o.number n (λ j. i (sym j))))
      back (not_rising o ys zs b c d e i h) = opened o e (low_refused o e (ap (from o.key) (sym (part_keys xs)) ∙ low_false o.key (part xs) ys zs b c d i h))
      back (other_size o ys n e i h) = opened o e (last_refused o e (size_refused o e (parted xs) ys n i h))
      back (past32_bits o e h) = opened o e (last_refused o e (bits_refused o e (parted xs) h))
      back (none_open n e h) = and_second (K && N) L (ap (λ (ev : Option Open). linked ev lost xs) e ∙ ap (λ (l : List Item). is_none (continued l)) h.1)
