-- D15 in document 01's words: every Sample and every Bin of an accepted frame is a spot at its first word, of kind 1 or 2, with its value and
-- the latest Channel or Histogram header before it, which there is; and no spot stands within an item.
-- Assumes nothing.
use Prim.Native.Nat.{ℕ, ◌+◌, ◌≤◌, ◌<◌}
use mathlib.Core.Path.{◌≡◌, refl, sym, ap, subst, ◌∙◌}
use mathlib.Core.List.{List, [], ◌∷◌, ◌++◌, append_assoc, append-nil}
use mathlib.Core.Bool.{Bool, true, false, ◌||◌, true≢false}
use mathlib.Core.Option.{none, some}
use native.Mathlib.Omega.{arith}
use lib.ListN.{length}
use Rattle.format.specs.Words.{pick, Bytes}
use Rattle.format.specs.Answers.{accepted}
use Rattle.format.specs.Book.{Class, channel, histogram, sample, bin, time_bin}
use Rattle.format.specs.Items.{Item, Channel, Histogram, HitCount, Sample, Bin, LastCell, TimeBin, Text, StartEvent, ContinueEvent, EndEvent, class_for, words_of}
use Rattle.format.specs.Rules.{Kind, data_kind, monitor_kind, command_kind, same, since, count, in_event, ReaderMode, fresh, outside, inside, after_channel, after_time, after_sample, unheaded, headed, commands, inside_after, mode_after, allowed, among}
use Rattle.format.specs.Frames.{Frame, Allowed, Sound, all_words, verdict}
use Rattle.format.specs.Spots.{Header, no_header, Spot, spot_of, spot_in, spot, under, under_all, SpotIs}
use Rattle.format.proofs.rules.SoundLaws.{tally, tally_zero, sound_head, sound_tail}
use Rattle.format.proofs.questions.ItemQuestions.{no_some, some_is}
use Rattle.format.proofs.verdict.Acceptance.{sound}
use Rattle.format.proofs.spots.SpotLaws.{spot_within}
use Rattle.format.proofs.spots.PutLaws.{spot_in_lem, spot_is}

-- no header among some items
pub record Headless (xs : List Item) : Type 0 where
  pub channels : count channel xs ≡ 0
  pub histograms : count histogram xs ≡ 0

under_other : (k : Header) (x : Item) → same channel (class_for x) ≡ false → same histogram (class_for x) ≡ false → under k x ≡ k
under_other k (Channel a b c) p q = absurd (true≢false p)
under_other k (Histogram a b c) p q = absurd (true≢false q)
under_other k (HitCount a b c) p q = refl
under_other k (Sample v) p q = refl
under_other k (Bin b n) p q = refl
under_other k (LastCell a b) p q = refl
under_other k (TimeBin t) p q = refl
under_other k (Text s) p q = refl
under_other k (StartEvent t ts n) p q = refl
under_other k (ContinueEvent n) p q = refl
under_other k (EndEvent n) p q = refl

headless : (k : Header) (xs : List Item) → Headless xs → under_all k xs ≡ k
unfolding under_all count
headless k [] h = refl
headless k (x ∷ xs) h =
    let c = h.channels in
    let d = h.histograms in
    let p : tally (same channel (class_for x)) ≡ 0 = omega arith in
    let q : tally (same histogram (class_for x)) ≡ 0 = omega arith in
    ap (λ (j : Header). under_all j xs) (under_other k x (tally_zero (same channel (class_for x)) p) (tally_zero (same histogram (class_for x)) q))
    ∙ headless k xs (record { channels = omega arith; histograms = omega arith })

under_append : (k : Header) (xs ys : List Item) → under_all k (xs ++ ys) ≡ under_all (under_all k xs) ys
unfolding under_all
under_append k [] ys = refl
under_append k (x ∷ xs) ys = under_append (under k x) xs ys

-- the latest header
under_header : (k j : Header) (xs : List Item) (x : Item) (ys : List Item) → ((i : Header) → under i x ≡ j) → Headless ys → under_all k (xs ++ (x ∷ ys)) ≡ j
unfolding under_all
under_header k j xs x ys u h = under_append k xs (x ∷ ys) ∙ headless (under (under_all k xs) x) ys h ∙ u (under_all k xs)

module _ (s : List ℕ) (f : Frame) (a : verdict s ≡ accepted f) (before : List Item) (x : Item) (after : List Item) (i : f.items ≡ before ++ (x ∷ after)) where
  there : (p : Spot) → spot_of (under_all no_header before) x ≡ some p → spot s (3 + length (all_words before)) ≡ some p
  there p e = (spot_is s f (3 + length (all_words before)) p a).1 (record { before = before; item = x; after = after; items = i; index = refl; spot = e })

-- a Sample behind a Channel header
pub sample_spot : (s : List ℕ) (f : Frame) → verdict s ≡ accepted f → (left : List Item) (card chip c : ℕ) (run : List Item) (v : ℕ) (after : List Item)
    → f.items ≡ (left ++ (Channel card chip c ∷ run)) ++ (Sample v ∷ after) → Headless run
    → spot s (3 + length (all_words (left ++ (Channel card chip c ∷ run)))) ≡ some (record { kind = 1; value = v; header = record { card = card; chip = chip; channel = c } })
sample_spot s f a left card chip c run v after i h =
    there s f a (left ++ (Channel card chip c ∷ run)) (Sample v) after i _
    (ap (λ (k : Header). some (record { kind = 1; value = v; header = k })) (under_header no_header (record { card = card; chip = chip; channel = c }) left (Channel card chip c) run (λ j. refl) h))

-- a Bin behind a Histogram header
pub bin_spot : (s : List ℕ) (f : Frame) → verdict s ≡ accepted f → (left : List Item) (card chip c : ℕ) (run : List Item) (b n : ℕ) (after : List Item)
    → f.items ≡ (left ++ (Histogram card chip c ∷ run)) ++ (Bin b n ∷ after) → Headless run
    → spot s (3 + length (all_words (left ++ (Histogram card chip c ∷ run)))) ≡ some (record { kind = 2; value = n; header = record { card = card; chip = chip; channel = c } })
bin_spot s f a left card chip c run b n after i h =
    there s f a (left ++ (Histogram card chip c ∷ run)) (Bin b n) after i _
    (ap (λ (k : Header). some (record { kind = 2; value = n; header = k })) (under_header no_header (record { card = card; chip = chip; channel = c }) left (Histogram card chip c) run (λ j. refl) h))

-- "the words after an item are data": no spot stands within an item, so none at a Bin's count
pub within_none : (s : List ℕ) (f : Frame) → verdict s ≡ accepted f → (before : List Item) (x : Item) (after : List Item) (d : ℕ)
    → f.items ≡ before ++ (x ∷ after) → 1 ≤ d → d < length (words_of x) → spot s (3 + length (all_words before) + d) ≡ none
within_none s f a before x after d i h l =
    let w : ℕ = 3 + length (all_words before) + d in
    spot_in_lem s f w a ∙ ap (λ (xs : List Item). spot_in no_header 3 xs w) i ∙ spot_within before x after no_header 3 d h l

-- ---- every Sample and Bin of an accepted frame stands under a header: the latest one of the items before it

pub record Headed (xs : List Item) (h : Header) : Type 0 where
  pub left : List Item
  pub header : Item
  pub run : List Item
  pub items : xs ≡ left ++ (header ∷ run)
  pub says : (k : Header) → under k header ≡ h
  pub latest : Headless run

-- where a header has been met
abbrev met : ReaderMode → Bool
met outside = false
met inside = false
met after_channel = true
met after_time = true
met after_sample = true
met unheaded = false
met headed = true
met commands = false
met fresh = false

-- a class that has a place only there
met_for : (c : Class) → among c (allowed fresh) ≡ false → among c (allowed outside) ≡ false → among c (allowed inside) ≡ false → among c (allowed unheaded) ≡ false → among c (allowed commands) ≡ false
    → (w : ReaderMode) → among c (allowed w) ≡ true → met w ≡ true
met_for c g a b d f outside e = absurd (true≢false (sym e ∙ a))
met_for c g a b d f inside e = absurd (true≢false (sym e ∙ b))
met_for c g a b d f after_channel e = refl
met_for c g a b d f after_time e = refl
met_for c g a b d f after_sample e = refl
met_for c g a b d f unheaded e = absurd (true≢false (sym e ∙ d))
met_for c g a b d f headed e = refl
met_for c g a b d f commands e = absurd (true≢false (sym e ∙ f))
met_for c g a b d f fresh e = absurd (true≢false (sym e ∙ g))

-- behind an item of another class that is no header
not_met : (kind : Kind) (x : Item) (p : List Item) → met (inside_after (class_for x)) ≡ false → same histogram (class_for x) || same bin (class_for x) ≡ false
    → met (mode_after kind (x ∷ p)) ≡ false
not_met data_kind x p a b = go (in_event (x ∷ p))
  where
    go : (t : Bool) → met (pick t (inside_after (class_for x)) outside) ≡ false
    go true = a
    go false = refl
not_met monitor_kind x p a b = ap (λ (t : Bool). met (pick t headed unheaded)) b
not_met command_kind x p a b = refl

count_behind : (c : Class) (xs : List Item) (x : Item) → count c (xs ++ (x ∷ [])) ≡ count c xs + tally (same c (class_for x))
unfolding count
count_behind c [] x = omega arith
count_behind c (y ∷ xs) x = let h = count_behind c xs x in omega arith

-- an item more, which is no header
headed_behind : (xs : List Item) (x : Item) (h : Header) → same channel (class_for x) ≡ false → same histogram (class_for x) ≡ false → Headed xs h → Headed (xs ++ (x ∷ [])) h
headed_behind xs x h a b g =
    let c = count_behind channel g.run x in
    let d = count_behind histogram g.run x in
    let e = g.latest.channels in
    let f = g.latest.histograms in
    let i : tally (same channel (class_for x)) ≡ 0 = rw a in
    let j : tally (same histogram (class_for x)) ≡ 0 = rw b in
    record {
      left = g.left;
      header = g.header;
      run = g.run ++ (x ∷ []);
      items = ap (λ (l : List Item). l ++ (x ∷ [])) g.items ∙ append_assoc g.left (g.header ∷ g.run) (x ∷ []);
      says = g.says;
      latest = record { channels = omega arith; histograms = omega arith };
    }

headed_here : (xs : List Item) (x : Item) (h : Header) → ((k : Header) → under k x ≡ h) → Headed (xs ++ (x ∷ [])) h
unfolding count
headed_here xs x h u = record { left = xs; header = x; run = []; items = refl; says = u; latest = record { channels = refl; histograms = refl } }

module _ (kind : Kind) (card : ℕ) where
  -- the items xs before an item, as a list p with the latest first
  abbrev Met : List Item → List Item → Type 0
  Met xs p = met (mode_after kind p) ≡ true → (h : Header) × Headed xs h

  met_behind : (xs p : List Item) (x : Item) → Met xs p → Allowed kind card p x → Met (xs ++ (x ∷ [])) (x ∷ p)
  met_behind xs p (Channel a b c) m l e = (_, headed_here xs (Channel a b c) _ (λ k. refl))
  met_behind xs p (Histogram a b c) m l e = (_, headed_here xs (Histogram a b c) _ (λ k. refl))
  met_behind xs p (HitCount a b c) m l e = absurd (true≢false (sym e ∙ not_met kind (HitCount a b c) p refl refl))
  met_behind xs p (Sample v) m l e = let (h, g) = m (met_for sample refl refl refl refl refl (mode_after kind p) l.placed) in (h, headed_behind xs (Sample v) h refl refl g)
  met_behind xs p (Bin b n) m l e = let (h, g) = m (met_for bin refl refl refl refl refl (mode_after kind p) l.placed) in (h, headed_behind xs (Bin b n) h refl refl g)
  met_behind xs p (LastCell a b) m l e = absurd (true≢false (sym e ∙ not_met kind (LastCell a b) p refl refl))
  met_behind xs p (TimeBin t) m l e = let (h, g) = m (met_for time_bin refl refl refl refl refl (mode_after kind p) l.placed) in (h, headed_behind xs (TimeBin t) h refl refl g)
  met_behind xs p (Text s) m l e = absurd (true≢false (sym e ∙ not_met kind (Text s) p refl refl))
  met_behind xs p (StartEvent t ts n) m l e = absurd (true≢false (sym e ∙ not_met kind (StartEvent t ts n) p refl refl))
  met_behind xs p (ContinueEvent n) m l e = absurd (true≢false (sym e ∙ not_met kind (ContinueEvent n) p refl refl))
  met_behind xs p (EndEvent n) m l e = absurd (true≢false (sym e ∙ not_met kind (EndEvent n) p refl refl))

  met_at : (xs before : List Item) (x : Item) (after p : List Item) → Met xs p → Sound kind card p (before ++ (x ∷ after))
      → (q : List Item) × Met (xs ++ before) q × Allowed kind card q x
  met_at xs [] x after p m s = (p, subst (λ (l : List Item). Met l p) (sym (append-nil xs)) m, sound_head kind card p x after s)
  met_at xs (y ∷ before) x after p m s =
      let (q, n, a) = met_at (xs ++ (y ∷ [])) before x after (y ∷ p) (met_behind xs p y m (sound_head kind card p y (before ++ (x ∷ after)) s)) (sound_tail kind card p y (before ++ (x ∷ after)) s) in
      (q, subst (λ (l : List Item). Met l q) (append_assoc xs (y ∷ []) before) n, a)

  -- before the first item
  met_first : Met [] []
  unfolding since count
  met_first e = absurd (true≢false (sym e ∙ go kind))
    where
      go : (k : Kind) → met (mode_after k []) ≡ false
      go data_kind = refl
      go monitor_kind = refl
      go command_kind = refl

pub spot_headed : (s : List ℕ) → Bytes s → (f : Frame) → verdict s ≡ accepted f → (w : ℕ) (p : Spot) (is : SpotIs f.items w p) → Headed is.before p.header
spot_headed s y f v w p is =
    let l : Sound f.kind f.card [] (is.before ++ (is.item ∷ is.after)) = subst (Sound f.kind f.card []) is.items (sound s y f v).0.sound in
    let (q, m, a) = met_at f.kind f.card [] is.before is.item is.after [] (met_first f.kind f.card) l in
    by is.item is.spot q m a
  where
    header_is : (h : Header) → Headed is.before h → under_all no_header is.before ≡ h
    header_is h g = ap (under_all no_header) g.items ∙ under_header no_header h g.left g.header g.run g.says g.latest

    here : (kind v : ℕ) → some (record { kind = kind; value = v; header = under_all no_header is.before }) ≡ some p → (h : Header) × Headed is.before h → Headed is.before p.header
    here kind v e g = subst (Headed is.before) (sym (header_is g.0 g.1) ∙ ap (λ (r : Spot). r.header) (some_is _ p e)) g.1

    by : (x : Item) → spot_of (under_all no_header is.before) x ≡ some p → (q : List Item) → Met f.kind f.card is.before q → Allowed f.kind f.card q x → Headed is.before p.header
    by (Channel a b c) e q m l = no_some p e
    by (Histogram a b c) e q m l = no_some p e
    by (HitCount a b c) e q m l = no_some p e
    by (Sample v) e q m l = here 1 v e (m (met_for sample refl refl refl refl refl (mode_after f.kind q) l.placed))
    by (Bin b n) e q m l = here 2 n e (m (met_for bin refl refl refl refl refl (mode_after f.kind q) l.placed))
    by (LastCell a b) e q m l = no_some p e
    by (TimeBin t) e q m l = no_some p e
    by (Text t) e q m l = no_some p e
    by (StartEvent t ts n) e q m l = no_some p e
    by (ContinueEvent n) e q m l = no_some p e
    by (EndEvent n) e q m l = no_some p e
