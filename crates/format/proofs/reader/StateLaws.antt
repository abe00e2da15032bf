-- The state is an abstraction of the list of earlier items: a turn of the rules by the state alone is the turn by the list.
-- Assumes nothing.
use Prim.Native.Nat.{ℕ, suc, ◌+◌, ◌-◌, ◌*◌, max, ◌≤◌}
use mathlib.Core.Path.{◌≡◌, refl, sym, ap, ◌∙◌}
use mathlib.Core.List.{List, [], ◌∷◌}
use mathlib.Core.Bool.{Bool, true, false, not, ◌&&◌, ◌||◌, true≢false}
use native.Mathlib.Nat.{zero-add}
use native.Mathlib.Omega.{arith}
use lib.ListN.{length}
use lib.Dec.{leb, ltb, eqb}
use borrow.Author.Tests.{leb-true, leb-false, le-leb, lt-leb, ltb-true, ltb-false, ne_eqb}
use Rattle.format.specs.Words.{pick}
use Rattle.format.specs.Book.{Class, channel, histogram, hit_count, sample, bin, last_cell, time_bin, data_frame, monitor_frame, command_frame, text, start_event, continue_event, end_event, frame_end, unassigned}
use Rattle.format.specs.Items.{Item, Channel, Histogram, HitCount, Sample, Bin, LastCell, TimeBin, Text, StartEvent, ContinueEvent, EndEvent, class_for, words_of, in_range, key, Token, whole, broken, flawed}
use Rattle.format.specs.Rules.{Kind, data_kind, monitor_kind, command_kind, same, since, before, count, has, latest, total, gather, channel_key, histogram_key, bin_number, start_time, head_or_zero, above, openers, in_event, begun, time, last_time, ReaderMode, fresh, outside, inside, after_channel, after_time, after_sample, unheaded, headed, commands, inside_after, between_events, mode_after, allowed, among, place, event_size, value, order, Checked, good, bad, check}
use Rattle.format.specs.Steps.{Marks, ReaderState, above_all, opener_after, first_after, lead_after, marks_after, state_of, start, value_by, marks_channel, marks_start, marks_end, paused, order_by, state_after, check_by, open_in}
use Rattle.format.proofs.rules.SoundLaws.{end_place, Own}

-- ---- numbers above all of some

pub above_leb : (k : ℕ) (ns : List ℕ) → above k ns ≡ leb (above_all ns) k
unfolding above above_all
above_leb k [] = sym (le-leb 0 k (omega arith))
above_leb k (n ∷ ns) = rw (above_leb k ns) (go (ltb n k) refl (leb (above_all ns) k) refl)
  where
    go : (a : Bool) → ltb n k ≡ a → (b : Bool) → leb (above_all ns) k ≡ b → ltb n k && leb (above_all ns) k ≡ leb (max (suc n) (above_all ns)) k
    go true p true q = rw (p, q) (sym (le-leb (max (suc n) (above_all ns)) k (omega (arith, ltb-true, leb-true))))
    go true p false q = rw (p, q) (sym (lt-leb (max (suc n) (above_all ns)) k (omega (arith, ltb-true, leb-false))))
    go false p b q = rw p (sym (lt-leb (max (suc n) (above_all ns)) k (omega (arith, ltb-false))))

above_next : (k : ℕ) (ns : List ℕ) → above k ns ≡ true → k + 1 ≡ above_all (k ∷ ns)
unfolding above_all
above_next k ns e =
    let h : above_all ns ≤ k = leb-true _ _ (sym (above_leb k ns) ∙ e) in
    omega arith

-- ---- where an item may stand

no : {A : Type 0} → false ≡ true → A
no e = let z : ◌≡◌ {A = ℕ} 0 1 = cc in absurd (omega arith)

-- the places of a data frame, and of a monitor frame
abbrev InData : ReaderMode → Type 0
InData fresh = Unit {0}
InData outside = Unit {0}
InData inside = Unit {0}
InData after_channel = Unit {0}
InData after_time = Unit {0}
InData after_sample = Unit {0}
InData unheaded = ⊥
InData headed = ⊥
InData commands = ⊥

within_data : (c : Class) → InData (inside_after c)
within_data channel = tt
within_data histogram = tt
within_data hit_count = tt
within_data sample = tt
within_data bin = tt
within_data last_cell = tt
within_data time_bin = tt
within_data data_frame = tt
within_data monitor_frame = tt
within_data command_frame = tt
within_data text = tt
within_data start_event = tt
within_data continue_event = tt
within_data end_event = tt
within_data frame_end = tt
within_data unassigned = tt

in_data : (p : List Item) → InData (mode_after data_kind p)
in_data p = go (in_event p)
  where
    between : (q : List Item) → InData (between_events q)
    between [] = tt
    between (x ∷ q) = tt

    go : (b : Bool) → InData (pick b (inside_after (latest p)) (between_events p))
    go true = within_data (latest p)
    go false = between p

-- the mode tells whether an event is open
pub open_in_lem : (p : List Item) → open_in (mode_after data_kind p) ≡ in_event p
open_in_lem p = go (in_event p)
  where
    within : (c : Class) → open_in (inside_after c) ≡ true
    within channel = refl
    within histogram = refl
    within hit_count = refl
    within sample = refl
    within bin = refl
    within last_cell = refl
    within time_bin = refl
    within data_frame = refl
    within monitor_frame = refl
    within command_frame = refl
    within text = refl
    within start_event = refl
    within continue_event = refl
    within end_event = refl
    within frame_end = refl
    within unassigned = refl

    between : (q : List Item) → open_in (between_events q) ≡ false
    between [] = refl
    between (x ∷ q) = refl

    go : (b : Bool) → open_in (pick b (inside_after (latest p)) (between_events p)) ≡ b
    go true = within (latest p)
    go false = between p

-- a class that stands in no place of a data frame, of a monitor frame
not_data : (p : List Item) (c : Class) → ((m : ReaderMode) → InData m → among c (allowed m) ≡ false) → place data_kind p c ≡ true → ⊥
not_data p c n h = true≢false (sym h ∙ n (mode_after data_kind p) (in_data p))

not_monitor : (p : List Item) (c : Class) → among c (allowed headed) ≡ false → among c (allowed unheaded) ≡ false → place monitor_kind p c ≡ true → ⊥
not_monitor p c u v h = go (same histogram (latest p) || same bin (latest p)) h
  where
    go : (b : Bool) → among c (allowed (pick b headed unheaded)) ≡ true → ⊥
    go true e = true≢false (sym e ∙ u)
    go false e = true≢false (sym e ∙ v)

histogram_not : (m : ReaderMode) → InData m → among histogram (allowed m) ≡ false
histogram_not fresh i = refl
histogram_not outside i = refl
histogram_not inside i = refl
histogram_not after_channel i = refl
histogram_not after_time i = refl
histogram_not after_sample i = refl
histogram_not unheaded i = absurd i
histogram_not headed i = absurd i
histogram_not commands i = absurd i

bin_not : (m : ReaderMode) → InData m → among bin (allowed m) ≡ false
bin_not fresh i = refl
bin_not outside i = refl
bin_not inside i = refl
bin_not after_channel i = refl
bin_not after_time i = refl
bin_not after_sample i = refl
bin_not unheaded i = absurd i
bin_not headed i = absurd i
bin_not commands i = absurd i

text_not : (m : ReaderMode) → InData m → among text (allowed m) ≡ false
text_not fresh i = refl
text_not outside i = refl
text_not inside i = refl
text_not after_channel i = refl
text_not after_time i = refl
text_not after_sample i = refl
text_not unheaded i = absurd i
text_not headed i = absurd i
text_not commands i = absurd i

-- any class but a Start or Continue event stands inside an event only
open_there : (p : List Item) (c : Class) → same c start_event ≡ false → same c continue_event ≡ false → place data_kind p c ≡ true → in_event p ≡ true
open_there p c n m h = go (in_event p) refl
  where
    between : (q : List Item) → among c (allowed (between_events q)) ≡ false
    between [] = rw (n, m)
    between (x ∷ q) = rw n

    go : (b : Bool) → in_event p ≡ b → in_event p ≡ true
    go true e = e
    go false e =
        let g : among c (allowed (pick (in_event p) (inside_after (latest p)) (between_events p))) ≡ false = rw e (between p) in
        absurd (true≢false (sym h ∙ g))

-- an event that is open stays so until its End event
still : (x : Item) (p : List Item) → same end_event (class_for x) ≡ false → in_event p ≡ true → in_event (x ∷ p) ≡ true
unfolding since count
still x p n e =
    let h : 1 ≤ openers (since end_event p) = leb-true _ _ e in
    rw n (le-leb 1 ((pick (same start_event (class_for x)) 1 0 + count start_event (since end_event p)) + (pick (same continue_event (class_for x)) 1 0 + count continue_event (since end_event p))) (omega arith))

-- ---- the words since the latest Start event

since_less : (c : Class) (p : List Item) → total (since c p) ≤ total p
unfolding since total
since_less c [] = omega arith
since_less c (x ∷ p) = go (same c (class_for x)) (since_less c p)
  where
    go : (b : Bool) → total (since c p) ≤ total p → length (words_of x) + total (pick b [] (since c p)) ≤ length (words_of x) + total p
    go true h = omega arith
    go false h = omega arith

opener_same : (x : Item) (p : List Item) → same start_event (class_for x) ≡ false → opener_after p ≡ opener_after (x ∷ p)
unfolding since total count
opener_same x p n =
    let z : 0 + count start_event p ≡ count start_event p = omega arith in
    let e : (3 + (length (words_of x) + total p)) - (length (words_of x) + total (since start_event p)) ≡ (3 + total p) - total (since start_event p) = omega arith in
    rw (n, z, e)

-- ---- one item

pub record Turn (kind : Kind) (p : List Item) (x : Item) : Type 0 where
  pub ordered : order_by (state_of kind p) x ≡ order p x
  pub after : order p x ≡ true → state_after (3 + total p) (state_of kind p) x ≡ state_of kind (x ∷ p)

alike : (m m' : ReaderMode) (k k' n n' : ℕ) (o o' : Marks) → m ≡ m' → k ≡ k' → n ≡ n' → o ≡ o'
    → ◌≡◌ {A = ReaderState} (record { mode = m; key = k; next = n; marks = o }) (record { mode = m'; key = k'; next = n'; marks = o' })
alike m m' k k' n n' o o' e f g h = λ i. record { mode = e i; key = f i; next = g i; marks = h i }

marked_alike : (a a' b b' c c' : ℕ) → a ≡ a' → b ≡ b' → c ≡ c'
    → ◌≡◌ {A = Marks} (record { opener = a; first = b; lead = c }) (record { opener = a'; first = b'; lead = c' })
marked_alike a a' b b' c c' e f g = λ i. record { opener = e i; first = f i; lead = g i }

-- the opener tells whether the open event began in this frame: a word of the frame's items is at least 3
unopened : (p : List Item) → Own p → in_event p ≡ true → eqb (opener_after p) 0 ≡ not (begun p)
unopened p w o = go (has start_event p) ∙ ap not (w o)
  where
    go : (b : Bool) → eqb (pick b ((3 + total p) - total (since start_event p)) 0) 0 ≡ not b
    go true = let l = since_less start_event p in ne_eqb ((3 + total p) - total (since start_event p)) 0 (λ (i : (3 + total p) - total (since start_event p) ≡ 0). omega arith)
    go false = refl

-- no mark is set by an item that is no Channel and neither begins nor ends an event
marks_same : (x : Item) (p : List Item) → same start_event (class_for x) ≡ false → same end_event (class_for x) ≡ false → same channel (class_for x) ≡ false
    → marks_after p ≡ marks_after (x ∷ p)
unfolding marks_after first_after lead_after
marks_same x p a b c = marked_alike _ _ _ _ _ _ (opener_same x p a) (rw c) (rw b)

channel_marks : (a b c : ℕ) (p : List Item) → Own p → in_event p ≡ true → marks_channel (key a b c + 1) (marks_after p) ≡ marks_after (Channel a b c ∷ p)
unfolding marks_after first_after lead_after above_all
channel_marks a b c p w o =
    let k : key a b c + 1 ≡ max (suc (key a b c)) 0 = omega arith in
    marked_alike _ _ _ _ _ _ (opener_same (Channel a b c) p refl) (rw (unopened p w o, k)) refl

start_marks : (t ts n : ℕ) (p : List Item) → marks_start (3 + total p) (marks_after p) ≡ marks_after (StartEvent t ts n ∷ p)
unfolding marks_after first_after lead_after since count total words_of
start_marks t ts n p =
    marked_alike _ _ _ _ _ _ (sym (rw (le-leb 1 (1 + count start_event p) (omega arith)) (omega arith))) refl refl

end_marks : (n : ℕ) (p : List Item) → Own p → in_event p ≡ true → marks_end (3 + total p) (marks_after p) ≡ marks_after (EndEvent n ∷ p)
unfolding marks_after first_after lead_after since count
end_marks n p w o = marked_alike _ _ _ _ _ _ (opener_same (EndEvent n) p refl) refl (rw (unopened p w o))

-- a time that no Time bin and no Sample changes
time_same : (p : List Item) (n : ℕ) → n ≡ 0 → time p ≡ head_or_zero (gather start_time p) + (n + count sample (since time_bin p))
time_same p n e = rw e (rw (zero-add (count sample (since time_bin p))))

-- a Time bin stands right behind a Channel, or behind a Sample, and only there leaves a pause
pause : (x : Item) (q : List Item) (t : ℕ) → among time_bin (allowed (inside_after (class_for x))) ≡ true
    → paused (inside_after (class_for x)) (time (x ∷ q)) t ≡ not (has sample (since channel (x ∷ q))) || leb (last_time (x ∷ q) + 2) t
unfolding since before count gather
pause (Channel a b c) q t h = refl
pause (Sample v) q t h =
    rw (le-leb 1 (1 + count sample (since channel q)) (omega arith)) (ap (λ (n : ℕ). leb n t) (omega arith))
pause (Histogram a b c) q t h = no h
pause (HitCount a b c) q t h = no h
pause (Bin b n) q t h = no h
pause (LastCell a b) q t h = no h
pause (TimeBin u) q t h = no h
pause (Text s) q t h = no h
pause (StartEvent k ts n) q t h = no h
pause (ContinueEvent n) q t h = no h
pause (EndEvent n) q t h = no h

time_ordered : (p : List Item) (t : ℕ) → place data_kind p time_bin ≡ true → in_event p ≡ true
    → paused (mode_after data_kind p) (time p) t ≡ not (has sample (since channel p)) || leb (last_time p + 2) t
unfolding since count
time_ordered [] t h o = no o
time_ordered (x ∷ q) t h o = rw o (pause x q t (rw o at h))

module _ (p : List Item) where
  hit_turn : (a b c : ℕ) → place data_kind p hit_count ≡ true → Turn data_kind p (HitCount a b c)
  unfolding state_of since count gather
  hit_turn a b c h = record {
    ordered = refl;
    after = λ e. alike _ _ _ _ _ _ _ _ (sym (rw (still (HitCount a b c) p refl (open_there p hit_count refl refl h)))) refl (time_same p 0 refl) (marks_same (HitCount a b c) p refl refl refl);
  }

  cell_turn : (a b : ℕ) → place data_kind p last_cell ≡ true → Turn data_kind p (LastCell a b)
  unfolding state_of since count gather
  cell_turn a b h = record {
    ordered = refl;
    after = λ e. alike _ _ _ _ _ _ _ _ (sym (rw (still (LastCell a b) p refl (open_there p last_cell refl refl h)))) refl (time_same p 0 refl) (marks_same (LastCell a b) p refl refl refl);
  }

  channel_turn : (a b c : ℕ) → Own p → place data_kind p channel ≡ true → Turn data_kind p (Channel a b c)
  unfolding state_of since count gather
  channel_turn a b c w h = record {
    ordered = sym (above_leb (key a b c) (gather channel_key (since start_event p)));
    after = λ e. alike _ _ _ _ _ _ _ _ (sym (rw (still (Channel a b c) p refl (open_there p channel refl refl h)))) (above_next (key a b c) (gather channel_key (since start_event p)) e) (time_same p 0 refl) (channel_marks a b c p w (open_there p channel refl refl h));
  }

  end_turn : (n : ℕ) → Own p → place data_kind p end_event ≡ true → Turn data_kind p (EndEvent n)
  unfolding state_of since count gather
  end_turn n w h = record {
    ordered = refl;
    after = λ e. alike _ _ _ _ _ _ _ _ refl refl (time_same p 0 refl) (end_marks n p w (open_there p end_event refl refl h));
  }

  start_turn : (t ts n : ℕ) → Turn data_kind p (StartEvent t ts n)
  unfolding state_of since count gather total words_of above_all
  start_turn t ts n = record {
    ordered = refl;
    after = λ e. alike _ _ _ _ _ _ _ _
        (sym (rw (le-leb 1 ((1 + count start_event (since end_event p)) + (0 + count continue_event (since end_event p))) (omega arith)))) refl (time_same p 0 refl)
        (start_marks t ts n p);
  }

  continue_turn : (n : ℕ) → Turn data_kind p (ContinueEvent n)
  unfolding state_of since count gather
  continue_turn n = record {
    ordered = refl;
    after = λ e. alike _ _ _ _ _ _ _ _
        (sym (rw (le-leb 1 ((0 + count start_event (since end_event p)) + (1 + count continue_event (since end_event p))) (omega arith)))) refl (time_same p 0 refl)
        (marks_same (ContinueEvent n) p refl refl refl);
  }

  sample_turn : (v : ℕ) → place data_kind p sample ≡ true → Turn data_kind p (Sample v)
  unfolding state_of since count gather
  sample_turn v h = record {
    ordered = refl;
    after = λ e. alike _ _ _ _ _ _ _ _ (sym (rw (still (Sample v) p refl (open_there p sample refl refl h)))) refl (omega arith) (marks_same (Sample v) p refl refl refl);
  }

  time_turn : (t : ℕ) → place data_kind p time_bin ≡ true → Turn data_kind p (TimeBin t)
  unfolding state_of since count gather
  time_turn t h = record {
    ordered = time_ordered p t h (open_there p time_bin refl refl h);
    after = λ e. alike _ _ _ _ _ _ _ _ (sym (rw (still (TimeBin t) p refl (open_there p time_bin refl refl h)))) refl (omega arith) (marks_same (TimeBin t) p refl refl refl);
  }

  histogram_turn : (a b c : ℕ) → Turn monitor_kind p (Histogram a b c)
  unfolding state_of since count gather above_all
  histogram_turn a b c = record {
    ordered = sym (above_leb (key a b c) (gather histogram_key p));
    after = λ e. alike _ _ _ _ _ _ _ _ refl (above_next (key a b c) (gather histogram_key p) e) refl (marks_same (Histogram a b c) p refl refl refl);
  }

  bin_turn : (b n : ℕ) → Turn monitor_kind p (Bin b n)
  unfolding state_of since count gather
  bin_turn b n = record {
    ordered = sym (above_leb b (gather bin_number (since histogram p)));
    after = λ e. alike _ _ _ _ _ _ _ _ refl refl (above_next b (gather bin_number (since histogram p)) e) (marks_same (Bin b n) p refl refl refl);
  }

  text_turn : (s : List ℕ) → Turn command_kind p (Text s)
  unfolding state_of
  text_turn s = record { ordered = refl; after = λ e. alike _ _ _ _ _ _ _ _ refl refl refl (marks_same (Text s) p refl refl refl) }

-- every item that may stand there
pub turn_of : (kind : Kind) (p : List Item) (x : Item) → Own p → place kind p (class_for x) ≡ true → Turn kind p x
turn_of data_kind p (Channel a b c) w h = channel_turn p a b c w h
turn_of data_kind p (Histogram a b c) w h = absurd (not_data p histogram histogram_not h)
turn_of data_kind p (HitCount a b c) w h = hit_turn p a b c h
turn_of data_kind p (Sample v) w h = sample_turn p v h
turn_of data_kind p (Bin b n) w h = absurd (not_data p bin bin_not h)
turn_of data_kind p (LastCell a b) w h = cell_turn p a b h
turn_of data_kind p (TimeBin t) w h = time_turn p t h
turn_of data_kind p (Text s) w h = absurd (not_data p text text_not h)
turn_of data_kind p (StartEvent t ts n) w h = start_turn p t ts n
turn_of data_kind p (ContinueEvent n) w h = continue_turn p n
turn_of data_kind p (EndEvent n) w h = end_turn p n w h
turn_of monitor_kind p (Channel a b c) w h = absurd (not_monitor p channel refl refl h)
turn_of monitor_kind p (Histogram a b c) w h = histogram_turn p a b c
turn_of monitor_kind p (HitCount a b c) w h = absurd (not_monitor p hit_count refl refl h)
turn_of monitor_kind p (Sample v) w h = absurd (not_monitor p sample refl refl h)
turn_of monitor_kind p (Bin b n) w h = bin_turn p b n
turn_of monitor_kind p (LastCell a b) w h = absurd (not_monitor p last_cell refl refl h)
turn_of monitor_kind p (TimeBin t) w h = absurd (not_monitor p time_bin refl refl h)
turn_of monitor_kind p (Text s) w h = absurd (not_monitor p text refl refl h)
turn_of monitor_kind p (StartEvent t ts n) w h = absurd (not_monitor p start_event refl refl h)
turn_of monitor_kind p (ContinueEvent n) w h = absurd (not_monitor p continue_event refl refl h)
turn_of monitor_kind p (EndEvent n) w h = absurd (not_monitor p end_event refl refl h)
turn_of command_kind p (Channel a b c) w h = no h
turn_of command_kind p (Histogram a b c) w h = no h
turn_of command_kind p (HitCount a b c) w h = no h
turn_of command_kind p (Sample v) w h = no h
turn_of command_kind p (Bin b n) w h = no h
turn_of command_kind p (LastCell a b) w h = no h
turn_of command_kind p (TimeBin t) w h = no h
turn_of command_kind p (Text s) w h = text_turn p s
turn_of command_kind p (StartEvent t ts n) w h = no h
turn_of command_kind p (ContinueEvent n) w h = no h
turn_of command_kind p (EndEvent n) w h = no h

-- the value rules by the state
value_same : (kind : Kind) (card : ℕ) (p : List Item) (x : Item) → Own p → place kind p (class_for x) ≡ true → value_by card (3 + total p) (state_of kind p) x ≡ value card p x
unfolding state_of marks_after
value_same kind card p (Channel a b c) w h = refl
value_same kind card p (Histogram a b c) w h = refl
value_same kind card p (HitCount a b c) w h = refl
value_same kind card p (Sample v) w h = refl
value_same kind card p (Bin b n) w h = refl
value_same kind card p (LastCell a b) w h = refl
value_same kind card p (TimeBin t) w h = refl
value_same kind card p (Text s) w h = refl
value_same kind card p (StartEvent t ts n) w h = refl
value_same kind card p (ContinueEvent n) w h = refl
value_same kind card p (EndEvent n) w h = ap (λ (b : Bool). in_range card (EndEvent n) && b) (go (has start_event p) ∙ ap (λ (b : Bool). not b || eqb n (event_size p)) (w (end_place kind p h).1))
  where
    go : (b : Bool)
        → eqb (pick b ((3 + total p) - total (since start_event p)) 0) 0 || eqb n (2 * ((3 + total p) - pick b ((3 + total p) - total (since start_event p)) 0) + 6)
        ≡ not b || eqb n (event_size p)
    go true =
        let l = since_less start_event p in
        let z : eqb ((3 + total p) - total (since start_event p)) 0 ≡ false = ne_eqb ((3 + total p) - total (since start_event p)) 0 (λ (i : (3 + total p) - total (since start_event p) ≡ 0). omega arith) in
        let e : 2 * ((3 + total p) - ((3 + total p) - total (since start_event p))) + 6 ≡ 2 * total (since start_event p) + 6 = omega arith in
        rw (z, e)
    go false = refl

abbrev pub states : Kind → Checked (List Item) → Checked ReaderState
states kind (good q) = good (state_of kind q)
states kind (bad n) = bad n

states_broken : (kind : Kind) (a : Bool) → pick a (bad 9) (bad 8) ≡ states kind (pick a (bad 9) (bad 8))
states_broken kind true = refl
states_broken kind false = refl

states_whole : (kind : Kind) (a b b' c d : Bool) (q : List Item) (r : ReaderState) → (a ≡ true → b' ≡ b) → (a ≡ true → d ≡ c) → (a ≡ true → c ≡ true → r ≡ state_of kind q)
    → pick a (pick b' (pick d (good r) (bad 10)) (bad 9)) (bad 8) ≡ states kind (pick a (pick b (pick c (good q) (bad 10)) (bad 9)) (bad 8))
states_whole kind false b b' c d q r v e f = refl
states_whole kind true false b' c d q r v e f = rw (v refl)
states_whole kind true true b' true d q r v e f = rw (v refl, e refl) (ap good (f refl refl))
states_whole kind true true b' false d q r v e f = rw (v refl, e refl)

-- THE LAW: a turn by the state is the turn by the list, behind any items that stand where they may (`own_sound`)
pub turn : (kind : Kind) (card : ℕ) (p : List Item) (t : Token) → Own p → check_by card (3 + total p) (state_of kind p) t ≡ states kind (check kind card p t)
unfolding check_by check state_of
turn kind card p (flawed n) w = refl
turn kind card p (broken c) w = states_broken kind (place kind p c)
turn kind card p (whole x) w =
    states_whole kind (place kind p (class_for x)) (value card p x) (value_by card (3 + total p) (state_of kind p) x) (order p x) (order_by (state_of kind p) x) (x ∷ p) (state_after (3 + total p) (state_of kind p) x)
    (value_same kind card p x w) (λ h. (turn_of kind p x w h).ordered) (λ h. (turn_of kind p x w h).after)

pub start_state : (kind : Kind) → start kind ≡ state_of kind []
unfolding state_of marks_after first_after lead_after since count gather total above_all
start_state data_kind = refl
start_state monitor_kind = refl
start_state command_kind = refl
