-- How a frame's items begin, and what is counted in them.
-- Assumes nothing.
use Prim.Native.Nat.{ℕ, zero, suc, ◌+◌, ◌≤◌}
use mathlib.Core.Path.{◌≡◌, refl, sym, ap, ◌∙◌}
use mathlib.Core.List.{List, [], ◌∷◌, ◌++◌}
use mathlib.Core.Bool.{Bool, true, false, true≢false}
use mathlib.Core.Option.{none, some}
use native.Mathlib.Omega.{arith}
use lib.Dec.{leb}
use lib.ListN.{length}
use borrow.Author.Tests.{leb-true, leb-false}
use Rattle.format.specs.Words.{pick}
use Rattle.format.specs.Book.{Class, start_event, continue_event, end_event}
use Rattle.format.specs.Items.{Item, Channel, Histogram, HitCount, Sample, Bin, LastCell, TimeBin, Text, StartEvent, ContinueEvent, EndEvent, class_for, words_of}
use Rattle.format.specs.Rules.{data_kind, same, since, count, total, gather, openers, in_event, begun}
use Rattle.format.specs.Frames.{earlier_then, Sound}
use Rattle.format.specs.Questions.{end_size, head_of, until}
use Rattle.format.proofs.rules.SoundLaws.{tally, tally_zero, Seen, starts, continues, opening, ends, other, seen, open_nil, open_opening, none_opened}
use Rattle.format.proofs.questions.ItemQuestions.{no_some, some_is}
use Rattle.runs.specs.Assembly.{continued, start_number}
use Rattle.runs.proofs.joins.ListLaws.{behind_front, since_all, since_some, count_since}
use Rattle.runs.proofs.joins.PartLaws.{Next, a_start, a_continue, an_end, another, next, not_empty}

-- ---- counting

pub count_behind : (c : Class) (p xs : List Item) → count c (earlier_then p xs) ≡ count c p + count c xs
unfolding earlier_then count
count_behind c p [] = omega arith
count_behind c p (x ∷ xs) = omega (arith, count_behind c (x ∷ p) xs)

pub count_front : (c : Class) (xs : List Item) → count c (earlier_then [] xs) ≡ count c xs
unfolding count
count_front c xs = omega (arith, count_behind c [] xs)

-- no End event: no size is given, and all items come before the first
pub no_sizes : (xs : List Item) → count end_event xs ≡ 0 → gather end_size xs ≡ []
unfolding count gather
no_sizes [] n = refl
no_sizes (x ∷ xs) n = go (seen x) ∙ no_sizes xs (omega arith)
  where
    go : Seen x → end_size x ++ gather end_size xs ≡ gather end_size xs
    go (opening (starts t ts m i)) = ap (λ (y : Item). end_size y ++ gather end_size xs) i
    go (opening (continues m i)) = ap (λ (y : Item). end_size y ++ gather end_size xs) i
    go (ends m i) = let a : tally (same end_event (class_for x)) ≡ 1 = rw i in absurd (omega arith)
    go (other h) = ap (λ (l : List ℕ). l ++ gather end_size xs) h.no_size

pub some_sizes : (xs : List Item) → head_of (gather end_size xs) ≡ none → count end_event xs ≡ 0
unfolding count gather
some_sizes [] e = refl
some_sizes (x ∷ xs) e = go (seen x) (some_sizes xs)
  where
    go : Seen x → (head_of (gather end_size xs) ≡ none → count end_event xs ≡ 0) → tally (same end_event (class_for x)) + count end_event xs ≡ 0
    go (opening (starts t ts m i)) h =
        let a : tally (same end_event (class_for x)) ≡ 0 = rw i in
        let r = h (ap (λ (y : Item). head_of (end_size y ++ gather end_size xs)) (sym i) ∙ e) in
        omega arith
    go (opening (continues m i)) h =
        let a : tally (same end_event (class_for x)) ≡ 0 = rw i in
        let r = h (ap (λ (y : Item). head_of (end_size y ++ gather end_size xs)) (sym i) ∙ e) in
        omega arith
    go (ends m i) h = no_some m (sym e ∙ ap (λ (y : Item). head_of (end_size y ++ gather end_size xs)) i)
    go (other q) h =
        let a : tally (same end_event (class_for x)) ≡ 0 = rw q.no_end in
        let r = h (ap (λ (l : List ℕ). head_of (l ++ gather end_size xs)) (sym q.no_size) ∙ e) in
        omega arith

pub until_all : (xs : List Item) → count end_event xs ≡ 0 → until end_event xs ≡ xs
unfolding count until
until_all [] n = refl
until_all (x ∷ xs) n = rw (tally_zero (same end_event (class_for x)) (omega arith)) (ap (λ (l : List Item). x ∷ l) (until_all xs (omega arith)))

-- the words of the items since the latest of a class are among all
pub since_few : (c : Class) (p : List Item) → total (since c p) ≤ total p
unfolding since total
since_few c [] = omega arith
since_few c (x ∷ p) = go (same c (class_for x)) (since_few c p)
  where
    go : (b : Bool) → total (since c p) ≤ total p → length (words_of x) + total (pick b [] (since c p)) ≤ length (words_of x) + total p
    go true h = omega arith
    go false h = omega arith

-- ---- a frame's items, as they begin

pub continued_is : (xs : List Item) (n : ℕ) → continued xs ≡ some n → (ys : List Item) × (xs ≡ ContinueEvent n ∷ ys)
continued_is [] n e = no_some n e
continued_is (Channel a b c ∷ xs) n e = no_some n e
continued_is (Histogram a b c ∷ xs) n e = no_some n e
continued_is (HitCount a b c ∷ xs) n e = no_some n e
continued_is (Sample v ∷ xs) n e = no_some n e
continued_is (Bin b m ∷ xs) n e = no_some n e
continued_is (LastCell a b ∷ xs) n e = no_some n e
continued_is (TimeBin t ∷ xs) n e = no_some n e
continued_is (Text s ∷ xs) n e = no_some n e
continued_is (StartEvent t ts m ∷ xs) n e = no_some n e
continued_is (ContinueEvent m ∷ xs) n e = (xs, ap (λ (k : ℕ). ContinueEvent k ∷ xs) (some_is m n e))
continued_is (EndEvent m ∷ xs) n e = no_some n e

-- the part of an open event: behind its Continue event no event opens before an End event comes
module _ (card n : ℕ) (ys : List Item) (s : Sound data_kind card (ContinueEvent n ∷ []) ys) where
  opened_here : in_event (ContinueEvent n ∷ []) ≡ true
  opened_here = open_opening (ContinueEvent n) [] (continues n refl)

  pub part_alone : count end_event ys ≡ 0 → openers ys ≡ 0
  part_alone h = none_opened data_kind card (ContinueEvent n ∷ []) ys s opened_here h

-- ---- how a frame's items begin

pub numbers_count : (r : List Item) → length (gather start_number r) ≡ count start_event r
unfolding gather count
numbers_count [] = refl
numbers_count (x ∷ r) = go x ∙ ap (λ (n : ℕ). tally (same start_event (class_for x)) + n) (numbers_count r)
  where
    go : (x : Item) → length (start_number x ++ gather start_number r) ≡ tally (same start_event (class_for x)) + length (gather start_number r)
    go (Channel a b c) = omega arith
    go (Histogram a b c) = omega arith
    go (HitCount a b c) = omega arith
    go (Sample v) = omega arith
    go (Bin b n) = omega arith
    go (LastCell a b) = omega arith
    go (TimeBin t) = omega arith
    go (Text s) = omega arith
    go (StartEvent t ts n) = omega arith
    go (ContinueEvent n) = omega arith
    go (EndEvent n) = omega arith

pub no_numbers : (r : List Item) → count start_event r ≡ 0 → gather start_number r ≡ []
no_numbers r h = empty (gather start_number r) (numbers_count r ∙ h)
  where
    empty : (l : List ℕ) → length l ≡ 0 → l ≡ []
    empty [] e = refl
    empty (n ∷ l) e = absurd (omega arith)

pub no_openers_here : (r : List Item) → count end_event r ≡ 0 → in_event r ≡ false → openers r ≡ 0
no_openers_here r c e = let h = leb-false 1 (openers r) (ap (λ (l : List Item). leb 1 (openers l)) (sym (since_all end_event r c)) ∙ e) in omega arith

pub first_opens : (card : ℕ) (xs : List Item) → Sound data_kind card [] xs → openers xs ≡ 0 → xs ≡ []
unfolding Sound count
first_opens card [] s h = refl
first_opens card (x ∷ xs) s h = go (next card [] x s.0)
  where
    go : Next [] x → x ∷ xs ≡ []
    go (a_start t ts n i e) = let a : tally (same start_event (class_for x)) ≡ 1 = rw i in absurd (omega arith)
    go (a_continue n i e) = let a : tally (same continue_event (class_for x)) ≡ 1 = rw i in absurd (omega arith)
    go (an_end n i e) = absurd (true≢false (sym e ∙ open_nil))
    go (another h e) = absurd (true≢false (sym e ∙ open_nil))

-- behind a first item no Continue event comes
pub one_continue : (card : ℕ) (y : Item) (p xs : List Item) → Sound data_kind card (y ∷ p) xs → count continue_event xs ≡ 0
unfolding Sound count
one_continue card y p [] s = refl
one_continue card y p (x ∷ xs) s = go (next card (y ∷ p) x s.0) (one_continue card x (y ∷ p) xs s.1)
  where
    go : Next (y ∷ p) x → count continue_event xs ≡ 0 → tally (same continue_event (class_for x)) + count continue_event xs ≡ 0
    go (a_start t ts n i e) h = let a : tally (same continue_event (class_for x)) ≡ 0 = rw i in omega arith
    go (a_continue n i e) h = not_empty y p e
    go (an_end n i e) h = let a : tally (same continue_event (class_for x)) ≡ 0 = rw i in omega arith
    go (another g e) h = let a : tally (same continue_event (class_for x)) ≡ 0 = rw g.no_continue in omega arith

pub first_continues : (card : ℕ) (xs : List Item) → Sound data_kind card [] xs → begun (earlier_then [] xs) ≡ false → in_event (earlier_then [] xs) ≡ true
    → (n : ℕ) × (ys : List Item) × (xs ≡ ContinueEvent n ∷ ys) × (count end_event xs ≡ 0)
unfolding Sound earlier_then count since
first_continues card [] s b i = absurd (true≢false (sym i))
first_continues card (x ∷ xs) s b i = go (next card [] x s.0)
  where
    r : List Item
    r = earlier_then (x ∷ []) xs

    -- since the latest End event a Continue event stands
    stands : 1 ≤ count continue_event (since end_event r)
    stands =
        let h = leb-true 1 (openers (since end_event r)) i in
        let k = leb-false 1 (count start_event (since end_event r)) b in
        omega arith

    few : count continue_event xs ≡ 0
    few = one_continue card x [] xs s.1

    none_later : same continue_event (class_for x) ≡ false → ⊥
    none_later e =
        let a : tally (same continue_event (class_for x)) ≡ 0 = rw e in
        omega (arith, count_since end_event continue_event r, count_behind continue_event (x ∷ []) xs, few, stands)

    -- and so no End event
    no_end : (n : ℕ) → count end_event xs ≡ n → count end_event xs ≡ 0
    no_end zero h = h
    no_end (suc n) h =
        let l : since end_event r ≡ since end_event (earlier_then [] xs) =
        ap (since end_event) (behind_front (x ∷ []) xs) ∙ since_some end_event (earlier_then [] xs) (x ∷ []) (omega (arith, count_front end_event xs)) in
        let m = ap (count continue_event) l in
        absurd (omega (arith, count_since end_event continue_event (earlier_then [] xs), count_front continue_event xs, few, stands))

    go : Next [] x → (n : ℕ) × (ys : List Item) × (x ∷ xs ≡ ContinueEvent n ∷ ys) × (tally (same end_event (class_for x)) + count end_event xs ≡ 0)
    go (a_start t ts n j e) = absurd (none_later (rw j))
    go (a_continue n j e) =
        let a : tally (same end_event (class_for x)) ≡ 0 = rw j in
        (n, xs, ap (λ (y : Item). y ∷ xs) j, omega (arith, no_end (count end_event xs) refl))
    go (an_end n j e) = absurd (true≢false (sym e ∙ open_nil))
    go (another h e) = absurd (true≢false (sym e ∙ open_nil))
