-- An assembler's open event is a function of all earlier items of the run: a frame links by it exactly where its items join them, and what is open
-- then is what is open behind all of them.
-- Assumes nothing.
use Prim.Native.Nat.{ℕ, zero, suc, ◌+◌, ◌*◌, ◌<◌, ◌≤◌, max}
use mathlib.Core.Path.{◌≡◌, refl, sym, ap, subst, ◌∙◌}
use mathlib.Core.List.{List, [], ◌∷◌, ◌++◌}
use mathlib.Core.Bool.{Bool, true, false, ◌&&◌, true≢false}
use mathlib.Core.Logic.{◌↔◌}
use mathlib.Core.Option.{Option, none, some}
use native.Mathlib.Omega.{arith}
use lib.Dec.{ltb, eqb}
use lib.ListN.{length, length-append}
use borrow.Author.Tests.{leb-true, eqb-true, eq-eqb, ltb-true, lt-ltb}
use Rattle.format.specs.Words.{pick}
use Rattle.format.specs.Book.{start_event, continue_event, end_event}
use Rattle.format.specs.Items.{Item, ContinueEvent, words_of}
use Rattle.format.specs.Rules.{data_kind, since, count, total, gather, channel_key, head_or_zero, openers, in_event, begun}
use Rattle.format.specs.Frames.{earlier_then, Sound, all_words}
use Rattle.format.specs.Steps.{above_all}
use Rattle.format.specs.Questions.{end_size, head_of, until}
use Rattle.format.proofs.book.PrefixLaws.{and_left, and_right, and_both}
use Rattle.format.proofs.rules.SoundLaws.{continues, open_nil, open_opening, sound_tail}
use Rattle.format.proofs.questions.ItemQuestions.{no_some}
use Rattle.format.proofs.writer.NoDeadEnd.{total_behind, total_nil}
use Rattle.runs.specs.Assembly.{Open, continued, is_none, is_number, from, part_bytes, size_goes_on, goes_on, linked, start_number, last_open, grown, open_after}
use Rattle.runs.proofs.joins.Joined.{Fits, Joins}
use Rattle.runs.proofs.joins.ListLaws.{behind_front, gather_append, total_append, since_none, since_some, begun_none, begun_ended, begun_some, count_since, begun_count, above_all_append}
use Rattle.runs.proofs.joins.PartLaws.{from_start, end_fits, part_fits, key_now, size_now, part}
use Rattle.runs.proofs.joins.BeginLaws.{count_front, no_sizes, some_sizes, until_all, since_few, continued_is, numbers_count, no_numbers, no_openers_here, first_opens, first_continues, part_alone}

-- the event that is open behind all items of a run
abbrev pub open_of : List Item → Option Open
open_of p = pick (begun p) (some (last_open p)) none

is_none_lem : (o : Option ℕ) → is_none o ≡ true → o ≡ none
is_none_lem none e = refl
is_none_lem (some n) e = absurd (true≢false (sym e))

pub is_number_lem : (k : ℕ) (o : Option ℕ) → is_number k o ≡ true → o ≡ some k
is_number_lem k none e = absurd (true≢false (sym e))
is_number_lem k (some n) e = ap some (sym (eqb-true k n e))

-- an event's size in 32 bits, where it does not end
abbrev bound : ℕ → Option ℕ → Bool
bound size none = ltb size 4294967296
bound size (some z) = true

size_both : (size : ℕ) (z : Option ℕ) → size_goes_on size z ≡ end_fits size z && bound size z
size_both size none = refl
size_both size (some z) = and_true (eqb z (size + 6))
  where
    and_true : (b : Bool) → b ≡ b && true
    and_true true = refl
    and_true false = refl

lead_part : (k size n : ℕ) (ys : List Item) → part_fits k size (ContinueEvent n ∷ ys) ≡ part_fits k (size + 2 * total (ContinueEvent n ∷ [])) ys
unfolding gather until all_words from total words_of
lead_part k size n ys =
    let l : size + 2 * length (words_of (ContinueEvent n) ++ all_words (until end_event ys)) ≡ size + 2 * total (ContinueEvent n ∷ []) + 2 * length (all_words (until end_event ys)) =
    omega (arith, length-append (words_of (ContinueEvent n)) (all_words (until end_event ys))) in
    ap (λ (m : ℕ). from k (gather channel_key (until end_event ys)) && end_fits m (head_of (gather end_size ys))) l

lone_counts : (n : ℕ) → (count start_event (ContinueEvent n ∷ []) ≡ 0) × (count end_event (ContinueEvent n ∷ []) ≡ 0)
unfolding count
lone_counts n = (refl, refl)

module _ (card lost : ℕ) (p xs : List Item) (s : Sound data_kind card [] xs) (short : length (all_words xs) ≤ 4096) where
  abbrev q : List Item
  q = earlier_then [] xs

  q_total : total q ≡ length (all_words xs)
  q_total = omega (arith, total_behind [] xs, total_nil)

  -- an event that began in the frame is short
  own_bounded : 1 ≤ count start_event q → 2 * total (since start_event (earlier_then p xs)) < 4294967296
  own_bounded h =
      let e : total (since start_event (earlier_then p xs)) ≡ total (since start_event q) =
      ap (λ (l : List Item). total (since start_event l)) (behind_front p xs) ∙ ap total (since_some start_event q p h) in
      omega (arith, since_few start_event q, q_total)

  -- an event that is open behind an ended one, or behind none, began in the frame
  began_here : (count end_event q ≡ 0 → begun p ≡ false) → begun (earlier_then p xs) ≡ true → 1 ≤ count start_event q
  began_here f b = go (count end_event q) refl (count start_event q) refl
    where
      b' : begun (q ++ p) ≡ true
      b' = ap (λ (l : List Item). begun l) (sym (behind_front p xs)) ∙ b

      go : (n : ℕ) → count end_event q ≡ n → (m : ℕ) → count start_event q ≡ m → 1 ≤ count start_event q
      go n e (suc m) g = omega arith
      go zero e zero g = absurd (true≢false (sym b' ∙ begun_none q p g e ∙ f e))
      go (suc n) e zero g =
          let h : 1 ≤ count start_event (since end_event q) = leb-true _ _ (sym (begun_ended q p (omega arith)) ∙ b') in
          omega (arith, count_since end_event start_event q)

  -- ---- no event is open

  shut_linked : begun p ≡ false → (is_none (continued xs) ≡ true) ↔ Joins p lost xs
  shut_linked o = (
    λ e. let c = is_none_lem (continued xs) e in
        record {
          goes_on = λ b. absurd (true≢false (sym b ∙ o));
          begins = λ b. c;
          fits = from_start card [] p xs open_nil (λ z. c) s;
          bounded = λ b. own_bounded (began_here (λ z. o) b);
        },
    λ j. ap is_none (j.begins o),
  )

  -- ---- an event is open

  module _ (o : begun p ≡ true) where
    abbrev number : ℕ
    number = head_or_zero (gather start_number p)

    abbrev K : ℕ
    K = key_now p o

    abbrev S : ℕ
    S = size_now p o

    -- the part's rules, where a Continue event leads
    led : (n : ℕ) (ys : List Item) → xs ≡ ContinueEvent n ∷ ys → Fits p xs ↔ (part_fits (key_now p o) (size_now p o) xs ≡ true)
    unfolding Fits
    led n ys i =
        let t : Sound data_kind card (ContinueEvent n ∷ []) ys = sound_tail data_kind card [] (ContinueEvent n) ys (subst (Sound data_kind card []) i s) in
        let (a, b) = lone_counts n in
        let h = part p o card (ContinueEvent n ∷ []) ys a b (open_opening (ContinueEvent n) [] (continues n refl)) t in
        let w : part_fits (key_now p o) (size_now p o) xs ≡ part_fits (key_now p o) (size_now p o + 2 * total (ContinueEvent n ∷ [])) ys =
        ap (part_fits (key_now p o) (size_now p o)) i ∙ lead_part (key_now p o) (size_now p o) n ys in (
          λ f. w ∙ h.0 (subst (Fits p) i f).1,
          λ e. subst (Fits p) (sym i) (refl, h.1 (sym w ∙ e)),
        )

    -- what is open behind a part with no End event
    alone : (n : ℕ) (ys : List Item) → xs ≡ ContinueEvent n ∷ ys → count end_event xs ≡ 0 → count start_event q ≡ 0
    unfolding count
    alone n ys i e =
        let t : Sound data_kind card (ContinueEvent n ∷ []) ys = sound_tail data_kind card [] (ContinueEvent n) ys (subst (Sound data_kind card []) i s) in
        let f : 0 + count end_event ys ≡ 0 = ap (count end_event) (sym i) ∙ e in
        let g = part_alone card n ys t (omega arith) in
        let k : count start_event xs ≡ 0 + count start_event ys = ap (count start_event) i in
        omega (arith, count_front start_event xs)

    part_size : count end_event xs ≡ 0 → count start_event q ≡ 0 → 2 * total (since start_event (earlier_then p xs)) ≡ size_now p o + part_bytes xs
    part_size e f =
        let a : total (since start_event (earlier_then p xs)) ≡ total (q ++ since start_event p) =
        ap (λ (l : List Item). total (since start_event l)) (behind_front p xs) ∙ ap total (since_none start_event q p f) in
        let b : length (all_words (until end_event xs)) ≡ length (all_words xs) = ap (λ (l : List Item). length (all_words l)) (until_all xs e) in
        omega (arith, total_append q (since start_event p), q_total)

    still_begun : count end_event xs ≡ 0 → count start_event q ≡ 0 → begun (earlier_then p xs) ≡ true
    still_begun e f = ap (λ (l : List Item). begun l) (behind_front p xs) ∙ begun_none q p f (count_front end_event xs ∙ e) ∙ o

    bound_joins : (n : ℕ) (ys : List Item) → xs ≡ ContinueEvent n ∷ ys → (z : Option ℕ) → head_of (gather end_size xs) ≡ z
        → (bound (size_now p o + part_bytes xs) z ≡ true) ↔ (begun (earlier_then p xs) ≡ true → 2 * total (since start_event (earlier_then p xs)) < 4294967296)
    bound_joins n ys i none z =
        let e = some_sizes xs z in
        let f = alone n ys i e in
        let k = part_size e f in (
          λ h b. let g = ltb-true (size_now p o + part_bytes xs) 4294967296 h in omega arith,
          λ h. let g = h (still_begun e f) in lt-ltb (size_now p o + part_bytes xs) 4294967296 (omega arith),
        )
    bound_joins n ys i (some m) z = (
      λ h b. own_bounded (began_here (λ e. no_some m (sym (ap head_of (no_sizes xs (sym (count_front end_event xs) ∙ e))) ∙ z)) b),
      λ h. refl,
    )

    open_linked : (goes_on (last_open p) lost xs ≡ true) ↔ Joins p lost xs
    open_linked = (forth, back)
      where
        T : Bool
        T = from K (gather channel_key (until end_event xs))

        Z : Bool
        Z = size_goes_on (S + part_bytes xs) (head_of (gather end_size xs))

        forth : eqb lost 0 && is_number number (continued xs) && T && Z ≡ true → Joins p lost xs
        forth e =
            let a = and_left (eqb lost 0 && is_number number (continued xs) && T) Z e in
            let z : Z ≡ true = and_right (eqb lost 0 && is_number number (continued xs) && T) Z e in
            let b = and_left (eqb lost 0 && is_number number (continued xs)) T a in
            let k : T ≡ true = and_right (eqb lost 0 && is_number number (continued xs)) T a in
            let l = eqb-true lost 0 (and_left (eqb lost 0) (is_number number (continued xs)) b) in
            let c = is_number_lem number (continued xs) (and_right (eqb lost 0) (is_number number (continued xs)) b) in
            let (ys, i) = continued_is xs number c in
            let w = sym (size_both (S + part_bytes xs) (head_of (gather end_size xs))) ∙ z in
            let f = and_left (end_fits (S + part_bytes xs) (head_of (gather end_size xs))) (bound (S + part_bytes xs) (head_of (gather end_size xs))) w in
            let g = and_right (end_fits (S + part_bytes xs) (head_of (gather end_size xs))) (bound (S + part_bytes xs) (head_of (gather end_size xs))) w in
            record {
              goes_on = λ _. (l, c);
              begins = λ n. absurd (true≢false (sym o ∙ n));
              fits = (led number ys i).1 (and_both _ _ k f);
              bounded = (bound_joins number ys i (head_of (gather end_size xs)) refl).0 g;
            }

        back : Joins p lost xs → eqb lost 0 && is_number number (continued xs) && T && Z ≡ true
        back j =
            let (l, c) = j.goes_on o in
            let (ys, i) = continued_is xs number c in
            let h = (led number ys i).0 j.fits in
            let k : T ≡ true = and_left T (end_fits (S + part_bytes xs) (head_of (gather end_size xs))) h in
            let f = and_right T (end_fits (S + part_bytes xs) (head_of (gather end_size xs))) h in
            let g = (bound_joins number ys i (head_of (gather end_size xs)) refl).1 j.bounded in
            and_both _ _ (and_both _ _ (and_both _ _ (eq-eqb lost 0 l) (ap (is_number number) c ∙ eq-eqb number number refl)) k)
            (size_both (S + part_bytes xs) (head_of (gather end_size xs)) ∙ and_both _ _ f g)

  -- THE LAW of linking: by the open event alone, a frame links exactly where its items join all earlier ones
  pub links : (linked (open_of p) lost xs ≡ true) ↔ Joins p lost xs
  links = go (begun p) refl
    where
      go : (b : Bool) → begun p ≡ b → (linked (pick b (some (last_open p)) none) lost xs ≡ true) ↔ Joins p lost xs
      go true e = open_linked e
      go false e = shut_linked e

  -- ---- what is open then

  number_own : 1 ≤ count start_event q → head_or_zero (gather start_number (q ++ p)) ≡ head_or_zero (gather start_number q)
  number_own h = ap (λ (l : List ℕ). head_or_zero l) (gather_append start_number q p) ∙ head_append (gather start_number q) (gather start_number p) (numbers q h)
    where
      head_append : (a b : List ℕ) → 1 ≤ length a → head_or_zero (a ++ b) ≡ head_or_zero a
      head_append [] b l = absurd (omega arith)
      head_append (n ∷ a) b l = refl

      numbers : (r : List Item) → 1 ≤ count start_event r → 1 ≤ length (gather start_number r)
      numbers r l = omega (arith, numbers_count r)

  last_own : 1 ≤ count start_event q → last_open (q ++ p) ≡ last_open q
  last_own h =
      let e = since_some start_event q p h in
      λ i. record { number = number_own h i; size = 2 * total (e i); key = above_all (gather channel_key (e i)) }

  last_grown : count start_event q ≡ 0 → some (last_open (q ++ p)) ≡ grown (some (last_open p)) q
  last_grown h =
      let e = since_none start_event q p h in
      let n : head_or_zero (gather start_number (q ++ p)) ≡ head_or_zero (gather start_number p) =
      ap (λ (l : List ℕ). head_or_zero l) (gather_append start_number q p) ∙ ap (λ (l : List ℕ). head_or_zero (l ++ gather start_number p)) (no_numbers q h) in
      let z : 2 * total (since start_event (q ++ p)) ≡ 2 * total (since start_event p) + 2 * total q =
      ap (λ (l : List Item). 2 * total l) e ∙ omega (arith, total_append q (since start_event p)) in
      let k : above_all (gather channel_key (since start_event (q ++ p))) ≡ max (above_all (gather channel_key (since start_event p))) (above_all (gather channel_key q)) =
      ap (λ (l : List Item). above_all (gather channel_key l)) e ∙ ap above_all (gather_append channel_key q (since start_event p))
      ∙ omega (arith, above_all_append (gather channel_key q) (gather channel_key (since start_event p))) in
      λ i. some (record { number = n i; size = z i; key = k i })

  -- a list of items that opens nothing is empty
  nothing_opened : openers xs ≡ 0 → xs ≡ []
  nothing_opened h = first_opens card xs s h

  -- a Continue event is the first item, and an event that is open with no Start event since goes on through the whole frame
  through : begun q ≡ false → in_event q ≡ true → (n : ℕ) × (ys : List Item) × (xs ≡ ContinueEvent n ∷ ys) × (count end_event xs ≡ 0)
  through b i = first_continues card xs s b i

  pub opens : Joins p lost xs → open_of (earlier_then p xs) ≡ open_after (open_of p) q
  unfolding open_after
  opens j = ap open_of (behind_front p xs) ∙ go (begun q) refl (in_event q) refl
    where
      go : (b : Bool) → begun q ≡ b → (i : Bool) → in_event q ≡ i
          → pick (begun (q ++ p)) (some (last_open (q ++ p))) none ≡ pick (begun q) (some (last_open q)) (pick (in_event q) (grown (open_of p) q) none)
      go true b i e =
          let h : 1 ≤ count start_event q = begun_count q b in
          rw (begun_some q p h, b) (ap some (last_own h))
      go false b true e =
          let (n, ys, k, c) = through b e in
          let o : begun p ≡ true = was_open (begun p) refl n (ap continued k) in
          let f = alone o n ys k c in
          let g : begun (q ++ p) ≡ true = begun_none q p f (count_front end_event xs ∙ c) ∙ o in
          rw (g, b, e, o) (last_grown f)
        where
          was_open : (t : Bool) → begun p ≡ t → (n : ℕ) → continued xs ≡ some n → begun p ≡ true
          was_open true h n c = h
          was_open false h n c = no_some n (sym (j.begins h) ∙ c)
      go false b false e =
          rw (shut (count end_event q) refl, b, e)
        where
          shut : (n : ℕ) → count end_event q ≡ n → begun (q ++ p) ≡ false
          shut (suc n) c = begun_ended q p (omega arith) ∙ b
          shut zero c =
              let l : openers q ≡ 0 = no_openers_here q c e in
              let x : xs ≡ [] = nothing_opened (omega (arith, count_front start_event xs, count_front continue_event xs)) in
              begun_none q p (omega arith) c ∙ was_shut (begun p) refl x
            where
              was_shut : (t : Bool) → begun p ≡ t → xs ≡ [] → begun p ≡ false
              was_shut false h x = h
              was_shut true h x = let (l, n) = j.goes_on h in no_some _ (sym (ap continued x) ∙ n)
