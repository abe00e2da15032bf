-- An event's rules over all its parts, of a frame's items behind the earlier items of the run: in events that begin in the frame they are the frame's
-- own rules; of the part that goes on with an open event, they are what an assembler tests.
-- Assumes nothing.
use Prim.Native.Nat.{ℕ, ◌+◌, ◌*◌, ◌≤◌}
use mathlib.Core.Path.{◌≡◌, refl, sym, ap, ap₂, subst, ◌∙◌}
use mathlib.Core.List.{List, [], ◌∷◌, ◌++◌}
use mathlib.Core.Bool.{Bool, true, false, not, ◌&&◌, ◌||◌, true≢false}
use mathlib.Core.Logic.{◌↔◌}
use mathlib.Core.Option.{Option, none, some}
use native.Mathlib.Omega.{arith}
use lib.Dec.{leb, eqb}
use lib.ListN.{length, length-append}
use borrow.Author.Tests.{ne_eqb, eqb-false}
use Rattle.format.specs.Words.{pick}
use Rattle.format.specs.Book.{Class, channel, start_event, continue_event, end_event, row_of}
use Rattle.format.specs.Items.{Item, Channel, Histogram, HitCount, Sample, Bin, LastCell, TimeBin, Text, StartEvent, ContinueEvent, EndEvent, class_for, words_of, in_range, key, header_bits}
use Rattle.format.specs.Rules.{data_kind, same, since, count, latest, inside_after, between_events, allowed, among, place, total, gather, channel_key, above, in_event, begun, sized, order}
use Rattle.format.specs.Frames.{Allowed, Sound, all_words}
use Rattle.format.specs.Steps.{above_all}
use Rattle.format.specs.Questions.{end_size, head_of, until}
use Rattle.format.proofs.book.PrefixLaws.{and_right}
use Rattle.format.proofs.reader.StateLaws.{above_leb}
use Rattle.format.proofs.rules.SoundLaws.{tally, Plain, starts, continues, Seen, opening, ends, other, seen, open_nil, open_other, open_end, start_place, continue_place, end_place}
use Rattle.format.proofs.questions.ItemQuestions.{no_some}
use Rattle.runs.specs.Assembly.{continued, from, part_bytes}
use Rattle.runs.proofs.joins.Joined.{fits_run, Fits}
use Rattle.runs.proofs.joins.ListLaws.{gather_append, total_append, since_none, since_all, since_some, begun_none, begun_some, above_append}

-- ---- events that begin in the frame

-- a Start event begins the rules anew
pub own_fit : (q p : List Item) (x : Item) → 1 ≤ count start_event q → fits_run (q ++ p) x ≡ fits_run q x
own_fit q p (Channel a b c) h = ap (λ (l : List Item). above (key a b c) (gather channel_key l)) (since_some start_event q p h)
own_fit q p (Histogram a b c) h = refl
own_fit q p (HitCount a b c) h = refl
own_fit q p (Sample v) h = refl
own_fit q p (Bin b n) h = refl
own_fit q p (LastCell a b) h = refl
own_fit q p (TimeBin t) h = refl
own_fit q p (Text s) h = refl
own_fit q p (StartEvent t ts n) h = refl
own_fit q p (ContinueEvent n) h = refl
own_fit q p (EndEvent n) h = ap₂ (λ (b : Bool) (l : List Item). not b || eqb n (2 * total l + 6)) (begun_some q p h) (since_some start_event q p h)

-- and of what a frame allows they hold
allowed_fit : (card : ℕ) (q : List Item) (x : Item) → Allowed data_kind card q x → fits_run q x ≡ true
allowed_fit card q (Channel a b c) l = l.ordered
allowed_fit card q (Histogram a b c) l = refl
allowed_fit card q (HitCount a b c) l = refl
allowed_fit card q (Sample v) l = refl
allowed_fit card q (Bin b n) l = refl
allowed_fit card q (LastCell a b) l = refl
allowed_fit card q (TimeBin t) l = refl
allowed_fit card q (Text s) l = refl
allowed_fit card q (StartEvent t ts n) l = refl
allowed_fit card q (ContinueEvent n) l = refl
allowed_fit card q (EndEvent n) l = and_right (in_range card (EndEvent n)) (sized q (EndEvent n)) l.valued

own : (card : ℕ) (q p xs : List Item) → 1 ≤ count start_event q → Sound data_kind card q xs → Fits (q ++ p) xs
unfolding Sound Fits count
own card q p [] h s = tt
own card q p (x ∷ xs) h s = (own_fit q p x h ∙ allowed_fit card q x s.0, own card (x ∷ q) p xs (omega arith) s.1)

-- ---- the next item

turned : (c d : Class) → same c d ≡ false → same d c ≡ false
turned c d e = ne_eqb (row_of d) (row_of c) (λ h. eqb-false (row_of c) (row_of d) e (sym h))

-- an item that opens no event stands inside one
plain_inside : (q : List Item) (x : Item) → same start_event (class_for x) ≡ false → same continue_event (class_for x) ≡ false → place data_kind q (class_for x) ≡ true → in_event q ≡ true
plain_inside q x n m e = go (in_event q) q e
  where
    c : Class
    c = class_for x

    go : (b : Bool) (r : List Item) → among c (allowed (pick b (inside_after (latest q)) (between_events r))) ≡ true → b ≡ true
    go true r f = refl
    go false [] f = absurd (true≢false (sym f ∙ rw (turned start_event c n, turned continue_event c m)))
    go false (y ∷ r) f = absurd (true≢false (sym f ∙ rw (turned start_event c n)))

-- an item as a data frame has it: a Start event outside an event, a Continue event before all others, any other inside an event
pub data Next (q : List Item) (x : Item) : Type 0 where
  a_start : (t ts n : ℕ) → x ≡ StartEvent t ts n → in_event q ≡ false → Next q x
  a_continue : (n : ℕ) → x ≡ ContinueEvent n → q ≡ [] → Next q x
  an_end : (n : ℕ) → x ≡ EndEvent n → in_event q ≡ true → Next q x
  another : Plain x → in_event q ≡ true → Next q x

pub next : (card : ℕ) (q : List Item) (x : Item) → Allowed data_kind card q x → Next q x
next card q x a = go (seen x)
  where
    placed : (y : Item) → x ≡ y → place data_kind q (class_for y) ≡ true
    placed y i = ap (λ (z : Item). place data_kind q (class_for z)) (sym i) ∙ a.placed

    go : Seen x → Next q x
    go (opening (starts t ts n i)) = a_start t ts n i (start_place data_kind q (placed _ i)).1
    go (opening (continues n i)) = a_continue n i (continue_place data_kind q (placed _ i)).1
    go (ends n i) = an_end n i (end_place data_kind q (placed _ i)).1
    go (other h) = another h (plain_inside q x h.no_start h.no_continue a.placed)

-- outside an event, and where no Continue event leads, all that follows are events of the frame's own
pub from_start : (card : ℕ) (q p xs : List Item) → in_event q ≡ false → (q ≡ [] → continued xs ≡ none) → Sound data_kind card q xs → Fits (q ++ p) xs
unfolding Sound Fits count
from_start card q p [] o c s = tt
from_start card q p (x ∷ xs) o c s = go (next card q x s.0)
  where
    go : Next q x → (fits_run (q ++ p) x ≡ true) × Fits (x ∷ (q ++ p)) xs
    go (a_start t ts n i e) =
        let one : tally (same start_event (class_for x)) ≡ 1 = rw i in
        (ap (fits_run (q ++ p)) i, own card (x ∷ q) p xs (omega arith) s.1)
    go (a_continue n i e) = no_some n (sym (c e) ∙ ap (λ (y : Item). continued (y ∷ xs)) i)
    go (an_end n i e) = absurd (true≢false (sym e ∙ o))
    go (another h e) = absurd (true≢false (sym e ∙ o))

-- ---- the part that goes on with an open event

-- an End event's size counts all parts
abbrev pub end_fits : ℕ → Option ℕ → Bool
end_fits size none = true
end_fits size (some z) = eqb z (size + 6)

-- what is tested of the part
abbrev pub part_fits : ℕ → ℕ → List Item → Bool
part_fits k size xs = from k (gather channel_key (until end_event xs)) && end_fits (size + part_bytes xs) (head_of (gather end_size xs))

-- the same behind an item that is neither
part_plain : (k size : ℕ) (x : Item) (xs : List Item) → Plain x → channel_key x ≡ [] → part_fits k size (x ∷ xs) ≡ part_fits k (size + 2 * length (words_of x)) xs
unfolding gather until all_words from
part_plain k size x xs h e =
    let l : size + 2 * length (words_of x ++ all_words (until end_event xs)) ≡ size + 2 * length (words_of x) + 2 * length (all_words (until end_event xs)) =
    omega (arith, length-append (words_of x) (all_words (until end_event xs))) in
    rw (h.no_end, h.no_size, e, l)

part_channel : (k size a b c : ℕ) (xs : List Item) → part_fits k size (Channel a b c ∷ xs) ≡ leb k (key a b c) && part_fits k (size + 2 * 1) xs
unfolding gather until all_words from words_of
part_channel k size a b c xs =
    let l : size + 2 * length ((0xC000 + header_bits a b c) ∷ all_words (until end_event xs)) ≡ size + 2 * 1 + 2 * length (all_words (until end_event xs)) = omega arith in
    rw l (and_assoc (leb k (key a b c)) (from k (gather channel_key (until end_event xs))) (end_fits (size + 2 * 1 + part_bytes xs) (head_of (gather end_size xs))))
  where
    and_assoc : (x y z : Bool) → x && y && z ≡ x && (y && z)
    and_assoc true y z = refl
    and_assoc false y z = refl

part_end : (k size n : ℕ) (xs : List Item) → part_fits k size (EndEvent n ∷ xs) ≡ eqb n (size + 6)
unfolding gather until all_words from
part_end k size n xs = let l : size + 2 * 0 + 6 ≡ size + 6 = omega arith in ap (eqb n) l

part_nothing : (k size : ℕ) → part_fits k size [] ≡ true
unfolding gather until from
part_nothing k size = refl

one_word : (a b c : ℕ) → length (words_of (Channel a b c)) ≡ 1
unfolding words_of
one_word a b c = refl

pub not_empty : (x : Item) (q : List Item) {A : Type 0} → x ∷ q ≡ [] → A
not_empty x q e = let z : ◌≡◌ {A = ℕ} 0 1 = cc in absurd (omega arith)

-- a header, or an item that the run's rules do not look at
pub data Headed (x : Item) : Type 0 where
  header : (a b c : ℕ) → x ≡ Channel a b c → Headed x
  unheaded : channel_key x ≡ [] → same channel (class_for x) ≡ false → ((p : List Item) → fits_run p x ≡ true) → Headed x

pub headed : (x : Item) → Plain x → Headed x
headed (Channel a b c) h = header a b c refl
headed (Histogram a b c) h = unheaded refl refl (λ p. refl)
headed (HitCount a b c) h = unheaded refl refl (λ p. refl)
headed (Sample v) h = unheaded refl refl (λ p. refl)
headed (Bin b n) h = unheaded refl refl (λ p. refl)
headed (LastCell a b) h = unheaded refl refl (λ p. refl)
headed (TimeBin t) h = unheaded refl refl (λ p. refl)
headed (Text s) h = unheaded refl refl (λ p. refl)
headed (StartEvent t ts n) h = unheaded refl refl (λ p. refl)
headed (ContinueEvent n) h = unheaded refl refl (λ p. refl)
headed (EndEvent n) h = absurd (true≢false h.no_end)

-- two tests, the first of which is known, and what comes after them
both : (a b : Bool) (P : Type 0) → P ↔ (b ≡ true) → ((a ≡ true) × P) ↔ (a && b ≡ true)
both true b P h = (λ u. h.0 u.1, λ e. (refl, h.1 e))
both false b P h = (λ u. u.0, λ e. absurd (true≢false (sym e)))

module _ (p : List Item) (o : begun p ≡ true) where
  abbrev pub key_now : ℕ
  key_now = above_all (gather channel_key (since start_event p))

  abbrev pub size_now : ℕ
  size_now = 2 * total (since start_event p)

  -- the rules behind the items q of a part
  channel_test : (q : List Item) (a b c : ℕ) → count start_event q ≡ 0 → order q (Channel a b c) ≡ true → fits_run (q ++ p) (Channel a b c) ≡ leb key_now (key a b c)
  channel_test q a b c n e =
      let i : above (key a b c) (gather channel_key q) ≡ true = ap (λ (l : List Item). above (key a b c) (gather channel_key l)) (sym (since_all start_event q n)) ∙ e in
      ap (λ (l : List Item). above (key a b c) (gather channel_key l)) (since_none start_event q p n)
      ∙ ap (above (key a b c)) (gather_append channel_key q (since start_event p))
      ∙ above_append (key a b c) (gather channel_key q) (gather channel_key (since start_event p))
      ∙ ap (λ (t : Bool). t && above (key a b c) (gather channel_key (since start_event p))) i
      ∙ above_leb (key a b c) (gather channel_key (since start_event p))

  end_test : (q : List Item) (n : ℕ) → count start_event q ≡ 0 → count end_event q ≡ 0 → fits_run (q ++ p) (EndEvent n) ≡ eqb n (size_now + 2 * total q + 6)
  end_test q n s e =
      let l : 2 * total (q ++ since start_event p) + 6 ≡ size_now + 2 * total q + 6 = omega (arith, total_append q (since start_event p)) in
      ap₂ (λ (t : Bool) (l : List Item). not t || eqb n (2 * total l + 6)) (begun_none q p s e ∙ o) (since_none start_event q p s) ∙ ap (eqb n) l

  pub part : (card : ℕ) (q xs : List Item) → count start_event q ≡ 0 → count end_event q ≡ 0 → in_event q ≡ true → Sound data_kind card q xs
      → Fits (q ++ p) xs ↔ (part_fits key_now (size_now + 2 * total q) xs ≡ true)
  unfolding Sound Fits count total
  part card q [] s e i h = (λ u. part_nothing key_now (size_now + 2 * total q), λ u. tt)
  part card q (x ∷ xs) s e i h = go (next card q x h.0) (part card (x ∷ q) xs)
    where
      S : ℕ
      S = size_now + 2 * total q

      Rest : Type 0
      Rest = Fits (x ∷ (q ++ p)) xs

      Goal : Type 0
      Goal = ((fits_run (q ++ p) x ≡ true) × Rest) ↔ (part_fits key_now S (x ∷ xs) ≡ true)

      More : Type 0
      More = Rest ↔ (part_fits key_now (size_now + 2 * (length (words_of x) + total q)) xs ≡ true)

      plain : Plain x → Headed x → More → Goal
      plain g (header a b c j) r =
          let l : length (words_of x) ≡ 1 = ap (λ (y : Item). length (words_of y)) j ∙ one_word a b c in
          let n : size_now + 2 * (length (words_of x) + total q) ≡ S + 2 * 1 = omega arith in
          let w : part_fits key_now S (x ∷ xs) ≡ leb key_now (key a b c) && part_fits key_now (S + 2 * 1) xs =
          ap (λ (y : Item). part_fits key_now S (y ∷ xs)) j ∙ part_channel key_now S a b c xs in
          let t : fits_run (q ++ p) x ≡ leb key_now (key a b c) =
          ap (fits_run (q ++ p)) j ∙ channel_test q a b c s (ap (order q) (sym j) ∙ h.0.ordered) in
          let f = both (leb key_now (key a b c)) (part_fits key_now (S + 2 * 1) xs) Rest (subst (λ (m : ℕ). Rest ↔ (part_fits key_now m xs ≡ true)) n r) in
          (λ u. w ∙ f.0 (sym t ∙ u.0, u.1), λ v. let (a, b) = f.1 (sym w ∙ v) in (t ∙ a, b))
      plain g (unheaded k _ f) r =
          let n : size_now + 2 * (length (words_of x) + total q) ≡ S + 2 * length (words_of x) = omega arith in
          let w : part_fits key_now S (x ∷ xs) ≡ part_fits key_now (size_now + 2 * (length (words_of x) + total q)) xs =
          part_plain key_now S x xs g k ∙ ap (λ (m : ℕ). part_fits key_now m xs) (sym n) in
          (λ u. w ∙ r.0 u.1, λ v. (f (q ++ p), r.1 (sym w ∙ v)))

      go : Next q x → (count start_event (x ∷ q) ≡ 0 → count end_event (x ∷ q) ≡ 0 → in_event (x ∷ q) ≡ true → Sound data_kind card (x ∷ q) xs → More) → Goal
      go (a_start t ts n j f) r = absurd (true≢false (sym i ∙ f))
      go (a_continue n j f) r = absurd (true≢false (sym i ∙ ap (λ (l : List Item). in_event l) f ∙ open_nil))
      go (an_end n j f) r =
          let t : fits_run (q ++ p) x ≡ eqb n (S + 6) = ap (fits_run (q ++ p)) j ∙ end_test q n s e in
          let w : part_fits key_now S (x ∷ xs) ≡ eqb n (S + 6) = ap (λ (y : Item). part_fits key_now S (y ∷ xs)) j ∙ part_end key_now S n xs in
          let c : in_event (x ∷ q) ≡ false = ap (λ (y : Item). in_event (y ∷ q)) j ∙ open_end n q in
          (λ u. w ∙ sym t ∙ u.0, λ v. (t ∙ sym w ∙ v, from_start card (x ∷ q) p xs c (λ z. not_empty x q z) h.1))
      go (another g f) r =
          let a : tally (same start_event (class_for x)) ≡ 0 = rw g.no_start in
          let b : tally (same end_event (class_for x)) ≡ 0 = rw g.no_end in
          plain g (headed x g) (r (omega arith) (omega arith) (open_other x q g ∙ i) h.1)
