-- Events and 32 bits; and the law of cutting.
-- Assumes nothing.
use Prim.Native.Nat.{ℕ, ◌+◌, ◌*◌, ◌^◌, ◌<◌, ◌≤◌}
use mathlib.Core.Path.{◌≡◌, refl, sym, ap, subst, ◌∙◌}
use mathlib.Core.List.{List, [], ◌∷◌, ◌++◌, append-nil}
use mathlib.Core.Bool.{Bool, true, false, not, true≢false}
use mathlib.Core.Logic.{◌↔◌}
use native.Mathlib.Omega.{arith}
use Rattle.format.specs.Words.{pick}
use Rattle.format.specs.Book.{start_event, end_event}
use Rattle.format.specs.Items.{Item, StartEvent, EndEvent, class_for}
use Rattle.format.specs.Rules.{same, since, count, total, gather, begun}
use Rattle.format.specs.Frames.{earlier_then, all_words}
use Rattle.format.specs.Questions.{end_size, until}
use Rattle.format.proofs.rules.SoundLaws.{tally, Seen, opening, starts, continues, ends, other, seen}
use Rattle.runs.specs.Runs.{Each, events, bytes_of, Lawful}
use Rattle.runs.proofs.joins.Joined.{Fits}
use Rattle.runs.proofs.joins.ListLaws.{begun_count}
use Rattle.runs.proofs.cuts.FormLaws.{Turn, a_start, an_end, another, Formed, begun_nil, begun_start, begun_within, turned, outside_next}
use Rattle.runs.proofs.cuts.EventLaws.{cut, AllAre, Ruled, since_within, grown_size, start_bytes, gather_start, events_start, events_other, ruled}

-- ---- 32 bits

-- what is open behind the items p is not past them
abbrev pub Bounded : List Item → Type 0
Bounded p = begun p ≡ true → 2 * total (since start_event p) < 2 ^ 32

-- an event that ends is as long as its End event says, and one that does not end is open at last
open_bounded : (q xs : List Item) → begun q ≡ true → Formed true xs
    → AllAre (2 * total (since start_event q) + bytes_of (until start_event xs)) (gather end_size (until start_event xs))
    → Bounded (earlier_then q xs) → 2 * total (since start_event q) + bytes_of (until start_event xs) < 2 ^ 32
unfolding Formed until gather Each earlier_then all_words
open_bounded q [] o f a b = let h = b o in omega arith
open_bounded q (x ∷ xs) o f a b = go f.0 (open_bounded (x ∷ q) xs)
  where
    ys : List Item
    ys = until start_event xs

    Z : ℕ
    Z = 2 * total (since start_event q)

    More : Type 0
    More = begun (x ∷ q) ≡ true → Formed true xs → AllAre (2 * total (since start_event (x ∷ q)) + bytes_of ys) (gather end_size ys)
        → Bounded (earlier_then (x ∷ q) xs) → 2 * total (since start_event (x ∷ q)) + bytes_of ys < 2 ^ 32

    l : List Item
    l = pick (same start_event (class_for x)) [] (x ∷ ys)

    go : Turn true x → More → Z + bytes_of l < 2 ^ 32
    go (a_start t ts n i e) r = absurd (true≢false e)
    go (an_end n i h e) r =
        let w : l ≡ EndEvent n ∷ ys = ap (λ (y : Item). pick (same start_event (class_for y)) [] (y ∷ ys)) i in
        let (k, u) = subst (λ (l : List Item). AllAre (Z + bytes_of l) (gather end_size l)) w a in
        let j : bytes_of l ≡ bytes_of (EndEvent n ∷ ys) = ap (λ (l : List Item). bytes_of l) w in
        omega arith
    go (another h e) r =
        let g : Formed true xs = subst (λ (b : Bool). Formed (not b) xs) h.no_end f.1 in
        let w : l ≡ x ∷ ys = ap (λ (b : Bool). pick b [] (x ∷ ys)) h.no_start in
        let j : bytes_of l ≡ bytes_of (x ∷ ys) = ap (λ (l : List Item). bytes_of l) w in
        let c = grown_size x (since start_event q) ys (since_within x q h) in
        let a' : AllAre (Z + bytes_of (x ∷ ys)) (end_size x ++ gather end_size ys) = subst (λ (l : List Item). AllAre (Z + bytes_of l) (gather end_size l)) w a in
        let d : AllAre (Z + bytes_of (x ∷ ys)) (gather end_size ys) = subst (λ (l : List ℕ). AllAre (Z + bytes_of (x ∷ ys)) (l ++ gather end_size ys)) h.no_size a' in
        let z = r (begun_within x q h ∙ o) g (subst (λ (n : ℕ). AllAre n (gather end_size ys)) (sym c) d) b in
        omega arith

all_bounded : (p xs : List Item) → Formed (begun p) xs → Each Ruled (events xs) → Bounded (earlier_then p xs) → Each (λ (e : List Item). bytes_of e < 2 ^ 32) (events xs)
unfolding Formed Each events earlier_then
all_bounded p [] f r b = tt
all_bounded p (x ∷ xs) f r b = go f.0 (λ (e : Each Ruled (events xs)). all_bounded (x ∷ p) xs (subst (λ (b : Bool). Formed b xs) (sym (turned p x f.0)) f.1) e b)
  where
    Goal : Type 0
    Goal = Each (λ (e : List Item). bytes_of e < 2 ^ 32) (events (x ∷ xs))

    skip : events (x ∷ xs) ≡ events xs → (Each Ruled (events xs) → Each (λ (e : List Item). bytes_of e < 2 ^ 32) (events xs)) → Goal
    skip e k = subst (Each (λ (e : List Item). bytes_of e < 2 ^ 32)) (sym e) (k (subst (Each Ruled) e r))

    go : Turn (begun p) x → (Each Ruled (events xs) → Each (λ (e : List Item). bytes_of e < 2 ^ 32) (events xs)) → Goal
    go (a_start t ts n i o) k =
        let g : Formed true xs = subst (λ (y : Item). Formed (not (same end_event (class_for y))) xs) i f.1 in
        let w : events (x ∷ xs) ≡ (StartEvent t ts n ∷ until start_event xs) ∷ events xs = ap (λ (y : Item). events (y ∷ xs)) i ∙ events_start t ts n xs in
        let (h, l) = subst (Each Ruled) w r in
        let c = start_bytes t ts n p (until start_event xs) in
        let d : gather end_size (StartEvent t ts n ∷ until start_event xs) ≡ gather end_size (until start_event xs) = gather_start t ts n (until start_event xs) in
        let a : AllAre (2 * total (since start_event (StartEvent t ts n ∷ p)) + bytes_of (until start_event xs)) (gather end_size (until start_event xs)) =
        subst (λ (n : ℕ). AllAre n (gather end_size (until start_event xs))) (sym c) (subst (AllAre (bytes_of (StartEvent t ts n ∷ until start_event xs))) d h.1) in
        let b' : Bounded (earlier_then (StartEvent t ts n ∷ p) xs) = subst (λ (y : Item). Bounded (earlier_then (y ∷ p) xs)) i b in
        let z = open_bounded (StartEvent t ts n ∷ p) xs (begun_start t ts n p) g a b' in
        subst (Each (λ (e : List Item). bytes_of e < 2 ^ 32)) (sym w) (omega arith, k l)
    go (an_end n i l o) k = skip (events_other x xs (rw i)) k
    go (another h o) k = skip (events_other x xs h.no_start) k

until_other : (x : Item) (xs : List Item) → same start_event (class_for x) ≡ false → until start_event (x ∷ xs) ≡ x ∷ until start_event xs
unfolding until
until_other x xs e = rw e

since_other : (x : Item) (p : List Item) → same start_event (class_for x) ≡ false → since start_event (x ∷ p) ≡ x ∷ since start_event p
unfolding since
since_other x p e = rw e

-- where no event of all is past 32 bits, none is that is open on the way
pub on_the_way : (p xs rest : List Item) → Each (λ (e : List Item). bytes_of e < 2 ^ 32) (events (xs ++ rest))
    → (1 ≤ count start_event p → 2 * total (since start_event p) + bytes_of (until start_event (xs ++ rest)) < 2 ^ 32)
    → 1 ≤ count start_event (earlier_then p xs) → 2 * total (since start_event (earlier_then p xs)) < 2 ^ 32
unfolding Each earlier_then count
on_the_way p [] rest e h c = let g = h c in omega arith
on_the_way p (x ∷ xs) rest e h c = go (seen x) (λ a b. on_the_way (x ∷ p) xs rest a b c)
  where
    All : List (List Item) → Type 0
    All l = Each (λ (e : List Item). bytes_of e < 2 ^ 32) l

    ys : List Item
    ys = until start_event (xs ++ rest)

    More : Type 0
    More = All (events (xs ++ rest)) → (1 ≤ tally (same start_event (class_for x)) + count start_event p → 2 * total (since start_event (x ∷ p)) + bytes_of ys < 2 ^ 32)
        → 2 * total (since start_event (earlier_then (x ∷ p) xs)) < 2 ^ 32

    skip : same start_event (class_for x) ≡ false → More → 2 * total (since start_event (earlier_then (x ∷ p) xs)) < 2 ^ 32
    skip n k =
        let a : tally (same start_event (class_for x)) ≡ 0 = rw n in
        let w : until start_event (x ∷ (xs ++ rest)) ≡ x ∷ ys = until_other x (xs ++ rest) n in
        let j : bytes_of (until start_event (x ∷ (xs ++ rest))) ≡ bytes_of (x ∷ ys) = ap (λ (l : List Item). bytes_of l) w in
        let g = grown_size x (since start_event p) ys (since_other x p n) in
        k (subst All (events_other x (xs ++ rest) n) e) (λ b. let z = h (omega arith) in omega arith)

    go : Seen x → More → 2 * total (since start_event (earlier_then (x ∷ p) xs)) < 2 ^ 32
    go (opening (starts t ts n i)) k =
        let w : events (x ∷ (xs ++ rest)) ≡ (StartEvent t ts n ∷ ys) ∷ events (xs ++ rest) = ap (λ (y : Item). events (y ∷ (xs ++ rest))) i ∙ events_start t ts n (xs ++ rest) in
        let (a, b) = subst All w e in
        let g : 2 * total (since start_event (x ∷ p)) + bytes_of ys ≡ bytes_of (StartEvent t ts n ∷ ys) =
        ap (λ (y : Item). 2 * total (since start_event (y ∷ p)) + bytes_of ys) i ∙ start_bytes t ts n p ys in
        k b (λ _. omega arith)
    go (opening (continues n i)) k = skip (rw i) k
    go (ends n i) k = skip (rw i) k
    go (other d) k = skip d.no_start k

fits_nil : Fits [] []
unfolding Fits
fits_nil = tt

pub count_nil : count start_event [] ≡ 0
unfolding count
count_nil = refl

lawful : (es : List (List Item)) → Each Ruled es → Each (λ (e : List Item). bytes_of e < 2 ^ 32) es → Each Lawful es
unfolding Each
lawful [] r b = tt
lawful (e ∷ es) r b = (record { rising = r.0.0; sized = r.0.1; bounded = b.0 }, lawful es r.1 b.1)

pub parts : (es : List (List Item)) → Each Lawful es → Each Ruled es × Each (λ (e : List Item). bytes_of e < 2 ^ 32) es
unfolding Each
parts [] l = (tt, tt)
parts (e ∷ es) l = let (r, b) = parts es l.1 in (((l.0.rising, l.0.sized), r), (l.0.bounded, b))

-- THE LAW of cutting: items that are those of a run keep the rules behind all earlier ones, and leave no event open that is past 32 bits, exactly where
-- the events that they are cut into are lawful
pub cut_lawful : (xs : List Item) → Formed false xs → (Fits [] xs × Bounded (earlier_then [] xs)) ↔ Each Lawful (events xs)
cut_lawful xs f = (forth, back)
  where
    none : until start_event xs ≡ []
    none = outside_next xs f

    shut : begun [] ≡ false
    shut = begun_nil

    forth : Fits [] xs × Bounded (earlier_then [] xs) → Each Lawful (events xs)
    forth u =
        let r = (ruled false xs f).0 ((cut [] xs).0 u.0).1 in
        let b = all_bounded [] xs (subst (λ (b : Bool). Formed b xs) (sym shut) f) r u.1 in
        lawful (events xs) r b

    back : Each Lawful (events xs) → Fits [] xs × Bounded (earlier_then [] xs)
    back e =
        let (r, b) = parts (events xs) e in (
          (cut [] xs).1 (subst (Fits []) (sym none) fits_nil, (ruled false xs f).1 r),
          λ o. on_the_way [] xs [] (subst (λ (l : List Item). Each (λ (e : List Item). bytes_of e < 2 ^ 32) (events l)) (sym (append-nil xs)) b)
              (λ h. absurd (omega (arith, count_nil))) (begun_count (earlier_then [] xs) o),
        )
