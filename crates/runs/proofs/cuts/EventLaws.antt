-- Items cut at each Start event: the rules of an event over all its parts, item by item behind all earlier ones, are those of the events that the items
-- are cut into.
-- Assumes nothing.
use Prim.Native.Nat.{ℕ, suc, ◌+◌, ◌*◌, ◌<◌, ◌≤◌}
use mathlib.Core.Path.{◌≡◌, refl, sym, ap, ap₂, subst, ◌∙◌}
use mathlib.Core.List.{List, [], ◌∷◌, ◌++◌}
use mathlib.Core.Bool.{Bool, true, false, not, ◌&&◌, ◌||◌, true≢false}
use mathlib.Core.Logic.{◌↔◌}
use native.Mathlib.Omega.{arith}
use lib.Dec.{leb, eqb}
use lib.ListN.{length-append}
use borrow.Author.Tests.{leb-true, le-leb, eqb-true, eq-eqb}
use Rattle.format.specs.Words.{pick}
use Rattle.format.specs.Book.{start_event, end_event}
use Rattle.format.specs.Items.{Item, Channel, Histogram, HitCount, Sample, Bin, LastCell, TimeBin, Text, StartEvent, ContinueEvent, EndEvent, class_for, words_of, header_bits, key}
use Rattle.format.specs.Rules.{same, since, count, total, gather, channel_key, begun}
use Rattle.format.specs.Frames.{all_words}
use Rattle.format.specs.Steps.{above_all}
use Rattle.format.specs.Tree.{Rising}
use Rattle.format.specs.Questions.{end_size, until}
use Rattle.format.proofs.book.PrefixLaws.{and_left, and_right}
use Rattle.format.proofs.rules.KeyLaws.{key_rises}
use Rattle.format.proofs.rules.SoundLaws.{tally, Seen, opening, starts, continues, ends, other, seen}
use Rattle.format.proofs.reader.StateLaws.{above_leb}
use Rattle.runs.specs.Runs.{Each, events, bytes_of, content}
use Rattle.runs.proofs.joins.Joined.{fits_run, Fits}
use Rattle.runs.proofs.joins.PartLaws.{own_fit}
use Rattle.runs.proofs.cuts.FormLaws.{Within, Turn, a_start, an_end, another, Formed, begun_start, begun_within, outside_next}

-- ---- a Start event begins the rules anew

own_fits : (q p xs : List Item) → 1 ≤ count start_event q → Fits (q ++ p) xs ↔ Fits q xs
unfolding Fits count
own_fits q p [] h = (λ u. u, λ u. u)
own_fits q p (x ∷ xs) h =
    let e = own_fit q p x h in
    let r = own_fits (x ∷ q) p xs (omega arith) in
    (λ u. (sym e ∙ u.0, r.0 u.1), λ u. (e ∙ u.0, r.1 u.1))

-- ---- cut

start_fits : (p : List Item) (x : Item) → same start_event (class_for x) ≡ true → (fits_run p x ≡ true) × (count start_event (x ∷ []) ≡ 1)
unfolding count
start_fits p x e = go (seen x)
  where
    go : Seen x → (fits_run p x ≡ true) × (tally (same start_event (class_for x)) + 0 ≡ 1)
    go (opening (starts t ts n i)) = (ap (fits_run p) i, rw e)
    go (opening (continues n i)) = absurd (true≢false (sym e ∙ rw i))
    go (ends n i) = absurd (true≢false (sym e ∙ rw i))
    go (other h) = absurd (true≢false (sym e ∙ h.no_start))

pub cut : (p xs : List Item) → Fits p xs ↔ (Fits p (until start_event xs) × Each (λ (e : List Item). Fits [] e) (events xs))
unfolding Fits until events Each
cut p [] = (λ u. (tt, tt), λ u. tt)
cut p (x ∷ xs) = go (same start_event (class_for x)) refl (cut (x ∷ p) xs)
  where
    More : Type 0
    More = Fits (x ∷ p) xs ↔ (Fits (x ∷ p) (until start_event xs) × Each (λ (e : List Item). Fits [] e) (events xs))

    go : (b : Bool) → same start_event (class_for x) ≡ b → More
        → ((fits_run p x ≡ true) × Fits (x ∷ p) xs)
        ↔ (Fits p (pick b [] (x ∷ until start_event xs)) × Each (λ (e : List Item). Fits [] e) (pick b ((x ∷ until start_event xs) ∷ events xs) (events xs)))
    go true e r =
        let (f, n) = start_fits p x e in
        let (g, m) = start_fits [] x e in
        let o = own_fits (x ∷ []) p (until start_event xs) (omega arith) in
        (λ u. let (v, w) = r.0 u.1 in (tt, ((g, o.0 v), w)), λ u. (f, r.1 (o.1 u.1.0.1, u.1.1)))
    go false e r = (λ u. let (v, w) = r.0 u.1 in ((u.0, v), w), λ u. (u.0.0, r.1 (u.0.1, u.1)))

-- ---- one event

-- keys are tested as the 14-bit contents are
abbrev Alike : ℕ → ℕ → Type 0
Alike m k = (a b c : ℕ) → b < 4 → c < 128 → (m ≤ key a b c) ↔ (k ≤ header_bits a b c)

alike_next : (a b c : ℕ) → b < 4 → c < 128 → Alike (suc (key a b c)) (suc (header_bits a b c))
alike_next a b c p q d e f r s = key_rises a b c d e f p q r s

-- a Channel header, or an item that the rules over all parts do not look at
data Headed (x : Item) : Type 0 where
  header : (a b c : ℕ) → x ≡ Channel a b c → b < 4 → c < 128 → Headed x
  unheaded : channel_key x ≡ [] → content x ≡ [] → ((p : List Item) → fits_run p x ≡ true) → Headed x

headed : (x : Item) → Within x → Headed x
headed (Channel a b c) h =
    let f = h.fitting in
    let d = leb-true b 3 (and_right (leb a 31) (leb b 3) (and_left (leb a 31 && leb b 3) (leb c 127) f)) in
    let e = leb-true c 127 (and_right (leb a 31 && leb b 3) (leb c 127) f) in
    header a b c refl (omega arith) (omega arith)
headed (Histogram a b c) h = unheaded refl refl (λ p. refl)
headed (HitCount a b c) h = unheaded refl refl (λ p. refl)
headed (Sample v) h = unheaded refl refl (λ p. refl)
headed (Bin b n) h = unheaded refl refl (λ p. refl)
headed (LastCell a b) h = unheaded refl refl (λ p. refl)
headed (TimeBin t) h = unheaded refl refl (λ p. refl)
headed (Text s) h = unheaded refl refl (λ p. refl)
headed (StartEvent t ts n) h = unheaded refl refl (λ p. refl)
headed (ContinueEvent n) h = unheaded refl refl (λ p. refl)
headed (EndEvent n) h = absurd (true≢false h.no_end)

-- every size that is given is n
abbrev pub AllAre : ℕ → List ℕ → Type 0
AllAre n ns = Each (λ (k : ℕ). k ≡ n) ns

end_sized : (q : List Item) (n : ℕ) → begun q ≡ true → fits_run q (EndEvent n) ≡ eqb n (2 * total (since start_event q) + 6)
end_sized q n o = ap (λ (b : Bool). not b || eqb n (2 * total (since start_event q) + 6)) o

end_bytes : (n : ℕ) → bytes_of (EndEvent n ∷ []) ≡ 6
unfolding all_words words_of
end_bytes n = refl

pub since_within : (x : Item) (q : List Item) → Within x → since start_event (x ∷ q) ≡ x ∷ since start_event q
unfolding since
since_within x q h = ap (λ (b : Bool). x ∷ pick b [] (since start_event q)) h.no_start

-- an item more in the event, or in what comes
pub grown_size : (x : Item) (p ys : List Item) {l : List Item} → l ≡ x ∷ p → 2 * total l + bytes_of ys ≡ 2 * total p + bytes_of (x ∷ ys)
unfolding total all_words
grown_size x p ys {l} e = ap (λ (l : List Item). 2 * total l + bytes_of ys) e ∙ omega (arith, length-append (words_of x) (all_words ys))

next_key : (a b c : ℕ) (p : List Item) → above_all (gather channel_key p) ≤ key a b c → above_all (gather channel_key (Channel a b c ∷ p)) ≡ suc (key a b c)
unfolding gather above_all
next_key a b c p l = omega arith

coerce : {A B : Type 0} → A ≡ B → A → B
coerce e a = subst (λ (T : Type 0). T) e a

-- the rest of an open event behind its items q, latest first
pub open_event : (q xs : List Item) (m : ℕ) → begun q ≡ true → Formed true xs → Alike (above_all (gather channel_key (since start_event q))) m
    → Fits q (until start_event xs)
    ↔ (Rising m (gather content (until start_event xs)) × AllAre (2 * total (since start_event q) + bytes_of (until start_event xs)) (gather end_size (until start_event xs)))
unfolding Formed Fits until gather Rising Each
open_event q [] m o f k = (λ u. (tt, tt), λ u. tt)
open_event q (x ∷ xs) m o f k = go f.0 (open_event (x ∷ q) xs)
  where
    ys : List Item
    ys = until start_event xs

    Z : ℕ
    Z = 2 * total (since start_event q)

    Goal : List Item → Type 0
    Goal l = Fits q l ↔ (Rising m (gather content l) × AllAre (Z + bytes_of l) (gather end_size l))

    More : Type 0
    More = (m : ℕ) → begun (x ∷ q) ≡ true → Formed true xs → Alike (above_all (gather channel_key (since start_event (x ∷ q)))) m
        → Fits (x ∷ q) ys ↔ (Rising m (gather content ys) × AllAre (2 * total (since start_event (x ∷ q)) + bytes_of ys) (gather end_size ys))

    -- what the rest is asked, the item counted
    given : {n m : ℕ} → n ≡ m → AllAre n (gather end_size ys) → AllAre m (gather end_size ys)
    given e h = subst (λ (n : ℕ). AllAre n (gather end_size ys)) e h

    counted : Within x → 2 * total (since start_event (x ∷ q)) + bytes_of ys ≡ Z + bytes_of (x ∷ ys)
    counted h = grown_size x (since start_event q) ys (since_within x q h)

    no_size : Within x → (n : ℕ) → AllAre n (end_size x ++ gather end_size ys) ≡ AllAre n (gather end_size ys)
    no_size h n = ap (λ (l : List ℕ). AllAre n (l ++ gather end_size ys)) h.no_size

    ended : (n : ℕ) → Goal (EndEvent n ∷ [])
    ended n =
        let e = end_sized q n o in
        let b = end_bytes n in (
          λ u. (tt, (let g = eqb-true n (Z + 6) (sym e ∙ u.0) in omega arith, tt)),
          λ u. (e ∙ eq-eqb n (Z + 6) (let g = u.1.0 in omega arith), tt),
        )

    plain : Within x → Formed true xs → Headed x → More → Goal (x ∷ ys)
    plain h g (header a b c i d e) r =
        let t : fits_run q x ≡ leb (above_all (gather channel_key (since start_event q))) (key a b c) =
        ap (fits_run q) i ∙ above_leb (key a b c) (gather channel_key (since start_event q)) in
        let s : (above_all (gather channel_key (since start_event q)) ≤ key a b c) → above_all (gather channel_key (since start_event (x ∷ q))) ≡ suc (key a b c) =
        λ l. ap (λ (p : List Item). above_all (gather channel_key p)) (since_within x q h) ∙ ap (λ (y : Item). above_all (gather channel_key (y ∷ since start_event q))) i
        ∙ next_key a b c (since start_event q) l in
        let v : (above_all (gather channel_key (since start_event q)) ≤ key a b c) → Fits (x ∷ q) ys ↔ (Rising (suc (header_bits a b c)) (gather content ys) × AllAre (2 * total (since start_event (x ∷ q)) + bytes_of ys) (gather end_size ys)) =
        λ l. r (suc (header_bits a b c)) (begun_within x q h ∙ o) g (subst (λ (n : ℕ). Alike n (suc (header_bits a b c))) (sym (s l)) (alike_next a b c d e)) in
        let j : content x ≡ header_bits a b c ∷ [] = ap content i in (
          λ u. let l = leb-true _ (key a b c) (sym t ∙ u.0) in
              let (y, z) = (v l).0 u.1 in (
                subst (λ (c : List ℕ). Rising m (c ++ gather content ys)) (sym j) ((k a b c d e).0 l, y),
                coerce (sym (no_size h _)) (given (counted h) z),
              ),
          λ u. let (f, y) = subst (λ (c : List ℕ). Rising m (c ++ gather content ys)) j u.0 in
              let l = (k a b c d e).1 f in
              (t ∙ le-leb _ (key a b c) l, (v l).1 (y, given (sym (counted h)) (coerce (no_size h _) u.1))),
        )
    plain h g (unheaded i j p) r =
        let s : above_all (gather channel_key (since start_event (x ∷ q))) ≡ above_all (gather channel_key (since start_event q)) =
        ap (λ (p : List Item). above_all (gather channel_key p)) (since_within x q h) ∙ ap (λ (l : List ℕ). above_all (l ++ gather channel_key (since start_event q))) i in
        let v = r m (begun_within x q h ∙ o) g (subst (λ (n : ℕ). Alike n m) (sym s) k) in (
          λ u. let (y, z) = v.0 u.1 in (
            subst (λ (c : List ℕ). Rising m (c ++ gather content ys)) (sym j) y,
            coerce (sym (no_size h _)) (given (counted h) z),
          ),
          λ u. (p q, v.1 (subst (λ (c : List ℕ). Rising m (c ++ gather content ys)) j u.0, given (sym (counted h)) (coerce (no_size h _) u.1))),
        )

    go : Turn true x → More → Goal (pick (same start_event (class_for x)) [] (x ∷ ys))
    go (a_start t ts n i e) r = absurd (true≢false e)
    go (an_end n i l e) r =
        let g : Formed false xs = subst (λ (y : Item). Formed (not (same end_event (class_for y))) xs) i f.1 in
        let w : EndEvent n ∷ [] ≡ pick (same start_event (class_for x)) [] (x ∷ ys) =
        sym (ap₂ (λ (y : Item) (l : List Item). pick (same start_event (class_for y)) [] (y ∷ l)) i (outside_next xs g)) in
        subst Goal w (ended n)
    go (another h e) r =
        let g : Formed true xs = subst (λ (b : Bool). Formed (not b) xs) h.no_end f.1 in
        subst Goal (sym (ap (λ (b : Bool). pick b [] (x ∷ ys)) h.no_start)) (plain h g (headed x h) r)

-- ---- all events

-- what is left of `Lawful` where sizes are not bounded
abbrev pub Ruled : List Item → Type 0
Ruled e = Rising 0 (gather content e) × AllAre (bytes_of e) (gather end_size e)

pub since_start : (t ts n : ℕ) (p : List Item) → since start_event (StartEvent t ts n ∷ p) ≡ StartEvent t ts n ∷ []
unfolding since
since_start t ts n p = refl

pub start_bytes : (t ts n : ℕ) (p ys : List Item) → 2 * total (since start_event (StartEvent t ts n ∷ p)) + bytes_of ys ≡ bytes_of (StartEvent t ts n ∷ ys)
unfolding since total all_words words_of
start_bytes t ts n p ys = omega arith

start_keys : (t ts n : ℕ) → above_all (gather channel_key (since start_event (StartEvent t ts n ∷ []))) ≡ 0
unfolding since gather above_all
start_keys t ts n = refl

pub gather_start : (t ts n : ℕ) (ys : List Item) → gather end_size (StartEvent t ts n ∷ ys) ≡ gather end_size ys
unfolding gather
gather_start t ts n ys = refl

one_event : (t ts n : ℕ) (xs : List Item) → Formed true xs → Fits [] (StartEvent t ts n ∷ until start_event xs) ↔ Ruled (StartEvent t ts n ∷ until start_event xs)
unfolding Fits gather
one_event t ts n xs f =
    let s = StartEvent t ts n in
    let z : above_all (gather channel_key (since start_event (s ∷ []))) ≡ 0 = start_keys t ts n in
    let k : Alike (above_all (gather channel_key (since start_event (s ∷ [])))) 0 = λ a b c p q. (λ u. omega arith, λ u. omega arith) in
    let r = open_event (s ∷ []) xs 0 (begun_start t ts n []) f k in
    let e = start_bytes t ts n [] (until start_event xs) in (
      λ u. let (y, w) = r.0 u.1 in (y, subst (λ (n : ℕ). AllAre n (gather end_size (until start_event xs))) e w),
      λ u. (refl, r.1 (u.0, subst (λ (n : ℕ). AllAre n (gather end_size (until start_event xs))) (sym e) u.1)),
    )

-- a list of items as it is cut: at a Start event, and at any other item
pub events_start : (t ts n : ℕ) (xs : List Item) → events (StartEvent t ts n ∷ xs) ≡ (StartEvent t ts n ∷ until start_event xs) ∷ events xs
unfolding events
events_start t ts n xs = refl

pub events_other : (x : Item) (xs : List Item) → same start_event (class_for x) ≡ false → events (x ∷ xs) ≡ events xs
unfolding events
events_other x xs e = rw e

-- by cases on the items of a run, a law of each of its events
module _ (P : List Item → Type 0) where
  each_formed : ((t ts n : ℕ) (xs : List Item) → Formed true xs → P (StartEvent t ts n ∷ until start_event xs)) → (o : Bool) (xs : List Item) → Formed o xs → Each P (events xs)
  unfolding Formed Each events
  each_formed h o [] f = tt
  each_formed h o (x ∷ xs) f = go f.0 (each_formed h (not (same end_event (class_for x))) xs f.1)
    where
      go : Turn o x → Each P (events xs) → Each P (events (x ∷ xs))
      go (a_start t ts n i e) r =
          let g : Formed true xs = subst (λ (y : Item). Formed (not (same end_event (class_for y))) xs) i f.1 in
          subst (Each P) (sym (ap (λ (y : Item). events (y ∷ xs)) i ∙ events_start t ts n xs)) (h t ts n xs g, r)
      go (an_end n i l e) r = subst (Each P) (sym (events_other x xs (rw i))) r
      go (another g e) r = subst (Each P) (sym (events_other x xs g.no_start)) r

each_both : {A : Type 0} (P Q : A → Type 0) (l : List A) → Each (λ a. P a → Q a) l → Each P l → Each Q l
unfolding Each
each_both P Q [] h e = tt
each_both P Q (a ∷ l) h e = (h.0 e.0, each_both P Q l h.1 e.1)

pub ruled : (o : Bool) (xs : List Item) → Formed o xs → Each (λ (e : List Item). Fits [] e) (events xs) ↔ Each Ruled (events xs)
ruled o xs f = (
  each_both _ _ (events xs) (each_formed (λ (e : List Item). Fits [] e → Ruled e) (λ t ts n ys g. (one_event t ts n ys g).0) o xs f),
  each_both _ _ (events xs) (each_formed (λ (e : List Item). Ruled e → Fits [] e) (λ t ts n ys g. (one_event t ts n ys g).1) o xs f),
)
