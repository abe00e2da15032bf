-- The marks of a frame's leading part: the word of its End event, and its first Channel header, from which on its headers rise.
-- Assumes nothing.
use Prim.Native.Nat.{ℕ, suc, ◌+◌, max, ◌<◌, ◌≤◌}
use mathlib.Core.Path.{◌≡◌, refl, sym, ap, ap₂, subst, ◌∙◌}
use mathlib.Core.List.{List, [], ◌∷◌, ◌++◌}
use mathlib.Core.Bool.{Bool, true, false, not, ◌&&◌, ◌||◌, true≢false}
use mathlib.Core.Option.{Option, none, some}
use native.Mathlib.Omega.{arith}
use lib.Dec.{leb, ltb, eqb}
use lib.ListN.{length, length-append}
use borrow.Author.Tests.{leb-true, leb-false, le-leb, lt-leb, eqb-true, ne_eqb, lt-ltb, le-ltb}
use Rattle.format.specs.Words.{pick}
use Rattle.format.specs.Book.{channel, start_event, end_event}
use Rattle.format.specs.Items.{Item, Channel, StartEvent, EndEvent, class_for, words_of, key}
use Rattle.format.specs.Rules.{data_kind, same, since, count, total, gather, channel_key, above, in_event, begun, order}
use Rattle.format.specs.Frames.{earlier_then, Sound, all_words}
use Rattle.format.specs.Steps.{above_all, first_after, lead_after}
use Rattle.format.specs.Questions.{end_size, head_of, until}
use Rattle.format.proofs.rules.SoundLaws.{tally, Plain, starts, open_nil, open_opening, open_end, open_other}
use Rattle.format.proofs.reader.StateLaws.{above_leb}
use Rattle.format.proofs.questions.ItemQuestions.{no_some}
use Rattle.runs.specs.Assembly.{continued, from}
use Rattle.runs.specs.Marked.{rises_by}
use Rattle.runs.proofs.joins.ListLaws.{since_all, begun_none}
use Rattle.runs.proofs.joins.PartLaws.{Next, a_start, a_continue, an_end, another, next, not_empty, Headed, header, unheaded, headed}
use Rattle.runs.proofs.cuts.FormLaws.{begun_start, begun_end}

-- ---- in events that began in the frame no mark is set

begun_plain : (x : Item) (q : List Item) → Plain x → begun (x ∷ q) ≡ begun q
unfolding count
begun_plain x q d =
    let a : tally (same start_event (class_for x)) ≡ 0 = rw d.no_start in
    let b : tally (same end_event (class_for x)) ≡ 0 = rw d.no_end in
    begun_none (x ∷ []) q (omega arith) (omega arith)

none_set : (b : Bool) (m n : ℕ) → pick (b && false) m n ≡ n
none_set true m n = refl
none_set false m n = refl

no_first : (x : Item) (q : List Item) → begun q ≡ true → first_after (x ∷ q) ≡ first_after q
unfolding first_after
no_first x q b =
    ap (λ (t : Bool). pick (same channel (class_for x) && not t && eqb (first_after q) 0) (above_all (channel_key x)) (first_after q)) b
    ∙ go (same channel (class_for x)) (eqb (first_after q) 0)
  where
    go : (a c : Bool) → pick (a && false && c) (above_all (channel_key x)) (first_after q) ≡ first_after q
    go true c = refl
    go false c = refl

no_lead : (x : Item) (q : List Item) → begun q ≡ true → lead_after (x ∷ q) ≡ lead_after q
unfolding lead_after
no_lead x q b =
    ap (λ (t : Bool). pick (same end_event (class_for x) && not t) (3 + total q) (lead_after q)) b ∙ none_set (same end_event (class_for x)) (3 + total q) (lead_after q)

start_first : (t ts n : ℕ) (q : List Item) → first_after (StartEvent t ts n ∷ q) ≡ first_after q
unfolding first_after
start_first t ts n q = refl

start_lead : (t ts n : ℕ) (q : List Item) → lead_after (StartEvent t ts n ∷ q) ≡ lead_after q
unfolding lead_after
start_lead t ts n q = refl

module _ (card : ℕ) where
  own_marks : (q xs : List Item) → in_event q ≡ begun q → (q ≡ [] → continued xs ≡ none) → Sound data_kind card q xs
      → (first_after (earlier_then q xs) ≡ first_after q) × (lead_after (earlier_then q xs) ≡ lead_after q)
  unfolding Sound earlier_then
  own_marks q [] o c s = (refl, refl)
  own_marks q (x ∷ xs) o c s = go (next card q x s.0) (λ e. own_marks (x ∷ q) xs e (λ z. not_empty x q z) s.1)
    where
      More : Type 0
      More = in_event (x ∷ q) ≡ begun (x ∷ q) → (first_after (earlier_then (x ∷ q) xs) ≡ first_after (x ∷ q)) × (lead_after (earlier_then (x ∷ q) xs) ≡ lead_after (x ∷ q))

      Goal : Type 0
      Goal = (first_after (earlier_then (x ∷ q) xs) ≡ first_after q) × (lead_after (earlier_then (x ∷ q) xs) ≡ lead_after q)

      inside : begun q ≡ true → in_event (x ∷ q) ≡ begun (x ∷ q) → More → Goal
      inside b e r = let (f, l) = r e in (f ∙ no_first x q b, l ∙ no_lead x q b)

      go : Next q x → More → Goal
      go (a_start t ts n i e) r =
          let w = open_opening x q (starts t ts n i) ∙ sym (ap (λ (y : Item). begun (y ∷ q)) i ∙ begun_start t ts n q) in
          let (f, l) = r w in
          (f ∙ ap (λ (y : Item). first_after (y ∷ q)) i ∙ start_first t ts n q, l ∙ ap (λ (y : Item). lead_after (y ∷ q)) i ∙ start_lead t ts n q)
      go (a_continue n i e) r = no_some n (sym (c e) ∙ ap (λ (y : Item). continued (y ∷ xs)) i)
      go (an_end n i e) r =
          inside (sym o ∙ e) (ap (λ (y : Item). in_event (y ∷ q)) i ∙ open_end n q ∙ sym (ap (λ (y : Item). begun (y ∷ q)) i ∙ begun_end n q)) r
      go (another d e) r = inside (sym o ∙ e) (open_other x q d ∙ o ∙ sym (begun_plain x q d)) r

-- ---- the leading part

-- behind its items q, latest first: it goes on
pub record Leads (q : List Item) : Type 0 where
  pub no_start : count start_event q ≡ 0
  pub no_end : count end_event q ≡ 0
  pub inside : in_event q ≡ true

not_begun : (q : List Item) → Leads q → begun q ≡ false
unfolding count since
not_begun q l = ap (λ (p : List Item). leb 1 (count start_event p)) (since_all end_event q l.no_end) ∙ lt-leb 1 (count start_event q) (omega (arith, l.no_start))

leads_on : (x : Item) (q : List Item) → Plain x → Leads q → Leads (x ∷ q)
unfolding count
leads_on x q d l =
    let a : tally (same start_event (class_for x)) ≡ 0 = rw d.no_start in
    let b : tally (same end_event (class_for x)) ≡ 0 = rw d.no_end in
    record { no_start = omega (arith, l.no_start); no_end = omega (arith, l.no_end); inside = open_other x q d ∙ l.inside }

-- an item of it
data LeadNext (x : Item) : Type 0 where
  ends_it : (n : ℕ) → x ≡ EndEvent n → LeadNext x
  stays : Plain x → LeadNext x

lead_next : (card : ℕ) (q : List Item) (x : Item) → Leads q → Next q x → LeadNext x
lead_next card q x l (a_start t ts n i e) = absurd (true≢false (sym l.inside ∙ e))
lead_next card q x l (a_continue n i e) = absurd (true≢false (sym l.inside ∙ ap (λ (p : List Item). in_event p) e ∙ open_nil))
lead_next card q x l (an_end n i e) = ends_it n i
lead_next card q x l (another d e) = stays d

-- the word of its End event
abbrev pub lead_of : ℕ → List Item → Option ℕ → ℕ
lead_of at xs none = 0
lead_of at xs (some z) = at + length (all_words (until end_event xs))

end_lead : (n : ℕ) (q : List Item) → begun q ≡ false → lead_after (EndEvent n ∷ q) ≡ 3 + total q
unfolding lead_after
end_lead n q b = ap (λ (t : Bool). pick (not t) (3 + total q) (lead_after q)) b

plain_lead : (x : Item) (q : List Item) → Plain x → lead_after (x ∷ q) ≡ lead_after q
unfolding lead_after
plain_lead x q d = ap (λ (t : Bool). pick (t && not (begun q)) (3 + total q) (lead_after q)) d.no_end

ended_own : (n : ℕ) (q : List Item) → in_event (EndEvent n ∷ q) ≡ begun (EndEvent n ∷ q)
ended_own n q = open_end n q ∙ sym (begun_end n q)

module _ (card : ℕ) where
  pub lead_from : (q xs : List Item) → Leads q → lead_after q ≡ 0 → Sound data_kind card q xs
      → lead_after (earlier_then q xs) ≡ lead_of (3 + total q) xs (head_of (gather end_size xs))
  unfolding Sound earlier_then gather until all_words total
  lead_from q [] l z s = z
  lead_from q (x ∷ xs) l z s = go (lead_next card q x l (next card q x s.0)) (lead_from (x ∷ q) xs)
    where
      More : Type 0
      More = Leads (x ∷ q) → lead_after (x ∷ q) ≡ 0 → Sound data_kind card (x ∷ q) xs → lead_after (earlier_then (x ∷ q) xs) ≡ lead_of (3 + (length (words_of x) + total q)) xs (head_of (gather end_size xs))

      Goal : Item → Type 0
      Goal y = lead_after (earlier_then (y ∷ q) xs) ≡ lead_of (3 + total q) (y ∷ xs) (head_of (end_size y ++ gather end_size xs))

      shifted : Plain x → (o : Option ℕ) → lead_of (3 + (length (words_of x) + total q)) xs o ≡ lead_of (3 + total q) (x ∷ xs) o
      shifted d none = refl
      shifted d (some m) =
          let w : length (all_words (pick (same end_event (class_for x)) [] (x ∷ until end_event xs))) ≡ length (words_of x ++ all_words (until end_event xs)) =
          ap (λ (t : Bool). length (all_words (pick t [] (x ∷ until end_event xs)))) d.no_end in
          omega (arith, length-append (words_of x) (all_words (until end_event xs)))

      go : LeadNext x → More → Goal x
      go (ends_it n i) r =
          let t : Sound data_kind card (EndEvent n ∷ q) xs = subst (λ (y : Item). Sound data_kind card (y ∷ q) xs) i s.1 in
          let g : Goal (EndEvent n) = (own_marks card (EndEvent n ∷ q) xs (ended_own n q) (λ e. not_empty (EndEvent n) q e) t).1 ∙ end_lead n q (not_begun q l) ∙ omega arith in
          subst Goal (sym i) g
      go (stays d) r =
          r (leads_on x q d l) (plain_lead x q d ∙ z) s.1 ∙ shifted d (head_of (gather end_size xs))
          ∙ ap (λ (n : List ℕ). lead_of (3 + total q) (x ∷ xs) (head_of (n ++ gather end_size xs))) (sym d.no_size)

-- ---- its first Channel header

-- one more than the first of some numbers, 0 where there is none
abbrev pub one_more : List ℕ → ℕ
one_more [] = 0
one_more (k ∷ ks) = suc k

channel_first : (a b c : ℕ) (q : List Item) → begun q ≡ false → first_after (Channel a b c ∷ q) ≡ pick (eqb (first_after q) 0) (suc (key a b c)) (first_after q)
unfolding first_after above_all
channel_first a b c q n = ap (λ (t : Bool). pick (not t && eqb (first_after q) 0) (max (suc (key a b c)) 0) (first_after q)) n ∙ ap (λ (m : ℕ). pick (eqb (first_after q) 0) m (first_after q)) (most (suc (key a b c)))
  where
    most : (n : ℕ) → max n 0 ≡ n
    most n = omega arith

other_first : (x : Item) (q : List Item) → same channel (class_for x) ≡ false → first_after (x ∷ q) ≡ first_after q
unfolding first_after
other_first x q n = ap (λ (t : Bool). pick (t && not (begun q) && eqb (first_after q) 0) (above_all (channel_key x)) (first_after q)) n

kept : (f : ℕ) → f ≡ pick (eqb f 0) 0 f
kept f = go (eqb f 0) refl
  where
    go : (b : Bool) → eqb f 0 ≡ b → f ≡ pick b 0 f
    go true e = eqb-true f 0 e
    go false e = refl

not_zero : (n : ℕ) → eqb (suc n) 0 ≡ false
not_zero n = ne_eqb (suc n) 0 (λ e. omega arith)

rises_suc : (k n : ℕ) → rises_by k (suc n) ≡ ltb k (suc n)
rises_suc k n = ap (λ (t : Bool). t || ltb k (suc n)) (not_zero n)

-- once noted it stays
noted : (f k m : ℕ) → pick (eqb (pick (eqb f 0) (suc k) f) 0) m (pick (eqb f 0) (suc k) f) ≡ pick (eqb f 0) (suc k) f
noted f k m = go (eqb f 0) refl
  where
    go : (b : Bool) → eqb f 0 ≡ b → pick (eqb (pick b (suc k) f) 0) m (pick b (suc k) f) ≡ pick b (suc k) f
    go true e = ap (λ (t : Bool). pick t m (suc k)) (not_zero k)
    go false e = ap (λ (t : Bool). pick t m f) e

module _ (card : ℕ) where
  pub first_from : (q xs : List Item) → Leads q → Sound data_kind card q xs
      → first_after (earlier_then q xs) ≡ pick (eqb (first_after q) 0) (one_more (gather channel_key (until end_event xs))) (first_after q)
  unfolding Sound earlier_then gather until
  first_from q [] l s = kept (first_after q)
  first_from q (x ∷ xs) l s = go (lead_next card q x l (next card q x s.0)) (first_from (x ∷ q) xs)
    where
      U : List Item
      U = until end_event xs

      More : Type 0
      More = Leads (x ∷ q) → Sound data_kind card (x ∷ q) xs → first_after (earlier_then (x ∷ q) xs) ≡ pick (eqb (first_after (x ∷ q)) 0) (one_more (gather channel_key U)) (first_after (x ∷ q))

      Goal : Item → List Item → Type 0
      Goal y u = first_after (earlier_then (y ∷ q) xs) ≡ pick (eqb (first_after q) 0) (one_more (gather channel_key u)) (first_after q)

      plain : Plain x → Headed x → More → Goal x (x ∷ U)
      plain d (header a b c i) r =
          let e : first_after (x ∷ q) ≡ pick (eqb (first_after q) 0) (suc (key a b c)) (first_after q) =
          ap (λ (y : Item). first_after (y ∷ q)) i ∙ channel_first a b c q (not_begun q l) in
          r (leads_on x q d l) s.1 ∙ ap (λ (f : ℕ). pick (eqb f 0) (one_more (gather channel_key U)) f) e
          ∙ noted (first_after q) (key a b c) (one_more (gather channel_key U))
          ∙ sym (ap (λ (y : Item). pick (eqb (first_after q) 0) (one_more (channel_key y ++ gather channel_key U)) (first_after q)) i)
      plain d (unheaded k n f) r =
          r (leads_on x q d l) s.1 ∙ ap (λ (f : ℕ). pick (eqb f 0) (one_more (gather channel_key U)) f) (other_first x q n)
          ∙ sym (ap (λ (m : List ℕ). pick (eqb (first_after q) 0) (one_more (m ++ gather channel_key U)) (first_after q)) k)

      go : LeadNext x → More → Goal x (pick (same end_event (class_for x)) [] (x ∷ U))
      go (ends_it n i) r =
          let t : Sound data_kind card (EndEvent n ∷ q) xs = subst (λ (y : Item). Sound data_kind card (y ∷ q) xs) i s.1 in
          let g : Goal (EndEvent n) [] =
          (own_marks card (EndEvent n ∷ q) xs (ended_own n q) (λ e. not_empty (EndEvent n) q e) t).0 ∙ other_first (EndEvent n) q refl ∙ kept (first_after q) in
          subst (λ (y : Item). Goal y (pick (same end_event (class_for y)) [] (y ∷ U))) (sym i) g
      go (stays d) r = subst (Goal x) (sym (ap (λ (b : Bool). pick b [] (x ∷ U)) d.no_end)) (plain d (headed x d) r)

  -- ---- its headers rise

  all_keys : (q : List Item) (a b c : ℕ) → Leads q → order q (Channel a b c) ≡ true → above_all (gather channel_key q) ≤ key a b c
  all_keys q a b c l o =
      leb-true (above_all (gather channel_key q)) (key a b c)
      (sym (above_leb (key a b c) (gather channel_key q)) ∙ ap (λ (p : List Item). above (key a b c) (gather channel_key p)) (sym (since_all start_event q l.no_start)) ∙ o)

  -- behind a header that is not below k none is
  rest_from : (k : ℕ) (q xs : List Item) → Leads q → k < above_all (gather channel_key q) → Sound data_kind card q xs → from k (gather channel_key (until end_event xs)) ≡ true
  unfolding Sound gather until from above_all
  rest_from k q [] l h s = refl
  rest_from k q (x ∷ xs) l h s = go (lead_next card q x l (next card q x s.0)) (rest_from k (x ∷ q) xs)
    where
      U : List Item
      U = until end_event xs

      More : Type 0
      More = Leads (x ∷ q) → k < above_all (channel_key x ++ gather channel_key q) → Sound data_kind card (x ∷ q) xs → from k (gather channel_key U) ≡ true

      plain : Plain x → Headed x → More → from k (channel_key x ++ gather channel_key U) ≡ true
      plain d (header a b c i) r =
          let m = all_keys q a b c l (ap (order q) (sym i) ∙ s.0.ordered) in
          let e : above_all (channel_key x ++ gather channel_key q) ≡ max (suc (key a b c)) (above_all (gather channel_key q)) =
          ap (λ (y : Item). above_all (channel_key y ++ gather channel_key q)) i in
          ap (λ (y : Item). from k (channel_key y ++ gather channel_key U)) i
          ∙ ap₂ ◌&&◌ (le-leb k (key a b c) (omega arith)) (r (leads_on x q d l) (omega arith) s.1)
      plain d (unheaded e n f) r =
          let w : above_all (channel_key x ++ gather channel_key q) ≡ above_all (gather channel_key q) = ap (λ (m : List ℕ). above_all (m ++ gather channel_key q)) e in
          ap (λ (m : List ℕ). from k (m ++ gather channel_key U)) e ∙ r (leads_on x q d l) (omega arith) s.1

      go : LeadNext x → More → from k (gather channel_key (pick (same end_event (class_for x)) [] (x ∷ U))) ≡ true
      go (ends_it n i) r = ap (λ (y : Item). from k (gather channel_key (pick (same end_event (class_for y)) [] (y ∷ U)))) i
      go (stays d) r = ap (λ (b : Bool). from k (gather channel_key (pick b [] (x ∷ U)))) d.no_end ∙ plain d (headed x d) r

  -- so that the first tells of all
  pub first_rises : (k : ℕ) (q xs : List Item) → Leads q → gather channel_key q ≡ [] → Sound data_kind card q xs
      → from k (gather channel_key (until end_event xs)) ≡ rises_by k (one_more (gather channel_key (until end_event xs)))
  unfolding Sound gather until from above_all
  first_rises k q [] l h s = refl
  first_rises k q (x ∷ xs) l h s = go (lead_next card q x l (next card q x s.0)) (first_rises k (x ∷ q) xs)
    where
      U : List Item
      U = until end_event xs

      More : Type 0
      More = Leads (x ∷ q) → channel_key x ++ gather channel_key q ≡ [] → Sound data_kind card (x ∷ q) xs → from k (gather channel_key U) ≡ rises_by k (one_more (gather channel_key U))

      Goal : List ℕ → Type 0
      Goal ks = from k ks ≡ rises_by k (one_more ks)

      head : (a b c : ℕ) → x ≡ Channel a b c → Plain x → (t : Bool) → leb k (key a b c) ≡ t → Goal (key a b c ∷ gather channel_key U)
      head a b c i d true t =
          let e : above_all (channel_key x ++ gather channel_key q) ≡ suc (key a b c) =
          ap₂ (λ (y : Item) (m : List ℕ). above_all (channel_key y ++ m)) i h ∙ omega arith in
          let j = leb-true k (key a b c) t in
          let r = rest_from k (x ∷ q) xs (leads_on x q d l) (key_there e) s.1 in
          ap₂ ◌&&◌ t r ∙ sym (rises_suc k (key a b c) ∙ lt-ltb k (suc (key a b c)) (omega arith))
        where
          key_there : above_all (channel_key x ++ gather channel_key q) ≡ suc (key a b c) → k < above_all (gather channel_key (x ∷ q))
          key_there e = let j = leb-true k (key a b c) t in omega arith
      head a b c i d false t =
          let j = leb-false k (key a b c) t in
          ap (λ (b : Bool). b && from k (gather channel_key U)) t ∙ sym (rises_suc k (key a b c) ∙ le-ltb k (suc (key a b c)) (omega arith))

      plain : Plain x → Headed x → More → Goal (channel_key x ++ gather channel_key U)
      plain d (header a b c i) r = subst Goal (sym (ap (λ (y : Item). channel_key y ++ gather channel_key U) i)) (head a b c i d (leb k (key a b c)) refl)
      plain d (unheaded e n f) r =
          subst Goal (sym (ap (λ (m : List ℕ). m ++ gather channel_key U) e)) (r (leads_on x q d l) (ap (λ (m : List ℕ). m ++ gather channel_key q) e ∙ h) s.1)

      go : LeadNext x → More → Goal (gather channel_key (pick (same end_event (class_for x)) [] (x ∷ U)))
      go (ends_it n i) r = subst Goal (sym (ap (λ (y : Item). gather channel_key (pick (same end_event (class_for y)) [] (y ∷ U))) i)) refl
      go (stays d) r = subst Goal (sym (ap (λ (b : Bool). gather channel_key (pick b [] (x ∷ U))) d.no_end)) (plain d (headed x d) r)
