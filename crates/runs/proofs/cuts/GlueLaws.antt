-- A run frame by frame, its items joined one by one, is a run as its definition has it: the items of all frames glued, and cut at each Start event.
-- Assumes nothing.
use Prim.Native.Nat.{ℕ, ◌^◌, ◌<◌}
use mathlib.Core.Path.{◌≡◌, refl, sym, ap, subst, ◌∙◌}
use mathlib.Core.List.{List, [], ◌∷◌, ◌++◌, append_assoc, append-nil}
use mathlib.Core.Bool.{Bool, true, false, not, true≢false}
use mathlib.Core.Logic.{◌↔◌}
use mathlib.Core.Option.{Option, none, some}
use native.Mathlib.Omega.{arith}
use lib.Dec.{ltb}
use borrow.Author.Tests.{ltb-true}
use Rattle.follower.specs.Follow as follower
use Rattle.format.specs.Book.{start_event, end_event}
use Rattle.format.specs.Items.{Item, StartEvent, ContinueEvent, class_for, fits}
use Rattle.format.specs.Rules.{Kind, data_kind, same, count, gather, head_or_zero, in_event, begun}
use Rattle.format.specs.Frames.{Frame, earlier_then, Sound, Legal}
use Rattle.format.specs.Questions.{end_size}
use Rattle.format.proofs.rules.SoundLaws.{tally, Seen, opening, starts, continues, ends, other, seen, open_nil, open_opening, open_end, open_other, behind_append, sound_head, sound_tail}
use Rattle.format.proofs.questions.ItemQuestions.{no_some}
use Rattle.format.proofs.verdict.Acceptance.{in_order}
use Rattle.format.proofs.verdict.WalkLaws.{allowed_fits}
use Rattle.runs.specs.Assembly.{continued, start_number}
use Rattle.runs.specs.Runs.{Each, events, bytes_of, EndsInside, BeginsWith, Linked, Members, glued, RunOf}
use Rattle.runs.proofs.joins.Joined.{Fits, Run}
use Rattle.runs.proofs.joins.ListLaws.{behind_front, gather_append, begun_none, begun_count}
use Rattle.runs.proofs.joins.PartLaws.{Next, a_start, a_continue, an_end, another, next, not_empty}
use Rattle.runs.proofs.joins.BeginLaws.{count_behind, continued_is, no_numbers}
use Rattle.runs.proofs.cuts.FormLaws as form
use Rattle.runs.proofs.cuts.CutLaws as law

-- ---- an event that is open at the end of some items

-- the same, latest first
record OpenIn (p : List Item) (n : ℕ) : Type 0 where
  later : List Item
  kind : ℕ
  timestamp : ℕ
  earlier : List Item
  are : p ≡ later ++ (StartEvent kind timestamp n ∷ earlier)
  no_start : count start_event later ≡ 0
  no_end : count end_event later ≡ 0

further : (x : Item) (p : List Item) (n : ℕ) → same start_event (class_for x) ≡ false → same end_event (class_for x) ≡ false → OpenIn p n → OpenIn (x ∷ p) n
unfolding count
further x p n s e o =
    let a : tally (same start_event (class_for x)) ≡ 0 = rw s in
    let c : tally (same end_event (class_for x)) ≡ 0 = rw e in
    record {
      later = x ∷ o.later;
      kind = o.kind;
      timestamp = o.timestamp;
      earlier = o.earlier;
      are = ap (λ (l : List Item). x ∷ l) o.are;
      no_start = omega (arith, o.no_start);
      no_end = omega (arith, o.no_end);
    }

no_number : (x : Item) → same start_event (class_for x) ≡ false → start_number x ≡ []
unfolding gather count
no_number x s =
    let a : tally (same start_event (class_for x)) ≡ 0 = rw s in
    sym (append-nil (start_number x)) ∙ no_numbers (x ∷ []) (omega arith)

began : (p : List Item) → begun p ≡ true → OpenIn p (head_or_zero (gather start_number p))
unfolding gather count
began [] b = absurd (true≢false (sym b ∙ form.begun_nil))
began (x ∷ p) b = go (seen x) (began p)
  where
    more : same start_event (class_for x) ≡ false → same end_event (class_for x) ≡ false → (begun p ≡ true → OpenIn p (head_or_zero (gather start_number p)))
        → OpenIn (x ∷ p) (head_or_zero (start_number x ++ gather start_number p))
    more s e h =
        let a : tally (same start_event (class_for x)) ≡ 0 = rw s in
        let c : tally (same end_event (class_for x)) ≡ 0 = rw e in
        let n : head_or_zero (start_number x ++ gather start_number p) ≡ head_or_zero (gather start_number p) =
        ap (λ (l : List ℕ). head_or_zero (l ++ gather start_number p)) (no_number x s) in
        subst (OpenIn (x ∷ p)) (sym n) (further x p _ s e (h (sym (begun_none (x ∷ []) p (omega arith) (omega arith)) ∙ b)))

    go : Seen x → (begun p ≡ true → OpenIn p (head_or_zero (gather start_number p))) → OpenIn (x ∷ p) (head_or_zero (start_number x ++ gather start_number p))
    go (opening (starts t ts n i)) h =
        subst (OpenIn (x ∷ p)) (sym (ap (λ (y : Item). head_or_zero (start_number y ++ gather start_number p)) i))
        (record { later = []; kind = t; timestamp = ts; earlier = p; are = ap (λ (y : Item). y ∷ p) i; no_start = refl; no_end = refl })
    go (opening (continues n i)) h = more (rw i) (rw i) h
    go (ends n i) h = absurd (true≢false (sym b ∙ ap (λ (y : Item). begun (y ∷ p)) i ∙ form.begun_end n p))
    go (other d) h = more d.no_start d.no_end h

pub turned_round : (before inside : List Item) (x : Item) → earlier_then [] (before ++ (x ∷ inside)) ≡ earlier_then [] inside ++ (x ∷ earlier_then [] before)
unfolding earlier_then
turned_round before inside x = behind_append [] before (x ∷ inside) ∙ behind_front (x ∷ earlier_then [] before) inside

pub inside_begun : (xs : List Item) (n : ℕ) → EndsInside xs n → (begun (earlier_then [] xs) ≡ true) × (head_or_zero (gather start_number (earlier_then [] xs)) ≡ n)
unfolding gather count
inside_begun xs n h =
    let q = earlier_then [] h.inside in
    let x = StartEvent h.kind h.timestamp n in
    let p = earlier_then [] h.before in
    let e : earlier_then [] xs ≡ q ++ (x ∷ p) = ap (earlier_then []) h.are ∙ turned_round h.before h.inside x in
    let s : count start_event q ≡ 0 = omega (arith, count_behind start_event [] h.inside, h.no_start) in
    let t : count end_event q ≡ 0 = omega (arith, count_behind end_event [] h.inside, h.no_end) in (
      ap (λ (l : List Item). begun l) e ∙ begun_none q (x ∷ p) s t ∙ form.begun_start h.kind h.timestamp n p,
      ap (λ (l : List Item). head_or_zero (gather start_number l)) e ∙ ap (λ (l : List ℕ). head_or_zero l) (gather_append start_number q (x ∷ p))
          ∙ ap (λ (l : List ℕ). head_or_zero (l ++ gather start_number (x ∷ p))) (no_numbers q s),
    )

pub begun_inside : (xs : List Item) → begun (earlier_then [] xs) ≡ true → EndsInside xs (head_or_zero (gather start_number (earlier_then [] xs)))
unfolding count
begun_inside xs b =
    let o = began (earlier_then [] xs) b in
    record {
      before = earlier_then [] o.earlier;
      kind = o.kind;
      timestamp = o.timestamp;
      inside = earlier_then [] o.later;
      are = sym (in_order xs) ∙ ap (earlier_then []) o.are ∙ turned_round o.later o.earlier _;
      no_start = omega (arith, count_behind start_event [] o.later, o.no_start);
      no_end = omega (arith, count_behind end_event [] o.later, o.no_end);
    }

-- ---- a frame behind the earlier items

-- what the run's rules ask of how a frame begins
record Begins (p : List Item) (lost : ℕ) (xs : List Item) : Type 0 where
  goes_on : begun p ≡ true → (lost ≡ 0) × (continued xs ≡ some (head_or_zero (gather start_number p)))
  begins : begun p ≡ false → continued xs ≡ none

module _ (earlier : List Item) (lost : ℕ) (xs : List Item) where
  to_linked : Begins (earlier_then [] earlier) lost xs → Linked earlier lost xs
  to_linked b =
      record {
        goes_on = λ n h. let (o, i) = inside_begun earlier n h in let (l, c) = b.goes_on o in (l, continued_is xs n (c ∙ ap some i));
        begins = λ never n h. shut never n h (begun (earlier_then [] earlier)) refl;
      }
    where
      shut : ((n : ℕ) → EndsInside earlier n → ⊥) → (n : ℕ) → BeginsWith (ContinueEvent n) xs → (o : Bool) → begun (earlier_then [] earlier) ≡ o → ⊥
      shut never n h true o = never _ (begun_inside earlier o)
      shut never n h false o = no_some n (sym (b.begins o) ∙ ap continued h.1)

  of_linked : Linked earlier lost xs → Begins (earlier_then [] earlier) lost xs
  of_linked h =
      record {
        goes_on = λ o. let (l, r) = h.goes_on _ (begun_inside earlier o) in (l, ap continued r.1);
        begins = λ o. go o (continued xs) refl;
      }
    where
      go : begun (earlier_then [] earlier) ≡ false → (c : Option ℕ) → continued xs ≡ c → continued xs ≡ none
      go o none c = c
      go o (some n) c = absurd (h.begins (λ m i. true≢false (sym (inside_begun earlier m i).0 ∙ o)) n (continued_is xs n c))

-- ---- the items of a frame are those of a run

fits_within : (x : Item) → same start_event (class_for x) ≡ false → same end_event (class_for x) ≡ false → fits x ≡ true → form.Within x
fits_within x s e f = go (seen x)
  where
    go : Seen x → form.Within x
    go (opening (starts t ts n i)) = absurd (true≢false (sym (ap (λ (y : Item). same start_event (class_for y)) i) ∙ s))
    go (opening (continues n i)) = record { no_start = s; no_end = e; no_size = ap (λ (y : Item). end_size y) i; fitting = f }
    go (ends n i) = absurd (true≢false (sym (ap (λ (y : Item). same end_event (class_for y)) i) ∙ e))
    go (other d) = record { no_start = s; no_end = e; no_size = d.no_size; fitting = f }

module _ (card : ℕ) where
  formed_from : (q p xs : List Item) → in_event q ≡ begun (q ++ p) → (q ≡ [] → continued xs ≡ none) → Sound data_kind card q xs → form.Formed (begun (q ++ p)) xs
  unfolding Sound form.Formed
  formed_from q p [] o c s = tt
  formed_from q p (x ∷ xs) o c s = go (next card q x s.0) (formed_from (x ∷ q) p xs)
    where
      More : Type 0
      More = in_event (x ∷ q) ≡ begun (x ∷ (q ++ p)) → (x ∷ q ≡ [] → continued xs ≡ none) → Sound data_kind card (x ∷ q) xs → form.Formed (begun (x ∷ (q ++ p))) xs

      then : form.Turn (begun (q ++ p)) x → in_event (x ∷ q) ≡ begun (x ∷ (q ++ p)) → More → form.Turn (begun (q ++ p)) x × form.Formed (not (same end_event (class_for x))) xs
      then t e r = (t, subst (λ (b : Bool). form.Formed b xs) (form.turned (q ++ p) x t) (r e (λ z. not_empty x q z) s.1))

      fitting : fits x ≡ true
      fitting = allowed_fits data_kind card q x s.0

      go : Next q x → More → form.Turn (begun (q ++ p)) x × form.Formed (not (same end_event (class_for x))) xs
      go (a_start t ts n i e) r =
          then (form.a_start t ts n i (sym o ∙ e))
          (open_opening x q (starts t ts n i) ∙ sym (ap (λ (y : Item). begun (y ∷ (q ++ p))) i ∙ form.begun_start t ts n (q ++ p))) r
      go (a_continue n i e) r = no_some n (sym (c e) ∙ ap (λ (y : Item). continued (y ∷ xs)) i)
      go (an_end n i e) r =
          let f : ltb n 4294967296 ≡ true = ap fits (sym i) ∙ fitting in
          then (form.an_end n i (ltb-true n 4294967296 f) (sym o ∙ e))
          (ap (λ (y : Item). in_event (y ∷ q)) i ∙ open_end n q ∙ sym (ap (λ (y : Item). begun (y ∷ (q ++ p))) i ∙ form.begun_end n (q ++ p))) r
      go (another d e) r =
          let w = fits_within x d.no_start d.no_end fitting in
          then (form.another w (sym o ∙ e)) (open_other x q d ∙ o ∙ sym (form.begun_within x (q ++ p) w)) r

  led : (p : List Item) (n : ℕ) (ys : List Item) → begun p ≡ true → Sound data_kind card [] (ContinueEvent n ∷ ys) → form.Formed (begun p) (ContinueEvent n ∷ ys)
  unfolding form.Formed
  led p n ys o s =
      let x = ContinueEvent n in
      let a = sound_head data_kind card [] x ys s in
      let w = fits_within x refl refl (allowed_fits data_kind card [] x a) in
      let e = open_opening x [] (continues n refl) ∙ sym (form.begun_within x p w ∙ o) in (
        form.another w o,
        subst (λ (b : Bool). form.Formed b ys) (form.begun_within x p w ∙ o) (formed_from (x ∷ []) p ys e (λ z. not_empty x [] z) (sound_tail data_kind card [] x ys s)),
      )

  formed_frame : (p : List Item) (lost : ℕ) (xs : List Item) → Begins p lost xs → Sound data_kind card [] xs → form.Formed (begun p) xs
  formed_frame p lost xs b s = go (begun p) refl
    where
      go : (o : Bool) → begun p ≡ o → form.Formed (begun p) xs
      go false o = formed_from [] p xs (open_nil ∙ sym o) (λ z. b.begins o) s
      go true o =
          let (l, c) = b.goes_on o in
          let (ys, i) = continued_is xs _ c in
          subst (form.Formed (begun p)) (sym i) (led p _ ys o (subst (Sound data_kind card []) i s))

-- ---- all frames

fits_append : (p xs ys : List Item) → Fits p (xs ++ ys) ↔ (Fits p xs × Fits (earlier_then p xs) ys)
unfolding Fits earlier_then
fits_append p [] ys = (λ u. (tt, u), λ u. u.1)
fits_append p (x ∷ xs) ys =
    let r = fits_append (x ∷ p) xs ys in
    (λ u. let (a, b) = r.0 u.1 in ((u.0, a), b), λ u. (u.0.0, r.1 (u.0.1, u.1)))

pub data_sound : (f : Frame) → Legal f → f.kind ≡ data_kind → Sound data_kind f.card [] f.items
data_sound f l e = subst (λ (k : Kind). Sound k f.card [] f.items) e l.sound

module _ (card : ℕ) where
  formed_members : (st : follower.State) (earlier : List Item) (fs : List Frame) → Members card st earlier fs → form.Formed (begun (earlier_then [] earlier)) (glued fs)
  unfolding Members glued form.Formed
  formed_members st earlier [] m = tt
  formed_members st earlier (f ∷ fs) m =
      let h = m.0 in
      let p = earlier_then [] earlier in
      let b = of_linked earlier h.lost f.items h.linked in
      form.formed_append p f.items (glued fs) (formed_frame f.card p h.lost f.items b (data_sound f h.legal h.of_data))
      (subst (λ (q : List Item). form.Formed (begun q) (glued fs)) (behind_append [] earlier f.items) (formed_members h.next (earlier ++ f.items) fs m.1))

  -- what a run item by item gives
  members : (st : follower.State) (earlier : List Item) (fs : List Frame) → Run card st earlier fs → Members card st earlier fs
  unfolding Run Members
  members st earlier [] r = tt
  members st earlier (f ∷ fs) r =
      let h = r.0 in (
        record {
          legal = h.legal;
          of_data = h.is_data;
          of_card = h.same_card;
          lost = h.lost;
          next = h.next;
          followed = h.followed;
          linked = to_linked earlier h.lost f.items (record { goes_on = h.joins.goes_on; begins = h.joins.begins });
        },
        members h.next (earlier ++ f.items) fs r.1,
      )

  all_fit : (st : follower.State) (earlier : List Item) (fs : List Frame) → Run card st earlier fs → Fits (earlier_then [] earlier) (glued fs)
  unfolding Run glued Fits
  all_fit st earlier [] r = tt
  all_fit st earlier (f ∷ fs) r =
      let h = r.0 in
      (fits_append (earlier_then [] earlier) f.items (glued fs)).1
      (h.joins.fits, subst (λ (q : List Item). Fits q (glued fs)) (behind_append [] earlier f.items) (all_fit h.next (earlier ++ f.items) fs r.1))

  at_last : (st : follower.State) (earlier : List Item) (fs : List Frame) → Run card st earlier fs → law.Bounded (earlier_then [] earlier)
      → law.Bounded (earlier_then [] (earlier ++ glued fs))
  unfolding Run glued
  at_last st earlier [] r b = subst (λ (l : List Item). law.Bounded (earlier_then [] l)) (sym (append-nil earlier)) b
  at_last st earlier (f ∷ fs) r b =
      let h = r.0 in
      let e = behind_append [] earlier f.items in
      subst (λ (l : List Item). law.Bounded (earlier_then [] l)) (append_assoc earlier f.items (glued fs))
      (at_last h.next (earlier ++ f.items) fs r.1 (subst (λ (q : List Item). law.Bounded q) (sym e) h.joins.bounded))

  -- and what gives one
  unglued : (st : follower.State) (earlier : List Item) (fs : List Frame) → Members card st earlier fs → Fits (earlier_then [] earlier) (glued fs)
      → Each (λ (e : List Item). bytes_of e < 2 ^ 32) (events (earlier ++ glued fs)) → Run card st earlier fs
  unfolding Run Members glued
  unglued st earlier [] m f b = tt
  unglued st earlier (f ∷ fs) m fit b =
      let h = m.0 in
      let xs = f.items in
      let e : earlier_then [] (earlier ++ xs) ≡ earlier_then (earlier_then [] earlier) xs = behind_append [] earlier xs in
      let (u, v) = (fits_append (earlier_then [] earlier) xs (glued fs)).0 fit in
      let k = of_linked earlier h.lost xs h.linked in
      let b' = subst (λ (l : List Item). Each (λ (e : List Item). bytes_of e < 2 ^ 32) (events l)) (sym (append_assoc earlier xs (glued fs))) b in
      let w : law.Bounded (earlier_then [] (earlier ++ xs)) =
      λ o. law.on_the_way [] (earlier ++ xs) (glued fs) b' (λ c. absurd (omega (arith, law.count_nil))) (begun_count (earlier_then [] (earlier ++ xs)) o) in (
        record {
          legal = h.legal;
          is_data = h.of_data;
          same_card = h.of_card;
          lost = h.lost;
          next = h.next;
          followed = h.followed;
          joins = record { goes_on = k.goes_on; begins = k.begins; fits = u; bounded = subst (λ (q : List Item). law.Bounded q) e w };
        },
        unglued h.next (earlier ++ xs) fs m.1 (subst (λ (q : List Item). Fits q (glued fs)) (sym e) v) b',
      )

  -- nothing is open before all frames
  none_open : law.Bounded (earlier_then [] [])
  unfolding earlier_then
  none_open o = absurd (true≢false (sym o ∙ form.begun_nil))

  pub formed : (fs : List Frame) → Members card follower.idle [] fs → form.Formed false (glued fs)
  unfolding earlier_then
  formed fs m = subst (λ (b : Bool). form.Formed b (glued fs)) form.begun_nil (formed_members follower.idle [] fs m)

  -- THE LAW of gluing: item by item behind all earlier ones, or the events that all items are cut into
  pub glued_run : (fs : List Frame) → Run card follower.idle [] fs ↔ RunOf card fs
  unfolding earlier_then
  glued_run fs = (
    λ r. let m = members follower.idle [] fs r in
        record {
          members = m;
          lawful = (law.cut_lawful (glued fs) (formed fs m)).0 (all_fit follower.idle [] fs r, at_last follower.idle [] fs r none_open);
        },
    λ h. let (f, b) = (law.cut_lawful (glued fs) (formed fs h.members)).1 h.lawful in
        unglued follower.idle [] fs h.members f (law.parts (events (glued fs)) h.lawful).1,
  )
