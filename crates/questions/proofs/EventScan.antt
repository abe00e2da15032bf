-- The search for an event of a data frame, and for its size.
-- Assumes nothing.
use Prim.Native.Nat.{ℕ, suc, ◌+◌, ◌-◌, ◌<◌, ◌≤◌}
use mathlib.Core.Path.{◌≡◌, refl, sym, ap, ap₂, subst, ◌∙◌}
use mathlib.Core.List.{List, [], ◌∷◌, ◌++◌}
use mathlib.Core.Bool.{Bool, true, false, ◌||◌, true≢false}
use mathlib.Core.Option.{none, some}
use native.Mathlib.Omega.{arith}
use lib.ListN.{length}
use Rattle.format.specs.Words.{pick, word_at, long_at}
use Rattle.format.specs.Book.{Class, start_event, continue_event, end_event, class_of}
use Rattle.format.specs.Items.{ItemOf, Item, EndEvent, class_for, words_of}
use Rattle.format.specs.Rules.{data_kind, same, gather}
use Rattle.format.specs.Frames.{last_of}
use Rattle.format.specs.Cursor.{standing_at, shown_by, items_from, On}
use Rattle.format.specs.Questions.{Opened, opens, end_size, head_of, events, pick_nth}
use Rattle.format.proofs.tree.ClassLaws.{same_class}
use Rattle.format.proofs.rules.SoundLaws.{Opening, starts, continues, Seen, opening, ends, other, seen}
use Rattle.format.proofs.reader.CursorLaws.{Turn, start_turn, continue_turn, end_turn, answered, run_out}
use Rattle.questions.specs.Sought.{Amid, opens_event, ends_event, started_at, continued_at, opened_at, inside_at, EventAt}
use Rattle.questions.proofs.Turns.{opens_shown, ends_shown, amid_next, one_turn}

-- ---- the search for event e

-- with `left` of the events before it still to come
pub record Seeking (s : List ℕ) (e left at : ℕ) : Type 0 where
  pub amid : Amid s data_kind at
  pub still : pick_nth left (events at (items_from s at)) ≡ pick_nth e (events 3 (items_from s 3))

pub seeking_start : (s : List ℕ) (e : ℕ) → Amid s data_kind 3 → Seeking s e e 3
seeking_start s e a = record { amid = a; still = refl }

-- an item that opens no event
no_opening : (at : ℕ) (x : Item) (xs : List Item) → same start_event (class_for x) || same continue_event (class_for x) ≡ false → opens at x xs ≡ []
no_opening at x xs e = go (seen x)
  where
    go : Seen x → opens at x xs ≡ []
    go (opening (starts t ts n f)) = absurd (true≢false (ap (λ (y : Item). same start_event (class_for y) || same continue_event (class_for y)) (sym f) ∙ e))
    go (opening (continues n f)) = absurd (true≢false (ap (λ (y : Item). same start_event (class_for y) || same continue_event (class_for y)) (sym f) ∙ e))
    go (ends n f) = ap (λ (y : Item). opens at y xs) f
    go (other q) = q.no_event at xs

-- an item that opens one
opening_is : (x : Item) → same start_event (class_for x) || same continue_event (class_for x) ≡ true → Opening x
opening_is x e = go (seen x)
  where
    go : Seen x → Opening x
    go (opening h) = h
    go (ends n f) = absurd (true≢false (sym e ∙ ap (λ (y : Item). same start_event (class_for y) || same continue_event (class_for y)) f))
    go (other q) = absurd (true≢false (sym e ∙ rw (q.no_start, q.no_continue)))

cons_events : (at n : ℕ) (x : Item) (xs : List Item) → n ≡ at + length (words_of x) → events at (x ∷ xs) ≡ opens at x xs ++ events n xs
unfolding events
cons_events at n x xs e = ap (λ (i : ℕ). opens at x xs ++ events i xs) (sym e)

module _ (s : List ℕ) (e left at : ℕ) (k : Seeking s e left at) where
  abbrev g : On s at
  g = k.amid.on

  past_item : (x : Item) (n : ℕ) → Turn s at g x n → ((xs : List Item) → opens at x xs ≡ []) → Seeking s e left n
  past_item x n t z = record {
    amid = amid_next s data_kind at k.amid x n t;
    still =
        sym (ap (pick_nth left)
        (ap (events at) t.split ∙ cons_events at n x (items_from s n) t.wide ∙ ap (λ (l : List Opened). l ++ events n (items_from s n)) (z (items_from s n))))
        ∙ k.still;
  }

  pub seeking_one : at < last_of s → (w : ℕ) → w ≡ word_at s at → 0x0E00 ≤ w → Seeking s e left (at + 1)
  seeking_one h w i l = let o = one_turn s at k.amid h w i l in past_item o.x (at + 1) o.turn (o.plain.no_event at)

  module _ (z : ItemOf ℕ) (n : ℕ) (r : some (record { item = z; next = n }) ≡ shown_by (standing_at s at)) where
    pub seeking_next : opens_event z ≡ false → Seeking s e left n
    seeking_next f =
        let (x, i, t) = answered s at g z n (sym r) in
        past_item x n t (λ xs. no_opening at x xs (opens_shown x z i ∙ f))

    module _ (f : opens_event z ≡ true) where
      -- what the item opens, and the cursor behind it
      record Opens : Type 0 where
        next : n ≡ inside_at s at
        events_are : events at (items_from s at) ≡ opened_at s at ∷ events n (items_from s n)
        behind : Amid s data_kind n

      opened : Opens
      opened =
          let (x, i, t) = answered s at g z n (sym r) in
          let h : at < last_of s = let a = t.further in let b = t.within in omega arith in
          go x t h (opening_is x (opens_shown x z i ∙ f))
        where
          go : (x : Item) → Turn s at g x n → at < last_of s → Opening x → Opens
          go x t h (starts j ts m q) =
              let c : start_event ≡ class_of (word_at s at) = ap (λ (y : Item). class_for y) (sym q) ∙ t.class in
              let u = start_turn s at g h c in
              let d : same (class_of (word_at s at)) continue_event ≡ false = ap (λ (d : Class). same d continue_event) (sym c) in
              let l : n ≡ at + 6 = sym t.follow ∙ u.follow in
              record {
                next = l ∙ sym (ap (λ (b : Bool). (pick b (continued_at s at) (started_at s at)).inside) d);
                events_are =
                    ap (events at) u.split ∙ cons_events at (at + 6) _ (items_from s (at + 6)) u.wide
                    ∙ ap₂ (λ (b : Bool) (j : ℕ). pick b (continued_at s at) (started_at s at) ∷ events j (items_from s j)) (sym d) (sym l);
                behind = subst (Amid s data_kind) (sym l) (amid_next s data_kind at k.amid _ (at + 6) u);
              }
          go x t h (continues m q) =
              let c : continue_event ≡ class_of (word_at s at) = ap (λ (y : Item). class_for y) (sym q) ∙ t.class in
              let u = continue_turn s at g h c in
              let d : same (class_of (word_at s at)) continue_event ≡ true = ap (λ (d : Class). same d continue_event) (sym c) in
              let l : n ≡ at + 3 = sym t.follow ∙ u.follow in
              record {
                next = l ∙ sym (ap (λ (b : Bool). (pick b (continued_at s at) (started_at s at)).inside) d);
                events_are =
                    ap (events at) u.split ∙ cons_events at (at + 3) _ (items_from s (at + 3)) u.wide
                    ∙ ap₂ (λ (b : Bool) (j : ℕ). pick b (continued_at s at) (started_at s at) ∷ events j (items_from s j)) (sym d) (sym l);
                behind = subst (Amid s data_kind) (sym l) (amid_next s data_kind at k.amid _ (at + 3) u);
              }

      pub seeking_further : (left ≡ 0 → ⊥) → Seeking s e (left - 1) n
      unfolding pick_nth
      seeking_further m =
          let l : left ≡ suc (left - 1) = omega arith in
          record { amid = opened.behind; still = sym (ap₂ (λ (j : ℕ) (l : List Opened). pick_nth j l) l opened.events_are) ∙ k.still }

      pub seeking_found : left ≡ 0 → EventAt s e at
      unfolding pick_nth
      seeking_found z =
          let (x, i, t) = answered s at g _ n (sym r) in
          let b = t.within in
          let c = t.further in
          record {
            within = omega arith;
            picked = sym k.still ∙ ap₂ (λ (j : ℕ) (l : List Opened). pick_nth j l) z opened.events_are;
            amid = subst (Amid s data_kind) opened.next opened.behind;
          }

  pub seeking_none : last_of s ≤ at → pick_nth e (events 3 (items_from s 3)) ≡ none
  unfolding pick_nth events
  seeking_none l = sym k.still ∙ ap (λ (xs : List Item). pick_nth left (events at xs)) (run_out s at g l).0

-- ---- the size that the first End event gives

pub record Sizing (s : List ℕ) (from at : ℕ) : Type 0 where
  pub amid : Amid s data_kind at
  pub still : head_of (gather end_size (items_from s at)) ≡ head_of (gather end_size (items_from s from))

pub sizing_start : (s : List ℕ) (from : ℕ) → Amid s data_kind from → Sizing s from from
sizing_start s from a = record { amid = a; still = refl }

no_size : (x : Item) (xs : List Item) → end_size x ≡ [] → head_of (gather end_size (x ∷ xs)) ≡ head_of (gather end_size xs)
unfolding gather
no_size x xs e = ap (λ (l : List ℕ). head_of (l ++ gather end_size xs)) e

its_size : (n : ℕ) (xs : List Item) → head_of (gather end_size (EndEvent n ∷ xs)) ≡ some n
unfolding gather
its_size n xs = refl

no_end : (x : Item) → same end_event (class_for x) ≡ false → end_size x ≡ []
no_end x e = go (seen x)
  where
    go : Seen x → end_size x ≡ []
    go (opening (starts t ts n f)) = ap end_size f
    go (opening (continues n f)) = ap end_size f
    go (ends n f) = absurd (true≢false (ap (λ (y : Item). same end_event (class_for y)) (sym f) ∙ e))
    go (other q) = q.no_size

module _ (s : List ℕ) (from at : ℕ) (k : Sizing s from at) where
  past_size : (x : Item) (n : ℕ) → Turn s at k.amid.on x n → end_size x ≡ [] → Sizing s from n
  past_size x n t z = record {
    amid = amid_next s data_kind at k.amid x n t;
    still = sym (ap (λ (xs : List Item). head_of (gather end_size xs)) t.split ∙ no_size x _ z) ∙ k.still;
  }

  pub sizing_one : at < last_of s → (w : ℕ) → w ≡ word_at s at → 0x0E00 ≤ w → Sizing s from (at + 1)
  sizing_one h w i l = let o = one_turn s at k.amid h w i l in past_size o.x (at + 1) o.turn o.plain.no_size

  module _ (z : ItemOf ℕ) (n : ℕ) (r : some (record { item = z; next = n }) ≡ shown_by (standing_at s at)) where
    pub sizing_next : ends_event z ≡ false → Sizing s from n
    sizing_next f =
        let (x, i, t) = answered s at k.amid.on z n (sym r) in
        past_size x n t (no_end x (ends_shown x z i ∙ f))

    pub sizing_found : ends_event z ≡ true → (m : ℕ) → m ≡ long_at s (at + 1) → some m ≡ head_of (gather end_size (items_from s from))
    sizing_found f m e =
        let (x, i, t) = answered s at k.amid.on z n (sym r) in
        let c : end_event ≡ class_of (word_at s at) = same_class end_event (class_for x) (ends_shown x z i ∙ f) ∙ t.class in
        let u = end_turn s at k.amid.on (let a = t.further in let b = t.within in omega arith) c in
        ap some e ∙ sym (ap (λ (xs : List Item). head_of (gather end_size xs)) u.split ∙ its_size _ _) ∙ k.still

  pub sizing_none : last_of s ≤ at → none ≡ head_of (gather end_size (items_from s from))
  unfolding gather
  sizing_none l = sym (ap (λ (xs : List Item). head_of (gather end_size xs)) (run_out s at k.amid.on l).0) ∙ k.still
