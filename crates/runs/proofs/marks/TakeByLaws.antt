-- The step by marks is the step; and how far the marks of an accepted frame reach.
-- Assumes nothing.
use Prim.Native.Nat.{ℕ, ◌+◌, ◌-◌, ◌*◌, ◌≤◌}
use mathlib.Core.Path.{◌≡◌, refl, sym, ap, subst, ◌∙◌}
use mathlib.Core.List.{List, [], ◌∷◌}
use mathlib.Core.Bool.{Bool, true, false, not, ◌&&◌}
use mathlib.Core.Option.{Option, none, some}
use native.Mathlib.Omega.{arith}
use lib.Dec.{eqb}
use lib.ListN.{length}
use Rattle.follower.specs.Follow as follower
use Rattle.format.specs.Words.{pick, Bytes, long_at}
use Rattle.format.specs.Answers.{Outcome, accepted, refused, and_then}
use Rattle.format.specs.Book.{start_event, end_event}
use Rattle.format.specs.Items.{Item, class_for, words_of}
use Rattle.format.specs.Rules.{Kind, data_kind, monitor_kind, command_kind, same, since, has, total, begun}
use Rattle.format.specs.Frames.{Frame, earlier_then, all_words, encode, Legal, verdict}
use Rattle.format.specs.Steps.{Marks, opener_after, lead_after, marks_after, state_of, Overview, overview, read_of}
use Rattle.format.proofs.book.PrefixLaws.{and_right}
use Rattle.format.proofs.verdict.Acceptance.{exactly}
use Rattle.format.proofs.spots.PutLaws.{length_encode}
use Rattle.format.proofs.writer.NoDeadEnd.{total_behind}
use Rattle.runs.specs.Assembly.{Open, Assembler, is_data, linked, open_after, Taken, linking, take}
use Rattle.runs.specs.Marked.{continues_at, rises_by, size_by, sized_by, goes_on_by, linked_by, open_by, linking_by, take_by, Reach}
use Rattle.runs.proofs.marks.MarkedLaws.{linked_by_lem, open_by_lem}

state_marks : (k : Kind) (p : List Item) → (state_of k p).marks ≡ marks_after p
unfolding state_of
state_marks k p = refl

and_none : (a b c : Bool) → a ≡ false → a && b && c ≡ false
and_none a b c e = rw e

and_last : (a : Bool) → a && false ≡ false
and_last true = refl
and_last false = refl

module _ (a : Assembler) (s : List ℕ) (f : Frame) (legal : Legal f) (written : s ≡ encode f) (lost : ℕ) (next : follower.State) where
  abbrev p : List Item
  p = earlier_then [] f.items

  abbrev K : Bool
  K = is_data f.kind

  abbrev N : Bool
  N = eqb f.card a.card

  abbrev then : Option Open → Outcome Taken
  then o = accepted (record { lost = lost; next = record { card = a.card; follower = next; event = o } })

  of_data : f.kind ≡ data_kind → linking a f (follower.accepted lost next) ≡ linking_by a s (overview f) (follower.accepted lost next)
  unfolding linking_by
  of_data e =
      both (linked a.event lost f.items) refl
      ∙ sym (ap (λ (b : Bool). pick (K && N && b) (then (open_by a.event s (overview f).state)) (refused 15 0)) tests)
    where
      tests : linked_by a.event lost s (overview f).state.marks ≡ linked a.event lost f.items
      tests = ap (linked_by a.event lost s) (state_marks f.kind p) ∙ sym (linked_by_lem s f legal written e a.event lost)

      opens : linked a.event lost f.items ≡ true → open_after a.event p ≡ open_by a.event s (overview f).state
      opens t = open_by_lem s f legal written e a.event lost t ∙ ap (λ (k : Kind). open_by a.event s (state_of k p)) (sym e)

      both : (b : Bool) → b ≡ linked a.event lost f.items
          → pick (K && N && b) (then (open_after a.event p)) (refused 15 0) ≡ pick (K && N && b) (then (open_by a.event s (overview f).state)) (refused 15 0)
      both true t = ap (λ (o : Option Open). pick (K && N && true) (then o) (refused 15 0)) (opens (sym t))
      both false t = ap (λ (b : Bool). pick b (then (open_after a.event p)) (refused 15 0)) (and_last (K && N)) ∙ sym (ap (λ (b : Bool). pick b (then (open_by a.event s (overview f).state)) (refused 15 0)) (and_last (K && N)))

  of_other : K ≡ false → linking a f (follower.accepted lost next) ≡ linking_by a s (overview f) (follower.accepted lost next)
  unfolding linking_by
  of_other e =
      ap (λ (b : Bool). pick b (then (open_after a.event p)) (refused 15 0)) (and_none K N (linked a.event lost f.items) e)
      ∙ sym (ap (λ (b : Bool). pick b (then (open_by a.event s (overview f).state)) (refused 15 0)) (and_none K N (linked_by a.event lost s (overview f).state.marks) e))

  by_kind : (k : Kind) → f.kind ≡ k → linking a f (follower.accepted lost next) ≡ linking_by a s (overview f) (follower.accepted lost next)
  by_kind data_kind e = of_data e
  by_kind monitor_kind e = of_other (ap is_data e)
  by_kind command_kind e = of_other (ap is_data e)

-- THE LAW of marks: no second look at the items is needed
pub take_by_marks : (a : Assembler) (s : List ℕ) → Bytes s → take a s ≡ take_by a s
unfolding take take_by read_of linking_by
take_by_marks a s bytes = go (verdict s) refl
  where
    followed : (f : Frame) → verdict s ≡ accepted f → (o : follower.Answer) → linking a f o ≡ linking_by a s (overview f) o
    followed f v (follower.refused n q) = refl
    followed f v (follower.accepted lost next) =
        let (l, w) = (exactly s bytes f).0 v in
        by_kind a s f l w lost next f.kind refl

    go : (o : Outcome Frame) → verdict s ≡ o
        → and_then o (λ f. linking a f (follower.follow a.follower f.sequence))
        ≡ and_then (and_then o (λ f. accepted (overview f))) (λ v. linking_by a s v (follower.follow a.follower v.sequence))
    go (accepted f) v = followed f v (follower.follow a.follower f.sequence)
    go (refused n q) v = refl

-- ---- how far the marks reach

lead_most : (p : List Item) → lead_after p ≤ 3 + total p
unfolding lead_after total
lead_most [] = omega arith
lead_most (x ∷ p) = go (same end_event (class_for x) && not (begun p)) (lead_most p)
  where
    go : (b : Bool) → lead_after p ≤ 3 + total p → pick b (3 + total p) (lead_after p) ≤ 3 + (length (words_of x) + total p)
    go true h = omega arith
    go false h = omega arith

opener_most : (p : List Item) → opener_after p ≤ 3 + total p
opener_most p = go (has start_event p)
  where
    go : (b : Bool) → pick b ((3 + total p) - total (since start_event p)) 0 ≤ 3 + total p
    go true = omega arith
    go false = omega arith

told : (s : List ℕ) → Bytes s → (f : Frame) → verdict s ≡ accepted f → Reach s (overview f).state.marks
unfolding state_of marks_after total
told s bytes f v =
    let (l, w) = (exactly s bytes f).0 v in
    let p = earlier_then [] f.items in
    let e : length s ≡ 2 * (4 + length (all_words f.items)) = ap length w ∙ length_encode f in
    let z : length s ≤ 8192 = rw w l.short in
    record {
      least = omega arith;
      most = z;
      opener = omega (arith, opener_most p, total_behind [] f.items);
      lead = omega (arith, lead_most p, total_behind [] f.items);
    }

pub reach : (s : List ℕ) → Bytes s → (v : Overview) → read_of s ≡ accepted v → Reach s v.state.marks
unfolding read_of
reach s bytes v e = go (verdict s) refl e
  where
    inner : (x y : Overview) → ◌≡◌ {A = Outcome Overview} (accepted x) (accepted y) → x ≡ y
    inner x y j = cc

    go : (o : Outcome Frame) → verdict s ≡ o → and_then o (λ f. accepted (overview f)) ≡ accepted v → Reach s v.state.marks
    go (accepted f) j i = subst (λ (v : Overview). Reach s v.state.marks) (inner (overview f) v i) (told s bytes f j)
    go (refused n q) j i = let z : ◌≡◌ {A = ℕ} 0 1 = cc in absurd (omega arith)

-- a frame that links leaves no size past 32 bits
pub linked_sized : (o : Option Open) (lost : ℕ) (s : List ℕ) (m : Marks) → linked_by o lost s m ≡ true → sized_by o s m ≡ true
unfolding sized_by linked_by goes_on_by
linked_sized none lost s m e = refl
linked_sized (some o) lost s m e =
    and_right (eqb lost 0 && continues_at s && eqb o.number (long_at s 4) && rises_by o.key m.first) (size_by o.size s m.lead) e
