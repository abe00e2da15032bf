-- Behind a run an assembler holds the event in which its items end; its frames are the only ones, and each can be written.
-- Assumes nothing.
use Prim.Native.Nat.{ℕ, ◌*◌, max}
use mathlib.Core.Path.{◌≡◌, refl, sym, ap, ap₂, subst, ◌∙◌}
use mathlib.Core.List.{List, [], ◌∷◌, ◌++◌, map}
use mathlib.Core.Bool.{Bool, true, false}
use mathlib.Core.Logic.{◌↔◌}
use mathlib.Core.Option.{none, some}
use native.Mathlib.Omega.{arith}
use Rattle.follower.specs.Follow as follower
use Rattle.format.specs.Words.{pick, Bytes}
use Rattle.format.specs.Answers.{Outcome, accepted, refused, and_then}
use Rattle.format.specs.Book.{start_event}
use Rattle.format.specs.Items.{Item, StartEvent, class_for, words_of}
use Rattle.format.specs.Rules.{same, since, count, total, gather, channel_key, begun}
use Rattle.format.specs.Frames.{Frame, earlier_then, all_words, encode, Legal}
use Rattle.format.specs.Steps.{above_all}
use Rattle.format.specs.Questions.{until}
use Rattle.format.proofs.questions.ItemQuestions.{no_some, some_is}
use Rattle.format.proofs.verdict.Acceptance.{exactly}
use Rattle.format.proofs.verdict.RefusalLaws.{one_reading}
use Rattle.format.proofs.writer.Completeness as completeness
use Rattle.format.proofs.writer.NoDeadEnd.{total_behind}
use Rattle.runs.specs.Assembly.{Open, Assembler, new, last_open, Taken, take, take_all}
use Rattle.runs.specs.Runs.{Each, events, bytes_of, EndsInside, Members, glued, RunOf, IsRun}
use Rattle.runs.specs.Held.{Holds, together, Writes, SameBytes}
use Rattle.runs.proofs.joins.ListLaws.{since_none, gather_append, total_append, above_all_append}
use Rattle.runs.proofs.joins.BeginLaws.{count_behind}
use Rattle.runs.proofs.joins.OpenLaws.{open_of}
use Rattle.runs.proofs.cuts.FormLaws as form
use Rattle.runs.proofs.cuts.GlueLaws.{turned_round, inside_begun, begun_inside, glued_run, formed}
use Rattle.runs.proofs.steps.TakeLaws.{accepted_exactly}
use Rattle.runs.proofs.runs.RunLaws.{behind_all, of_run, at_first}

-- ---- what is open

above_behind : (p xs : List Item) → above_all (gather channel_key (earlier_then p xs)) ≡ max (above_all (gather channel_key p)) (above_all (gather channel_key xs))
unfolding earlier_then gather above_all
above_behind p [] = omega arith
above_behind p (x ∷ xs) =
    omega (arith, above_behind (x ∷ p) xs, above_all_append (channel_key x) (gather channel_key p), above_all_append (channel_key x) (gather channel_key xs))

module _ (xs : List Item) (n : ℕ) (h : EndsInside xs n) where
  abbrev inside : List Item
  inside = h.inside

  abbrev start : Item
  start = StartEvent h.kind h.timestamp n

  since_begun : since start_event (earlier_then [] xs) ≡ earlier_then [] inside ++ (start ∷ [])
  unfolding since count
  since_begun =
      ap (λ (l : List Item). since start_event (earlier_then [] l)) h.are ∙ ap (since start_event) (turned_round h.before inside start)
      ∙ since_none start_event (earlier_then [] inside) (start ∷ earlier_then [] h.before) (omega (arith, count_behind start_event [] inside, h.no_start))

  pub size_begun : 2 * total (since start_event (earlier_then [] xs)) ≡ bytes_of (start ∷ inside)
  unfolding total all_words words_of
  size_begun =
      ap (λ (l : List Item). 2 * total l) since_begun
      ∙ omega (arith, total_append (earlier_then [] inside) (start ∷ []), total_behind [] inside)

  key_begun : above_all (gather channel_key (since start_event (earlier_then [] xs))) ≡ above_all (gather channel_key inside)
  unfolding gather above_all
  key_begun =
      ap (λ (l : List Item). above_all (gather channel_key l)) since_begun
      ∙ ap above_all (gather_append channel_key (earlier_then [] inside) (start ∷ []))
      ∙ omega (arith, above_all_append (gather channel_key (earlier_then [] inside)) [], above_behind [] inside)

  open_told : open_of (earlier_then [] xs) ≡ some (record { number = n; size = bytes_of (start ∷ inside); key = above_all (gather channel_key inside) })
  open_told =
      let (b, i) = inside_begun xs n h in
      ap (λ (t : Bool). pick t (some (last_open (earlier_then [] xs))) none) b
      ∙ (λ j. some (record { number = i j; size = size_begun j; key = key_begun j }))

pub holds : (xs : List Item) (o : Open) → (open_of (earlier_then [] xs) ≡ some o) ↔ Holds xs o
holds xs o = (λ e. forth e (begun (earlier_then [] xs)) refl, back)
  where
    told : (n : ℕ) (h : EndsInside xs n) → open_of (earlier_then [] xs) ≡ some o → Holds xs o
    told n h e =
        let w = some_is _ o (sym (open_told xs n h) ∙ e) in
        subst (Holds xs) w (record { inside_of = h; size = refl; key = refl })

    forth : open_of (earlier_then [] xs) ≡ some o → (b : Bool) → begun (earlier_then [] xs) ≡ b → Holds xs o
    forth e true b = told _ (begun_inside xs b) e
    forth e false b = no_some o (sym (ap (λ (t : Bool). pick t (some (last_open (earlier_then [] xs))) none) b) ∙ e)

    back : Holds xs o → open_of (earlier_then [] xs) ≡ some o
    back h = open_told xs o.number h.inside_of ∙ (λ i. some (record { number = o.number; size = sym h.size i; key = sym h.key i }))

-- ---- its frames

each : {A : Type 0} (P Q : A → Type 0) → ((a : A) → P a → Q a) → (l : List A) → Each P l → Each Q l
unfolding Each
each P Q h [] e = tt
each P Q h (a ∷ l) e = (h a e.0, each P Q h l e.1)

module _ (card : ℕ) where
  all_legal : (st : follower.State) (earlier : List Item) (fs : List Frame) → Members card st earlier fs → Each Legal fs
  unfolding Members Each
  all_legal st earlier [] m = tt
  all_legal st earlier (f ∷ fs) m = (m.0.legal, all_legal m.0.next (earlier ++ f.items) fs m.1)

  legal_run : (fs : List Frame) → RunOf card fs → Each Legal fs
  legal_run fs r = all_legal follower.idle [] fs r.members

one_each : (fs gs : List Frame) → Each Legal fs → Each Legal gs → map encode fs ≡ map encode gs → fs ≡ gs
unfolding Each
one_each [] [] l k e = refl
one_each [] (g ∷ gs) l k e = let z : ◌≡◌ {A = ℕ} 0 1 = cc in absurd (omega arith)
one_each (f ∷ fs) [] l k e = let z : ◌≡◌ {A = ℕ} 0 1 = cc in absurd (omega arith)
one_each (f ∷ fs) (g ∷ gs) l k e =
    let h : encode f ≡ encode g = cc in
    let t : map encode fs ≡ map encode gs = cc in
    ap₂ (λ (f : Frame) (fs : List Frame). f ∷ fs) (one_reading f g l.0 k.0 h) (one_each fs gs l.1 k.1 t)

pub one_run : (card : ℕ) (ss : List (List ℕ)) (r q : IsRun card ss) → r.frames ≡ q.frames
one_run card ss r q = one_each r.frames q.frames (legal_run card r.frames r.run) (legal_run card q.frames q.run) (sym r.written ∙ q.written)

-- the state that a run leads to
pub held : (card : ℕ) (ss : List (List ℕ)) (r : IsRun card ss) (b : Assembler) → take_all (new card) ss ≡ accepted b
    → (b.card ≡ card) × ((o : Open) → (b.event ≡ some o) ↔ Holds (glued r.frames) o)
held card ss r b e =
    let (last, t) = of_run card follower.idle [] r.frames ((glued_run card r.frames).1 r.run) in
    let w : behind_all card last (glued r.frames) ≡ b =
    inner _ b (sym t ∙ ap (λ (a : Assembler). take_all a (map encode r.frames)) (at_first card) ∙ ap (take_all (new card)) (sym r.written) ∙ e) in (
      ap (λ (a : Assembler). a.card) (sym w),
      λ o. let h = holds (glued r.frames) o in
          (λ i. h.0 (ap (λ (a : Assembler). a.event) w ∙ i), λ k. ap (λ (a : Assembler). a.event) (sym w) ∙ h.1 k),
    )
  where
    inner : (x y : Assembler) → ◌≡◌ {A = Outcome Assembler} (accepted x) (accepted y) → x ≡ y
    inner x y j = cc

-- a list of legal frames that is a run is taken
pub run_taken : (card : ℕ) (fs : List Frame) → RunOf card fs → (b : Assembler) × (take_all (new card) (map encode fs) ≡ accepted b)
run_taken card fs r =
    let (last, t) = of_run card follower.idle [] fs ((glued_run card fs).1 r) in
    (behind_all card last (glued fs), ap (λ (a : Assembler). take_all a (map encode fs)) (sym (at_first card)) ∙ t)

-- ---- nothing is cut away

rejoined : (xs : List Item) → until start_event xs ++ together (events xs) ≡ xs
unfolding until events together
rejoined [] = refl
rejoined (x ∷ xs) = go (same start_event (class_for x)) (rejoined xs)
  where
    go : (b : Bool) → until start_event xs ++ together (events xs) ≡ xs
        → pick b [] (x ∷ until start_event xs) ++ together (pick b ((x ∷ until start_event xs) ∷ events xs) (events xs)) ≡ x ∷ xs
    go true h = ap (λ (l : List Item). x ∷ l) h
    go false h = ap (λ (l : List Item). x ∷ l) h

pub all_cut : (card : ℕ) (fs : List Frame) → RunOf card fs → together (events (glued fs)) ≡ glued fs
all_cut card fs r =
    ap (λ (l : List Item). l ++ together (events (glued fs))) (sym (form.outside_next (glued fs) (formed card fs r.members))) ∙ rejoined (glued fs)

-- ---- written, and written again

pub all_written : (card : ℕ) (fs : List Frame) → RunOf card fs → Each (λ (f : Frame). Writes f (encode f)) fs
all_written card fs r = each Legal (λ (f : Frame). Writes f (encode f)) completeness.written fs (legal_run card fs r)

again : (a : Assembler) (s : List ℕ) → Bytes s → (t : Taken) → take a s ≡ accepted t → SameBytes s
again a s bytes t e =
    let h = ((accepted_exactly a s bytes t).0 e).followed in
    let v = (exactly s bytes h.frame).1 (h.legal, h.written) in
    record { frame = h.frame; alone = v; again = completeness.rewritten s bytes h.frame v }

pub all_again : (a : Assembler) (ss : List (List ℕ)) → Each Bytes ss → (b : Assembler) → take_all a ss ≡ accepted b → Each SameBytes ss
unfolding take_all Each
all_again a [] bs b e = tt
all_again a (s ∷ ss) bs b e = go (take a s) refl e (λ c. all_again c ss bs.1 b)
  where
    go : (o : Outcome Taken) → take a s ≡ o → and_then o (λ t. take_all t.next ss) ≡ accepted b → ((c : Assembler) → take_all c ss ≡ accepted b → Each SameBytes ss)
        → SameBytes s × Each SameBytes ss
    go (refused n q) t j r = let z : ◌≡◌ {A = ℕ} 0 1 = cc in absurd (omega arith)
    go (accepted c) t j r = (again a s bs.0 c t, r c.next j)
