-- An assembler takes all frames of a list exactly where they are a run, and what it then holds.
-- Assumes nothing.
use Prim.Native.Nat.{ℕ, ◌≤◌}
use mathlib.Core.Path.{◌≡◌, refl, sym, ap, ap₂, ◌∙◌}
use mathlib.Core.List.{List, [], ◌∷◌, ◌++◌, append_assoc, append-nil, map}
use mathlib.Core.Bool.{Bool, true, false, ◌&&◌, true≢false}
use mathlib.Core.Logic.{◌↔◌}
use mathlib.Core.Option.{Option}
use native.Mathlib.Omega.{arith}
use lib.Dec.{eqb}
use lib.ListN.{length}
use borrow.Author.Tests.{eqb-true, eq-eqb}
use Rattle.follower.specs.Follow as follower
use Rattle.format.specs.Words.{pick, Bytes}
use Rattle.format.specs.Answers.{Outcome, accepted, refused, and_then}
use Rattle.format.specs.Items.{Item}
use Rattle.format.specs.Rules.{Kind, data_kind, monitor_kind, command_kind, since, count}
use Rattle.format.specs.Frames.{Frame, earlier_then, all_words, encode, Legal, verdict}
use Rattle.format.proofs.book.PrefixLaws.{and_left, and_right, and_both}
use Rattle.format.proofs.rules.SoundLaws.{behind_append}
use Rattle.format.proofs.verdict.Acceptance.{exactly, complete}
use Rattle.format.proofs.spots.PutLaws.{length_encode}
use Rattle.runs.specs.Assembly.{Open, Assembler, new, is_data, linked, open_after, Taken, linking, take, take_all}
use Rattle.runs.specs.Runs.{Each, glued, IsRun}
use Rattle.runs.proofs.joins.Joined.{Part, Run}
use Rattle.runs.proofs.joins.OpenLaws.{open_of, links, opens}
use Rattle.runs.proofs.cuts.GlueLaws.{data_sound, glued_run}

-- the assembler behind the earlier items of a run
abbrev pub behind_all : ℕ → follower.State → List Item → Assembler
behind_all card st earlier = record { card = card; follower = st; event = open_of (earlier_then [] earlier) }

is_data_lem : (k : Kind) → is_data k ≡ true → k ≡ data_kind
is_data_lem data_kind e = refl
is_data_lem monitor_kind e = absurd (true≢false (sym e))
is_data_lem command_kind e = absurd (true≢false (sym e))

few_words : (f : Frame) → Legal f → length (all_words f.items) ≤ 4096
few_words f l = let s = l.short in omega (arith, length_encode f)

-- ---- one frame

module _ (card : ℕ) (st : follower.State) (earlier : List Item) where
  abbrev p : List Item
  p = earlier_then [] earlier

  abbrev took : (f : Frame) → Part card st earlier f → Taken
  took f h = record { lost = h.lost; next = behind_all card h.next (earlier ++ f.items) }

  -- the open event behind one more frame
  opened : (f : Frame) → Part card st earlier f → open_of (earlier_then [] (earlier ++ f.items)) ≡ open_after (open_of p) (earlier_then [] f.items)
  opened f h =
      ap (λ (q : List Item). open_of q) (behind_append [] earlier f.items)
      ∙ opens f.card h.lost p f.items (data_sound f h.legal h.is_data) (few_words f h.legal) h.joins

  pub record Takes (s : List ℕ) (t : Taken) : Type 0 where
    pub frame : Frame
    pub written : s ≡ encode frame
    pub part : Part card st earlier frame
    pub is : t ≡ took frame part

  taken_frame : (s : List ℕ) → Bytes s → (f : Frame) → verdict s ≡ accepted f → (o : follower.Answer) → follower.follow st f.sequence ≡ o → (t : Taken)
      → linking (behind_all card st earlier) f o ≡ accepted t → Takes s t
  taken_frame s bytes f v (follower.refused n q) e t h = let z : ◌≡◌ {A = ℕ} 0 1 = cc in absurd (omega arith)
  taken_frame s bytes f v (follower.accepted lost next) e t h = go (K && N && linked (open_of p) lost f.items) refl h
    where
      K : Bool
      K = is_data f.kind

      N : Bool
      N = eqb f.card card

      a : Taken
      a = record { lost = lost; next = record { card = card; follower = next; event = open_after (open_of p) (earlier_then [] f.items) } }

      inner : (x y : Taken) → ◌≡◌ {A = Outcome Taken} (accepted x) (accepted y) → x ≡ y
      inner x y j = cc

      go : (b : Bool) → K && N && linked (open_of p) lost f.items ≡ b → pick b (accepted a) (refused 15 0) ≡ accepted t → Takes s t
      go false w j = let z : ◌≡◌ {A = ℕ} 0 1 = cc in absurd (omega arith)
      go true w j =
          let (l, i) = (exactly s bytes f).0 v in
          let d = is_data_lem f.kind (and_left K N (and_left (K && N) _ w)) in
          let c = eqb-true f.card card (and_right K N (and_left (K && N) _ w)) in
          let m = (links f.card lost p f.items (data_sound f l d) (few_words f l)).0 (and_right (K && N) _ w) in
          let h : Part card st earlier f = record { legal = l; is_data = d; same_card = c; lost = lost; next = next; followed = e; joins = m } in
          record {
            frame = f;
            written = i;
            part = h;
            is = sym (inner a t j) ∙ ap (λ (o : Option Open). record { lost = lost; next = record { card = card; follower = next; event = o } }) (sym (opened f h));
          }

  pub taken : (s : List ℕ) → Bytes s → (t : Taken) → take (behind_all card st earlier) s ≡ accepted t → Takes s t
  unfolding take
  taken s bytes t h = go (verdict s) refl h
    where
      go : (o : Outcome Frame) → verdict s ≡ o → and_then o (λ f. linking (behind_all card st earlier) f (follower.follow st f.sequence)) ≡ accepted t → Takes s t
      go (accepted f) v j = taken_frame s bytes f v (follower.follow st f.sequence) refl t j
      go (refused n q) v j = let z : ◌≡◌ {A = ℕ} 0 1 = cc in absurd (omega arith)

  pub takes : (f : Frame) (h : Part card st earlier f) → take (behind_all card st earlier) (encode f) ≡ accepted (took f h)
  unfolding take
  takes f h =
      let m = (links f.card h.lost p f.items (data_sound f h.legal h.is_data) (few_words f h.legal)).1 h.joins in
      let w : is_data f.kind && eqb f.card card && linked (open_of p) h.lost f.items ≡ true =
      and_both _ _ (and_both _ _ (ap is_data h.is_data) (eq-eqb f.card card h.same_card)) m in
      ap (λ (o : Outcome Frame). and_then o (λ f. linking (behind_all card st earlier) f (follower.follow st f.sequence))) (complete f h.legal)
      ∙ ap (linking (behind_all card st earlier) f) h.followed
      ∙ ap (λ (b : Bool). pick b (accepted (record { lost = h.lost; next = record { card = card; follower = h.next; event = open_after (open_of p) (earlier_then [] f.items) } })) (refused 15 0)) w
      ∙ ap (λ (o : Option Open). accepted (record { lost = h.lost; next = record { card = card; follower = h.next; event = o } })) (sym (opened f h))

-- ---- all frames

module _ (card : ℕ) where
  -- what a list of frames that are all taken tells
  pub record Ran (st : follower.State) (earlier : List Item) (ss : List (List ℕ)) (b : Assembler) : Type 0 where
    pub frames : List Frame
    pub written : ss ≡ map encode frames
    pub run : Run card st earlier frames
    pub last : follower.State
    pub is : b ≡ behind_all card last (earlier ++ glued frames)

  pub run_of : (st : follower.State) (earlier : List Item) (ss : List (List ℕ)) → Each Bytes ss → (b : Assembler) → take_all (behind_all card st earlier) ss ≡ accepted b → Ran st earlier ss b
  unfolding take_all Run Each glued
  run_of st earlier [] bs b h =
      record {
        frames = [];
        written = refl;
        run = tt;
        last = st;
        is = inner _ b h ∙ ap (behind_all card st) (sym (append-nil earlier));
      }
    where
      inner : (x y : Assembler) → ◌≡◌ {A = Outcome Assembler} (accepted x) (accepted y) → y ≡ x
      inner x y j = cc
  run_of st earlier (s ∷ ss) bs b h = go (take (behind_all card st earlier) s) refl h (λ st' e'. run_of st' e' ss bs.1 b)
    where
      go : (o : Outcome Taken) → take (behind_all card st earlier) s ≡ o → and_then o (λ t. take_all t.next ss) ≡ accepted b
          → ((st' : follower.State) (e' : List Item) → take_all (behind_all card st' e') ss ≡ accepted b → Ran st' e' ss b) → Ran st earlier (s ∷ ss) b
      go (refused n q) e j r = let z : ◌≡◌ {A = ℕ} 0 1 = cc in absurd (omega arith)
      go (accepted t) e j r =
          let k = taken card st earlier s bs.0 t e in
          let h = k.part in
          let m = r h.next (earlier ++ k.frame.items) (ap (λ (t : Taken). take_all t.next ss) (sym k.is) ∙ j) in
          record {
            frames = k.frame ∷ m.frames;
            written = ap₂ (λ (a : List ℕ) (l : List (List ℕ)). a ∷ l) k.written m.written;
            run = (h, m.run);
            last = m.last;
            is = m.is ∙ ap (behind_all card m.last) (append_assoc earlier k.frame.items (glued m.frames));
          }

  pub of_run : (st : follower.State) (earlier : List Item) (fs : List Frame) → Run card st earlier fs
      → (last : follower.State) × (take_all (behind_all card st earlier) (map encode fs) ≡ accepted (behind_all card last (earlier ++ glued fs)))
  unfolding take_all Run glued
  of_run st earlier [] r = (st, ap (λ (l : List Item). accepted (behind_all card st l)) (sym (append-nil earlier)))
  of_run st earlier (f ∷ fs) r =
      let h = r.0 in
      let (last, e) = of_run h.next (earlier ++ f.items) fs r.1 in (
        last,
        ap (λ (o : Outcome Taken). and_then o (λ t. take_all t.next (map encode fs))) (takes card st earlier f h) ∙ e
            ∙ ap (λ (l : List Item). accepted (behind_all card last l)) (append_assoc earlier f.items (glued fs)),
      )

  -- at first nothing is open
  pub at_first : behind_all card follower.idle [] ≡ new card
  unfolding since count earlier_then
  at_first = refl

  -- B1.2: the frames that a new assembler of a card takes one by one are exactly its runs
  pub run_exactly : (ss : List (List ℕ)) → Each Bytes ss → ((b : Assembler) × (take_all (new card) ss ≡ accepted b)) ↔ IsRun card ss
  run_exactly ss bs = (
    λ u. let (b, h) = u in
        let r = run_of follower.idle [] ss bs b (ap (λ (a : Assembler). take_all a ss) at_first ∙ h) in
        record { frames = r.frames; run = (glued_run card r.frames).0 r.run; written = r.written },
    λ i. let (last, e) = of_run follower.idle [] i.frames ((glued_run card i.frames).1 i.run) in
        (behind_all card last (glued i.frames), ap (take_all (new card)) i.written ∙ ap (λ (a : Assembler). take_all a (map encode i.frames)) (sym at_first) ∙ e),
  )
