-- One step of an assembler: accepted and refused exactly as document 02 says, and the numbers it is refused by.
-- Assumes nothing.
use Prim.Native.Nat.{ℕ, ◌≤◌}
use mathlib.Core.Path.{◌≡◌, refl, sym, ap, ap₂, subst, ◌∙◌}
use mathlib.Core.List.{List, []}
use mathlib.Core.Bool.{Bool, true, false, true≢false}
use mathlib.Core.Logic.{◌↔◌, ◌⊎◌, inl, inr}
use mathlib.Core.Option.{none}
use native.Mathlib.Omega.{arith}
use Rattle.follower.specs.Follow as follower
use Rattle.follower.proofs.front.Sequence as sequence
use Rattle.format.specs.Words.{pick, Bytes}
use Rattle.format.specs.Answers.{Outcome, accepted, refused, and_then}
use Rattle.format.specs.Frames.{Frame, earlier_then, encode, Legal, verdict}
use Rattle.format.specs.Faults as faults
use Rattle.format.proofs.verdict.Acceptance.{exactly}
use Rattle.format.proofs.verdict.RefusalLaws.{refusals, places}
use Rattle.format.proofs.verdict.WalkFaults.{refused_is, not_refused}
use Rattle.runs.specs.Assembly.{Assembler, give_up, open_after, Taken, linking, take, after}
use Rattle.runs.specs.Reasons.{Followed, Unlinking, Unstarted, Refused, of_frame, of_follower, of_link, Accepted}
use Rattle.runs.proofs.steps.LinkLaws.{tested, due}

-- what a step goes through
module _ (a : Assembler) (s : List ℕ) where
  of_verdict : (o : Outcome Frame) → verdict s ≡ o → take a s ≡ and_then o (λ f. linking a f (follower.follow a.follower f.sequence))
  unfolding take
  of_verdict o e = ap (λ (o : Outcome Frame). and_then o (λ f. linking a f (follower.follow a.follower f.sequence))) e

  of_follow : (f : Frame) → verdict s ≡ accepted f → (o : follower.Answer) → follower.follow a.follower f.sequence ≡ o → take a s ≡ linking a f o
  of_follow f v o e = of_verdict (accepted f) v ∙ ap (linking a f) e

module _ (a : Assembler) (s : List ℕ) (bytes : Bytes s) where
  -- the step, and the test of a frame that was followed
  abbrev then : Frame → ℕ → follower.State → Taken
  then f lost next = record { lost = lost; next = record { card = a.card; follower = next; event = open_after a.event (earlier_then [] f.items) } }

  alone : (h : Followed a s) → verdict s ≡ accepted h.frame
  alone h = (exactly s bytes h.frame).1 (h.legal, h.written)

  stepped : (h : Followed a s) → take a s ≡ pick (tested a h.lost h.frame h.legal) (accepted (then h.frame h.lost h.next)) (refused 15 0)
  stepped h = of_follow a s h.frame (alone h) (follower.accepted h.lost h.next) h.followed

  -- how a step goes
  data Goes : Type 0 where
    by_frame : (n p : ℕ) → verdict s ≡ refused n p → take a s ≡ refused n p → Goes
    by_follower : (f : Frame) (n p : ℕ) → Legal f → s ≡ encode f → follower.follow a.follower f.sequence ≡ follower.refused n p → take a s ≡ refused n p → Goes
    by_link : (h : Followed a s) → Goes

  goes : Goes
  goes = judged (verdict s) refl
    where
      sent : (f : Frame) → verdict s ≡ accepted f → (o : follower.Answer) → follower.follow a.follower f.sequence ≡ o → Goes
      sent f v (follower.refused n p) e = let (l, w) = (exactly s bytes f).0 v in by_follower f n p l w e (of_follow a s f v (follower.refused n p) e)
      sent f v (follower.accepted lost next) e =
          let (l, w) = (exactly s bytes f).0 v in
          by_link (record { frame = f; legal = l; written = w; lost = lost; next = next; followed = e })

      judged : (o : Outcome Frame) → verdict s ≡ o → Goes
      judged (accepted f) v = sent f v (follower.follow a.follower f.sequence) refl
      judged (refused n p) v = by_frame n p v (of_verdict a s (refused n p) v)

  -- ---- refused

  -- a legal frame's sequence word is refused by 14 alone
  by_14 : (f : Frame) → Legal f → s ≡ encode f → (n p : ℕ) → follower.Given a.follower f.sequence n p → (n ≡ 14) × (p ≡ 0) × Unstarted a s
  by_14 f l w n p g =
      let (i, j, k, h, m) = go a.follower f.sequence l.sequence n p g in
      (i, j, record { frame = f; legal = l; written = w; idle = k; least = h; most = m })
    where
      go : (st : follower.State) (w : ℕ) → w ≤ 0x0100 → (n p : ℕ) → follower.Given st w n p → (n ≡ 14) × (p ≡ 0) × (st ≡ follower.idle) × (1 ≤ w) × (w ≤ 255)
      go st w l n p (follower.sequence h) = absurd (omega arith)
      go st w l n p (follower.no_start h k) = (refl, refl, refl, omega arith, omega arith)

  start_due : (h : Unstarted a s) → follower.follow a.follower h.frame.sequence ≡ follower.refused 14 0
  start_due h = ap (λ (st : follower.State). follower.follow st h.frame.sequence) h.idle ∙ sequence.no_start h.frame.sequence h.least h.most

  refused_forth : (n p : ℕ) → take a s ≡ refused n p → Refused a s n p
  refused_forth n p e = go goes
    where
      link : (h : Followed a s) (b : Bool) → tested a h.lost h.frame h.legal ≡ b → pick b (accepted (then h.frame h.lost h.next)) (refused 15 0) ≡ refused n p → Refused a s n p
      link h true t i = not_refused _ n p i
      link h false t i =
          let (j, k) = refused_is 15 n 0 p i in
          subst (λ (n : ℕ). Refused a s n p) j (subst (Refused a s 15) k (of_link (record { followed = h; unlinked = (due a h.lost h.frame h.legal).0 t })))

      go : Goes → Refused a s n p
      go (by_frame m q v t) =
          let (j, k) = refused_is m n q p (sym t ∙ e) in
          of_frame n p ((refusals s bytes n p).0 (v ∙ ap₂ refused j k))
      go (by_follower f m q l w g t) =
          let (j, k) = refused_is m n q p (sym t ∙ e) in
          let (x, y, z) = by_14 f l w m q ((sequence.refusals a.follower f.sequence m q).0 g) in
          subst (λ (n : ℕ). Refused a s n p) (sym x ∙ j) (subst (Refused a s 14) (sym y ∙ k) (of_follower z))
      go (by_link h) = link h (tested a h.lost h.frame h.legal) refl (sym (stepped h) ∙ e)

  refused_back : (n p : ℕ) → Refused a s n p → take a s ≡ refused n p
  refused_back n p (of_frame m q r) = of_verdict a s (refused n p) ((refusals s bytes n p).1 r)
  refused_back n p (of_follower h) = of_follow a s h.frame ((exactly s bytes h.frame).1 (h.legal, h.written)) (follower.refused 14 0) (start_due h)
  refused_back n p (of_link u) =
      let h = u.followed in
      stepped h ∙ ap (λ (b : Bool). pick b (accepted (then h.frame h.lost h.next)) (refused 15 0)) ((due a h.lost h.frame h.legal).1 u.unlinked)

  pub refused_exactly : (n p : ℕ) → (take a s ≡ refused n p) ↔ Refused a s n p
  refused_exactly n p = (refused_forth n p, refused_back n p)

  -- ---- by its number

  frame_number : (n p : ℕ) → faults.Refused s n p → n ≤ 11
  frame_number n p r = (places s bytes n p ((refusals s bytes n p).1 r)).most

  of_frame_lem : (n p : ℕ) → n ≤ 11 → Refused a s n p → faults.Refused s n p
  of_frame_lem n p l (of_frame m q r) = r
  of_frame_lem n p l (of_follower h) = absurd (omega arith)
  of_frame_lem n p l (of_link u) = absurd (omega arith)

  of_14 : (n p : ℕ) → n ≡ 14 → Refused a s n p → (p ≡ 0) × Unstarted a s
  of_14 n p e (of_frame m q r) = absurd (omega (arith, frame_number n p r))
  of_14 n p e (of_follower h) = (refl, h)
  of_14 n p e (of_link u) = absurd (omega arith)

  of_15 : (n p : ℕ) → n ≡ 15 → Refused a s n p → (p ≡ 0) × Unlinking a s
  of_15 n p e (of_frame m q r) = absurd (omega (arith, frame_number n p r))
  of_15 n p e (of_follower h) = absurd (omega arith)
  of_15 n p e (of_link u) = (refl, u)

  pub frame_refusals : (n p : ℕ) → n ≤ 11 → (take a s ≡ refused n p) ↔ faults.Refused s n p
  frame_refusals n p l = (λ e. of_frame_lem n p l (refused_forth n p e), λ r. refused_back n p (of_frame n p r))

  pub start_refusals : (take a s ≡ refused 14 0) ↔ Unstarted a s
  start_refusals = (λ e. (of_14 14 0 refl (refused_forth 14 0 e)).1, λ h. refused_back 14 0 (of_follower h))

  pub link_refusals : (take a s ≡ refused 15 0) ↔ Unlinking a s
  link_refusals = (λ e. (of_15 15 0 refl (refused_forth 15 0 e)).1, λ u. refused_back 15 0 (of_link u))

  of_any : (n p : ℕ) → Refused a s n p → faults.Placed s n p ⊎ (((n ≡ 14) ⊎ (n ≡ 15)) × (p ≡ 0))
  of_any n p (of_frame m q r) = inl (places s bytes n p ((refusals s bytes n p).1 r))
  of_any n p (of_follower h) = inr (inl refl, refl)
  of_any n p (of_link u) = inr (inr refl, refl)

  pub numbers : (n p : ℕ) → take a s ≡ refused n p → faults.Placed s n p ⊎ (((n ≡ 14) ⊎ (n ≡ 15)) × (p ≡ 0))
  numbers n p e = of_any n p (refused_forth n p e)

  -- ---- accepted

  inner : (x y : Taken) → ◌≡◌ {A = Outcome Taken} (accepted x) (accepted y) → x ≡ y
  inner x y j = cc

  accepted_forth : (t : Taken) → take a s ≡ accepted t → Accepted a s t
  accepted_forth t e = go goes
    where
      link : (h : Followed a s) (b : Bool) → tested a h.lost h.frame h.legal ≡ b → pick b (accepted (then h.frame h.lost h.next)) (refused 15 0) ≡ accepted t → Accepted a s t
      link h false g i = not_refused t 15 0 (sym i)
      link h true g i =
          let w = sym (inner (then h.frame h.lost h.next) t i) in
          record {
            followed = h;
            linked = λ u. true≢false (sym g ∙ (due a h.lost h.frame h.legal).1 u);
            loss = ap (λ (t : Taken). t.lost) w;
            card = ap (λ (t : Taken). t.next.card) w;
            follower_then = ap (λ (t : Taken). t.next.follower) w;
            event = ap (λ (t : Taken). t.next.event) w;
          }

      go : Goes → Accepted a s t
      go (by_frame m q v g) = not_refused t m q (sym e ∙ g)
      go (by_follower f m q l w v g) = not_refused t m q (sym e ∙ g)
      go (by_link h) = link h (tested a h.lost h.frame h.legal) refl (sym (stepped h) ∙ e)

  accepted_back : (t : Taken) → Accepted a s t → take a s ≡ accepted t
  accepted_back t u = stepped h ∙ go (tested a h.lost h.frame h.legal) refl
    where
      h : Followed a s
      h = u.followed

      same : then h.frame h.lost h.next ≡ t
      same = λ i. record { lost = sym u.loss i; next = record { card = sym u.card i; follower = sym u.follower_then i; event = sym u.event i } }

      go : (b : Bool) → tested a h.lost h.frame h.legal ≡ b → pick b (accepted (then h.frame h.lost h.next)) (refused 15 0) ≡ accepted t
      go true g = ap accepted same
      go false g = absurd (u.linked ((due a h.lost h.frame h.legal).0 g))

  pub accepted_exactly : (t : Taken) → (take a s ≡ accepted t) ↔ Accepted a s t
  accepted_exactly t = (accepted_forth t, accepted_back t)

-- a refused frame leaves the assembler as it was, the follower too
pub refused_keeps : (a : Assembler) (s : List ℕ) (n p : ℕ) → take a s ≡ refused n p → after a (take a s) ≡ a
refused_keeps a s n p e = ap (after a) e

-- a frame that is taken is accepted alone
pub taken_alone : (a : Assembler) (s : List ℕ) (t : Taken) → take a s ≡ accepted t → (f : Frame) × (verdict s ≡ accepted f)
taken_alone a s t e = go (verdict s) refl
  where
    go : (o : Outcome Frame) → verdict s ≡ o → (f : Frame) × (verdict s ≡ accepted f)
    go (accepted f) v = (f, v)
    go (refused n p) v = not_refused t n p (sym e ∙ of_verdict a s (refused n p) v)

-- with the event given up, it is as if none had been open
pub given_up : (a b : Assembler) → b.card ≡ a.card → b.follower ≡ a.follower → b.event ≡ none → (s : List ℕ) → take (give_up a) s ≡ take b s
given_up a b c f e s = ap (λ (a : Assembler). take a s) (λ i. record { card = sym c i; follower = sym f i; event = sym e i })
