-- T33, T34. What the samples and counts questions leave in lent words: a refusal leaves all as found, and no answer touches a word beyond 512, or
-- beyond 4,096.
-- Assumes nothing.
use Prim.Native.Nat.{ℕ, ◌≤◌}
use mathlib.Core.Path.{◌≡◌, refl, sym, ap, ◌∙◌}
use mathlib.Core.List.{List}
use mathlib.Core.Bool.{Bool, true, false}
use native.Mathlib.Omega.{arith}
use lib.Dec.{leb}
use lib.ListN.{length, get_or}
use borrow.Author.Tests.{leb-true, leb-false}
use Rattle.format.specs.Words.{Bytes}
use Rattle.format.specs.Answers.{Outcome, accepted, refused, Done}
use Rattle.format.specs.Items.{Item}
use Rattle.format.specs.Frames.{Frame, verdict}
use Rattle.format.specs.Questions.{done, samples_at, counts_at, samples_left, counts_left, Sampled, Counted}
use Rattle.format.proofs.front.Questions.{samples_refused, samples_kept, samples_room, samples_exactly, samples_left_lem, counts_refused, counts_kept, counts_room, counts_exactly, counts_left_lem}

no_list : {A : Type 0} (n p : ℕ) (ys : List Item) → ◌≡◌ {A = Outcome (List Item)} (refused n p) (accepted ys) → A
no_list n p ys e = let z : ◌≡◌ {A = ℕ} 0 1 = cc in absurd (omega arith)

-- an answer that refuses is the question's refusal
refuses : (o : Outcome (List Item)) (n p : ℕ) → refused n p ≡ done o → o ≡ refused n p
refuses (accepted xs) n p e = let z : ◌≡◌ {A = ℕ} 0 1 = cc in absurd (omega arith)
refuses (refused m q) n p e = sym (inner n p m q e)
  where
    inner : (n p m q : ℕ) → ◌≡◌ {A = Done} (refused n p) (refused m q) → ◌≡◌ {A = Outcome (List Item)} (refused n p) (refused m q)
    inner n p m q f = cc

-- ---- T33

pub samples_as_found : (s : List ℕ) (e chip c n p : ℕ) (found left : List ℕ) → Sampled s e chip c found (refused n p) left → left ≡ found
samples_as_found s e chip c n p found left h = h.filled ∙ samples_kept s e chip c n p found (refuses _ n p h.answered)

pub counts_as_found : (s : List ℕ) (chip c n p : ℕ) (found left : List ℕ) → Counted s chip c found (refused n p) left → left ≡ found
counts_as_found s chip c n p found left h = h.filled ∙ counts_kept s chip c n p found (refuses _ n p h.answered)

-- ---- T34

module _ (s : List ℕ) (bs : Bytes s) (e chip c : ℕ) (found left : List ℕ) (answer : Done) (h : Sampled s e chip c found answer left) (i : ℕ) (l : 512 ≤ i) where
  pub samples_untouched : get_or left i 0 ≡ get_or found i 0
  samples_untouched = ap (λ (m : List ℕ). get_or m i 0) h.filled ∙ go (samples_at s e chip c (length found)) refl
    where
      framed : (ys : List Item) → samples_at s e chip c (length found) ≡ accepted ys → (v : Outcome Frame) → verdict s ≡ v → (b : Bool) → leb 512 (length found) ≡ b
          → get_or (samples_left (samples_at s e chip c (length found)) found) i 0 ≡ get_or found i 0
      framed ys q (refused n p) v b f = no_list n p ys (sym (samples_refused s n p v e chip c (length found)) ∙ q)
      framed ys q (accepted g) v false f = no_list 12 0 ys (sym (samples_room s bs g v e chip c (length found) (leb-false _ _ f)) ∙ q)
      framed ys q (accepted g) v true f =
          let r = leb-true 512 (length found) f in
          (samples_left_lem s bs g v e chip c ys ((samples_exactly s bs g v e chip c (length found) r ys).0 q) found r).beyond i l

      go : (o : Outcome (List Item)) → samples_at s e chip c (length found) ≡ o → get_or (samples_left (samples_at s e chip c (length found)) found) i 0 ≡ get_or found i 0
      go (accepted ys) q = framed ys q (verdict s) refl (leb 512 (length found)) refl
      go (refused n p) q = ap (λ (m : List ℕ). get_or m i 0) (samples_kept s e chip c n p found q)

module _ (s : List ℕ) (bs : Bytes s) (chip c : ℕ) (found left : List ℕ) (answer : Done) (h : Counted s chip c found answer left) (i : ℕ) (l : 4096 ≤ i) where
  pub counts_untouched : get_or left i 0 ≡ get_or found i 0
  counts_untouched = ap (λ (m : List ℕ). get_or m i 0) h.filled ∙ go (counts_at s chip c (length found)) refl
    where
      framed : (ys : List Item) → counts_at s chip c (length found) ≡ accepted ys → (v : Outcome Frame) → verdict s ≡ v → (b : Bool) → leb 4096 (length found) ≡ b
          → get_or (counts_left (counts_at s chip c (length found)) found) i 0 ≡ get_or found i 0
      framed ys q (refused n p) v b f = no_list n p ys (sym (counts_refused s n p v chip c (length found)) ∙ q)
      framed ys q (accepted g) v false f = no_list 12 0 ys (sym (counts_room s bs g v chip c (length found) (leb-false _ _ f)) ∙ q)
      framed ys q (accepted g) v true f =
          let r = leb-true 4096 (length found) f in
          (counts_left_lem s bs g v chip c ys ((counts_exactly s bs g v chip c (length found) r ys).0 q) found r).beyond i l

      go : (o : Outcome (List Item)) → counts_at s chip c (length found) ≡ o → get_or (counts_left (counts_at s chip c (length found)) found) i 0 ≡ get_or found i 0
      go (accepted ys) q = framed ys q (verdict s) refl (leb 4096 (length found)) refl
      go (refused n p) q = ap (λ (m : List ℕ). get_or m i 0) (counts_kept s chip c n p found q)
