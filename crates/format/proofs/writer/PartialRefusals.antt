-- T15. The verdict on the first bytes of a buffer as a partial frame, every answer with exactly what it says: acceptance, the first of rules 1 to 4
-- that is broken, or the first faulty item.
-- Assumes nothing.
use Prim.Native.Nat.{ℕ, ◌*◌, ◌/◌, ◌≤◌}
use mathlib.Core.Path.{◌≡◌, refl, sym, ap, subst, ◌∙◌}
use mathlib.Core.List.{List, []}
use mathlib.Core.Logic.{◌↔◌}
use mathlib.Core.Bool.{Bool, true, false}
use native.Mathlib.Omega.{arith}
use lib.Dec.{leb, eqb}
use lib.ListN.{length, take, drop}
use borrow.Author.Tests.{leb-true, leb-false, le-leb, lt-leb, eqb-true, eqb-false, eq-eqb, ne_eqb}
use Rattle.format.specs.Words.{pick, Bytes, words, word_at}
use Rattle.format.specs.Answers.{Outcome, accepted, refused, and_then}
use Rattle.format.specs.Items.{Item, tokens}
use Rattle.format.specs.Frames.{start_fits, kind_in, card_in, walk}
use Rattle.format.specs.Faults.{FirstFaulty}
use Rattle.format.specs.Writing.{Partial, partial_fault, partial_body, partial_of, partial_judged, partial_verdict}
use Rattle.format.specs.WriterCases.{partial_length, PartialHead, PartialAnswer, stands, wrong_length, wrong_kind, wrong_size, wrong_sequence, faulty}
use Rattle.format.proofs.items.PartLaws.{take_words}
use Rattle.format.proofs.verdict.FaultLaws.{up_to}
use Rattle.format.proofs.verdict.WalkFaults.{walk_refused, walk_refuses}
use Rattle.format.proofs.writer.PartialLaws.{measured_of, partial_walked, partial_complete}

module _ (buf : List ℕ) (n : ℕ) where
  -- the words of the first n bytes are those before word n / 2
  enough : PartialHead buf n → 2 * (n / 2) ≤ length buf
  enough h = omega (arith, (measured_of buf n h.measured).inside)

  same_walk : PartialHead buf n → walk (kind_in buf) (card_in buf) [] 3 (tokens 0 (drop 3 (up_to buf (n / 2)))) ≡ walk (kind_in buf) (card_in buf) [] 3 (partial_body buf n)
  same_walk h =
      let even = (measured_of buf n h.measured).even in
      let d : 2 * (n / 2) ≡ n = omega arith in
      ap (λ (ws : List ℕ). walk (kind_in buf) (card_in buf) [] 3 (tokens 0 (drop 3 ws))) (take_words (n / 2) buf ∙ ap (λ (k : ℕ). words (take k buf)) d)

  judged_is : Bytes buf → PartialHead buf n → PartialAnswer buf n (partial_judged buf n)
  unfolding partial_judged
  judged_is bs h = go (walk (kind_in buf) (card_in buf) [] 3 (partial_body buf n)) refl
    where
      go : (o : Outcome (List Item)) → walk (kind_in buf) (card_in buf) [] 3 (partial_body buf n) ≡ o → PartialAnswer buf n (and_then o (partial_of buf))
      go (accepted q) w = let (xs, b) = partial_walked buf bs n q h w in stands _ xs b
      go (refused k q) w =
          faulty k q h (walk_refused buf bs (n / 2) (enough h) k q (same_walk h ∙ w))

  partial_is : Bytes buf → PartialAnswer buf n (partial_verdict buf n)
  unfolding partial_verdict partial_fault
  partial_is bs = go (partial_length buf n) refl (start_fits (word_at buf 0)) refl (eqb (word_at buf 1) 0) refl (leb (word_at buf 2) 0x0100) refl
    where
      go : (a : Bool) → partial_length buf n ≡ a → (b : Bool) → start_fits (word_at buf 0) ≡ b → (c : Bool) → eqb (word_at buf 1) 0 ≡ c → (d : Bool) → leb (word_at buf 2) 0x0100 ≡ d
          → PartialAnswer buf n (pick (eqb (pick a (pick b (pick c (pick d 0 4) 3) 2) 1) 0) (partial_judged buf n) (refused (pick a (pick b (pick c (pick d 0 4) 3) 2) 1) 0))
      go true a true b true c true d = judged_is bs (record { measured = a; started = b; sized = eqb-true _ _ c; sequence = leb-true _ _ d })
      go true a true b true c false d = wrong_sequence a b (eqb-true _ _ c) (leb-false _ _ d)
      go true a true b false c d e = wrong_size a b (eqb-false _ _ c)
      go true a false b c d e f = wrong_kind a b
      go false a b c d e f g = wrong_length a

  refuses : Bytes buf → (k q : ℕ) → PartialHead buf n → FirstFaulty buf (n / 2) k q → partial_judged buf n ≡ refused k q
  unfolding partial_judged
  refuses bs k q h f = ap (λ (o : Outcome (List Item)). and_then o (partial_of buf)) (sym (same_walk h) ∙ walk_refuses buf bs (n / 2) (enough h) k q f)

  partial_only : Bytes buf → (o : Outcome Partial) → PartialAnswer buf n o → partial_verdict buf n ≡ o
  unfolding partial_verdict partial_fault
  partial_only bs o (stands f xs b) = partial_complete buf n f xs b
  partial_only bs o (wrong_length a) = rw a
  partial_only bs o (wrong_kind a b) = rw (a, b)
  partial_only bs o (wrong_size a b c) = rw (a, b, ne_eqb (word_at buf 1) 0 c)
  partial_only bs o (wrong_sequence a b c d) = rw (a, b, eq-eqb (word_at buf 1) 0 c, lt-leb (word_at buf 2) 0x0100 d)
  partial_only bs o (faulty k q h f) = rw (h.measured, h.started, eq-eqb (word_at buf 1) 0 h.sized, le-leb (word_at buf 2) 0x0100 h.sequence) (refuses bs k q h f)

-- T15
pub partial_exactly : (buf : List ℕ) → Bytes buf → (n : ℕ) (o : Outcome Partial) → (partial_verdict buf n ≡ o) ↔ PartialAnswer buf n o
partial_exactly buf bs n o = (λ e. subst (PartialAnswer buf n) e (partial_is buf n bs), partial_only buf n bs o)
