-- From the walk to the verdict on a partial frame, for src/partial.rt.
-- Assumes nothing.
use Prim.Native.Nat.{ℕ, ◌/◌}
use mathlib.Core.Path.{◌≡◌, sym, ap, ◌∙◌}
use mathlib.Core.List.{List}
use Rattle.format.specs.Words.{word_at}
use Rattle.format.specs.Answers.{Outcome, accepted, refused, and_then}
use Rattle.format.specs.Rules.{Kind}
use Rattle.format.specs.Frames.{kind_in, card_in}
use Rattle.format.specs.Steps.{Summary, summed}
use Rattle.format.specs.Writing.{partial_fault}
use Rattle.format.specs.PartialSteps.{PartialOverview, partial_read_of}
use Rattle.format.proofs.reader.PartialJudging.{partial_summed}

module _ (buf : List ℕ) (n : ℕ) (e : 0 ≡ partial_fault buf n) (kind : Kind) (card : ℕ) (k : kind ≡ kind_in buf) (c : card ≡ card_in buf)
    (o : Outcome Summary) (f : o ≡ summed kind card buf (n / 2) 0) where
  abbrev overview_of : Summary → Outcome PartialOverview
  overview_of x = accepted (record { kind = kind_in buf; card = card_in buf; sequence = word_at buf 2; state = x.state })

  here : and_then o overview_of ≡ partial_read_of buf n
  here =
      let g : o ≡ summed (kind_in buf) (card_in buf) buf (n / 2) 0 = f ∙ (rw (k, c)) in
      ap (λ (p : Outcome Summary). and_then p overview_of) g ∙ partial_summed buf n e 0

  pub stopped : (j p : ℕ) → o ≡ refused j p → refused j p ≡ partial_read_of buf n
  stopped j p g = ap (λ (p : Outcome Summary). and_then p overview_of) (sym g) ∙ here

  pub ended : (x : Summary) (q : ℕ) → o ≡ accepted x → q ≡ word_at buf 2
      → accepted (record { kind = kind; card = card; sequence = q; state = x.state }) ≡ partial_read_of buf n
  ended x q g w = rw (k, c, w) (ap (λ (p : Outcome Summary). and_then p overview_of) (sym g) ∙ here)
