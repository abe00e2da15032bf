-- `frame::repeats::past_pairs` meets its contract: the Samples behind us took their turns.
-- Assumes nothing.
use Prim.Native.Nat.{◌+◌, ◌*◌}
use mathlib.Core.Path.{sym, ◌∙◌}
use native.Mathlib.Omega.{arith}
use Rattle.format.specs.Rules.{after_sample}
use Rattle.frame.proofs.Repeating.{none_from, pair_more}
use Rattle.frame.proofs.repeats.past_pairs.Goals as goal

pub loop-i-init : goal.loop-i-init
loop-i-init c = (omega arith, omega arith, omega arith, λ card last key next marks h b. none_from card _ last _ after_sample key next marks _ _ (omega arith) (omega arith))

pub loop-i-preserved : goal.loop-i-preserved
loop-i-preserved c =
    let v = c.loop-i.invariant in (
      omega arith,
      omega arith,
      v.2,
      λ card last key next marks h b.
          let m = b (omega arith) in
          pair_more card _ last _ key marks next _ (c.word-low.result + 65536 * c.word-high.result) v.0 (omega arith) (omega arith) (λ i. (c.type_inv.s i).fits) (sym c.two_samples.ensures ∙ c.if-two_samples.true) (omega (arith, m)) (v.3 card last key next marks h b),
    )

pub returns-else-two_samples : goal.returns-else-two_samples
returns-else-two_samples c = let v = c.loop-i.invariant in (v.0, v.1, v.3)

pub returns : goal.returns
returns c = let v = c.loop-i.invariant in (v.0, v.1, v.3)
