-- `frame::repeats::past_samples` meets its contract: the pairs behind us took their turns, and one Sample more may.
-- Assumes nothing.
use mathlib.Core.Path.{refl}
use native.Mathlib.Omega.{arith}
use Rattle.frame.proofs.Repeating.{sample_more}
use Rattle.frame.proofs.repeats.past_samples.Goals as goal

pub returns-then-stop-end : goal.returns-then-stop-end
returns-then-stop-end c = c.past_pairs-end.ensures

pub returns-else-w-ge-SAMPLE : goal.returns-else-w-ge-SAMPLE
returns-else-w-ge-SAMPLE c = c.past_pairs-end.ensures

pub returns-then-w-lt-HIT_COUNT : goal.returns-then-w-lt-HIT_COUNT
returns-then-w-lt-HIT_COUNT c =
    let e = c.past_pairs-end.ensures in (
      omega arith,
      omega arith,
      λ card last key next marks h b.
          let m = b (omega arith) in
          sample_more card _ last _ key marks next _ _ _ e.0 (omega arith) c.word-w.ensures c.if-w-ge-SAMPLE.true c.if-w-lt-HIT_COUNT.true (omega (arith, m)) refl (e.2 card last key next marks h b),
    )
