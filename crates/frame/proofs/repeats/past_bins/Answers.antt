-- `frame::repeats::past_bins` meets its contract: the Bins behind us took their turns.
-- Assumes nothing.
use mathlib.Core.Path.{refl}
use native.Mathlib.Omega.{arith}
use Rattle.format.specs.Rules.{headed}
use Rattle.frame.proofs.Repeating.{bin_past, bin_left, none_from, bin_more}
use Rattle.frame.proofs.repeats.past_bins.Goals as goal

pub loop-i-init : goal.loop-i-init
loop-i-init c = (omega arith, omega arith, omega arith, omega arith, omega arith, omega arith, omega arith, λ card last key marks h b. none_from card _ last _ headed key _ marks _ _ (omega arith) refl)

pub returns-then-w-latest : goal.returns-then-w-latest
returns-then-w-latest c = let v = c.loop-i.invariant in (v.0, v.1, v.5, v.6, v.7)

pub loop-i-preserved : goal.loop-i-preserved
loop-i-preserved c =
    let v = c.loop-i.invariant in
    let l = bin_left _ _ c.loop-i-test.true v.3 in (
      omega arith,
      l.0,
      bin_past _ _ v.0 v.2,
      l.1,
      v.4,
      omega arith,
      omega arith,
      λ card last key marks h b.
          bin_more card _ last _ key marks b _ _ _ _ _ v.0 v.2 (omega (arith, l.0)) c.word-w.ensures v.5 c.if-w-latest.false c.if-w.false c.long.ensures
          c.if-long-lt-LEAST_COUNT.false (omega arith) (v.7 card last key marks h b),
    )

pub returns : goal.returns
returns c = let v = c.loop-i.invariant in (v.0, v.1, v.5, v.6, v.7)
