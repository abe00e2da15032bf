-- `frame::repeats::past_hits` meets its contract: the Hit counts behind us took their turns.
-- Assumes nothing.
use Prim.Native.Nat.{ℕ, ◌-◌}
use mathlib.Core.Path.{◌≡◌, refl, sym, subst, ◌∙◌}
use native.Mathlib.Omega.{arith}
use Rattle.format.specs.Rules.{inside}
use Rattle.frame.specs.Repeats.{Turns}
use Rattle.frame.proofs.Repeating.{none_from, hit_more}
use Rattle.frame.proofs.repeats.past_hits.Goals as goal

pub loop-i-init : goal.loop-i-init
loop-i-init c = (omega arith, omega arith, omega arith, λ last key next marks h. none_from _ _ last _ inside key next marks _ _ (omega arith) refl)

pub returns-then-w-lt-HIT_COUNT : goal.returns-then-w-lt-HIT_COUNT
returns-then-w-lt-HIT_COUNT c = let v = c.loop-i.invariant in (v.0, v.1, v.3)

pub loop-i-preserved : goal.loop-i-preserved
loop-i-preserved c =
    let v = c.loop-i.invariant in
    (omega arith, omega arith, v.2, λ last key next marks h. hit_more _ _ last _ key marks next _ _ _ v.0 (omega arith) c.word-w.ensures c.if-w-lt-HIT_COUNT.false c.if-w-ge-HISTOGRAM.false c.of_word.ensures (sym c.if-not-valid.false ∙ c.valid.ensures) (v.3 last key next marks h))

pub returns : goal.returns
returns c =
    let a = c.args in
    let v = c.loop-i.invariant in
    let e : c.loop-i.i ≡ a.stop = omega arith in (
      omega arith,
      omega arith,
      λ last key next marks h. subst (λ (j : ℕ). Turns a.card a.s.now last (j - a.at) inside key next marks a.at next j) e (v.3 last key next marks h),
    )
