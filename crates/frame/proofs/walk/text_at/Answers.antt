-- `frame::walk::text_at` meets its contract.
-- Assumes nothing.
use mathlib.Core.Path.{refl, sym}
use native.Mathlib.Omega.{arith}
use Rattle.format.specs.Book.{text}
use Rattle.frame.proofs.Steps.{cut_step, text_step}
use Rattle.frame.proofs.walk.text_at.Goals as goal

pub returns-then-last-next : goal.returns-then-last-next
returns-then-last-next c = λ k. let a = c.args.here in cut_step k a.s.now a.last a.at a.w _ a.told a.whole text _ c.requires refl (sym c.text_words-more.ensures) a.before (omega arith)

pub returns : goal.returns
returns c = λ k.
    let a = c.args.here in
    text_step k a.s.now a.last a.at a.w _ a.told a.whole a.bytes _ _ _ c.requires c.text_words-more.ensures (omega arith) c.is_closed-closed.ensures c.text.ensures
