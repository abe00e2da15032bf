-- `frame::walk::continue_at` meets its contract.
-- Assumes nothing.
use mathlib.Core.Path.{refl}
use native.Mathlib.Omega.{arith}
use Rattle.format.specs.Book.{continue_event}
use Rattle.frame.proofs.Steps.{cut_step, continue_event_step}
use Rattle.frame.proofs.walk.continue_at.Goals as goal

pub returns-then-last-at : goal.returns-then-last-at
returns-then-last-at c = λ k. let a = c.args.here in cut_step k a.s.now a.last a.at a.w _ a.told a.whole continue_event 2 c.requires refl refl a.before (omega arith)

pub returns : goal.returns
returns c = λ k. let a = c.args.here in continue_event_step k a.s.now a.last a.at a.w _ a.told a.whole _ _ a.bytes c.requires (omega arith) c.low_bits.ensures c.continue_event.ensures
