-- `frame::walk::start_at` meets its contract.
-- Assumes nothing.
use mathlib.Core.Path.{refl}
use native.Mathlib.Omega.{arith}
use Rattle.format.specs.Book.{start_event}
use Rattle.frame.proofs.Steps.{cut_step, start_step}
use Rattle.frame.proofs.walk.start_at.Goals as goal

pub returns-then-last-at : goal.returns-then-last-at
returns-then-last-at c = λ k. let a = c.args.here in cut_step k a.s.now a.last a.at a.w _ a.told a.whole start_event 5 c.requires refl refl a.before (omega arith)

pub returns : goal.returns
returns c = λ k. let a = c.args.here in start_step k a.s.now a.last a.at a.w _ a.told a.whole _ _ _ _ c.requires (omega arith) c.of_word.ensures c.time-timestamp.ensures c.long-number.ensures c.start_event.ensures
