-- `writer::stores::piece_size` meets its contract.
-- Assumes nothing.
use mathlib.Core.Path.{refl}
use native.Mathlib.Omega.{arith}
use Rattle.format.specs.Words.{bytes}
use Rattle.writer.proofs.stores.piece_size.Goals as goal

pub returns-in-Word : goal.returns-in-Word
unfolding bytes
returns-in-Word c = rw c.in-Word.is (refl, omega arith)

pub returns-in-Long : goal.returns-in-Long
unfolding bytes
returns-in-Long c = rw c.in-Long.is (refl, omega arith)

pub returns-in-Event : goal.returns-in-Event
unfolding bytes
returns-in-Event c = rw c.in-Event.is (refl, omega arith)
