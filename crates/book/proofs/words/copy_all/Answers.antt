-- `book::words::copy_all` meets its contract. The loop keeps: what is left to store, stored, gives what the whole stored gives.
-- Assumes nothing.
use mathlib.Core.Path.{refl}
use native.Mathlib.Numerals.{add-one}
use lib.ListN.{length-set, drop_of_length-le}
use lib.Seq.{drop-cons}
use Rattle.book.proofs.words.copy_all.Goals as goal

pub loop-i-init : goal.loop-i-init
loop-i-init c = (refl, refl)

pub loop-i-preserved : goal.loop-i-preserved
loop-i-preserved c = (simp length-set c.loop-i.invariant.0, rw add-one (rw (drop-cons c.args.src.now c.loop-i.i 0 c.loop-i-test.true) at c.loop-i.invariant.1))

pub returns : goal.returns
returns c = rw (drop_of_length-le c.args.src.now c.loop-i-test.false) at c.loop-i.invariant.1
