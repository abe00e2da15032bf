-- `records::entries::stamp_in` meets its contract.
-- Assumes nothing.
use native.Mathlib.Omega.{arith}
use Rattle.records.proofs.RecordLaws.{nothing_kept, stamp_kept, size_two}
use Rattle.records.proofs.entries.stamp_in.Goals as goal

pub returns-then-version-eq-FIRST_VERSION : goal.returns-then-version-eq-FIRST_VERSION
returns-then-version-eq-FIRST_VERSION c = nothing_kept c.args.s.now _ c.if-version-eq-FIRST_VERSION.true

pub long_in-low-requires : goal.long_in-low-requires
long_in-low-requires c = omega (arith, size_two _ c.if-version-eq-FIRST_VERSION.false, c.requires)

pub word_in-high-requires : goal.word_in-high-requires
word_in-high-requires c = omega (arith, size_two _ c.if-version-eq-FIRST_VERSION.false, c.requires)

pub word_in-desk-requires : goal.word_in-desk-requires
word_in-desk-requires c = omega (arith, size_two _ c.if-version-eq-FIRST_VERSION.false, c.requires)

pub returns : goal.returns
returns c =
    stamp_kept c.args.s.now _ _ _ _ _ c.if-version-eq-FIRST_VERSION.false c.long_in-low.ensures c.word_in-high.ensures c.word_in-desk.ensures c.joined.ensures
