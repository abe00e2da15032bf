-- `listing::pieces::Lines::entry_lines` meets its contract.
-- Assumes nothing.
use native.Mathlib.Omega.{arith}
use Rattle.ledger.specs.Versions.{format_for}
use Rattle.listing.proofs.Listings.{upper, none_put, more_put, all_put}
use Rattle.listing.proofs.pieces.Lines.entry_lines.Goals as goal

pub loop-j-init : goal.loop-j-init
loop-j-init c = record { begins = omega (arith, c.requires.1); stands = none_put _ _ _ }

pub slice_bounds-entry_line-count : goal.slice_bounds-entry_line-count
slice_bounds-entry_line-count c = omega (arith, (upper (format_for c.args.version) c.args.buf.now _ _ _ _ _ c.loop-j-test.true c.loop-j.invariant.begins c.requires.1 c.requires.2 c.entry_size-size.ensures).inside)

pub slice_bounds-entry_line-start : goal.slice_bounds-entry_line-start
slice_bounds-entry_line-start c = omega (arith, (upper (format_for c.args.version) c.args.buf.now _ _ _ _ _ c.loop-j-test.true c.loop-j.invariant.begins c.requires.1 c.requires.2 c.entry_size-size.ensures).inside)

pub slice_bounds-entry_line-end : goal.slice_bounds-entry_line-end
slice_bounds-entry_line-end c = omega (arith, (upper (format_for c.args.version) c.args.buf.now _ _ _ _ _ c.loop-j-test.true c.loop-j.invariant.begins c.requires.1 c.requires.2 c.entry_size-size.ensures).inside)

pub entry_line-requires : goal.entry_line-requires
entry_line-requires c = omega arith

pub overflow_add-from : goal.overflow_add-from
overflow_add-from c = omega (arith, (upper (format_for c.args.version) c.args.buf.now _ _ _ _ _ c.loop-j-test.true c.loop-j.invariant.begins c.requires.1 c.requires.2 c.entry_size-size.ensures).inside)

pub loop-j-preserved : goal.loop-j-preserved
loop-j-preserved c =
    let i = c.loop-j.invariant in
    let u = upper (format_for c.args.version) c.args.buf.now _ _ _ _ _ c.loop-j-test.true c.loop-j.invariant.begins c.requires.1 c.requires.2 c.entry_size-size.ensures in
    record {
      begins = u.begins;
      stands = more_put _ _ _ _ c.requires.0 i.begins (omega (arith, u.inside)) i.stands c.entry_line.ensures;
    }

pub returns : goal.returns
returns c = all_put _ _ _ (omega arith) c.loop-j.invariant.stands
