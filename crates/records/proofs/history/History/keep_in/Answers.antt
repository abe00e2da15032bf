-- `records::history::History::keep_in` meets its contract.
-- Assumes nothing.
use mathlib.Core.Path.{◌≡◌, refl, sym, ◌∙◌}
use mathlib.Core.Bool.{true, ◌&&◌}
use lib.Dec.{leb}
use lib.ListN.{length, drop}
use lib.Seq.{length-take-le}
use Rattle.records.proofs.RecordLaws.{passed_on}
use Rattle.records.proofs.UndoLaws.{part_kept, kept_written, kept_none, kept_refused}
use Rattle.records.proofs.history.History.keep_in.Goals as goal

pub slice_bounds-unwind_to-end-2 : goal.slice_bounds-unwind_to-end-2
slice_bounds-unwind_to-end-2 c = sym (length-take-le _ _ c.requires.0)

pub slice_bounds-unwind_to-end-4 : goal.slice_bounds-unwind_to-end-4
slice_bounds-unwind_to-end-4 c = sym (length-take-le _ _ c.requires.1)

pub unwind_to-requires : goal.unwind_to-requires
unwind_to-requires c = let p = c.requires in (record { copy = length-take-le _ _ p.0; long = p.2; zeros = p.3 }, length-take-le _ _ p.1)

pub slice_bounds-copy-end-then-k-self : goal.slice_bounds-copy-end-then-k-self
slice_bounds-copy-end-then-k-self c =
    sym (length-take-le _ _ (part_kept c.unwind_to.new.kept (drop (length c.args.self.frame.now) c.args.kept.now) _ (c.unwind_to.auto.kept ∙ length-take-le _ _ c.requires.1)))

pub returns-in_err-unwind_to : goal.returns-in_err-unwind_to
returns-in_err-unwind_to c = kept_refused _ _ _ _ _ _ _ c.in_err-unwind_to.ensures.0 _ (passed_on _ _ c.from_residual.ensures.1)

pub returns-then-k-self : goal.returns-then-k-self
returns-then-k-self c =
    let t : (leb c.args.k c.args.self.lengths.count && leb (length c.args.self.frame.now) (length c.args.out.now)) ≡ true = c.if-k-self.true in
    kept_written _ _ _ _ _ _ c.in_ok-unwind_to.ensures.0 _ _ _ t (c.unwind_to.auto.kept ∙ length-take-le _ _ c.requires.1) (c.in_ok-unwind_to.ensures.1 refl) c.copy.ensures

pub returns-else-k-self : goal.returns-else-k-self
returns-else-k-self c = kept_none _ _ _ _ _ _ c.in_ok-unwind_to.ensures.0 c.if-k-self.false
