-- `records::history::History::judge_in` meets its contract.
-- Assumes nothing.
use mathlib.Core.Path.{sym, ap, ◌∙◌}
use lib.Seq.{length-take-le}
use Rattle.records.specs.Views.{view_judged}
use Rattle.records.proofs.RecordLaws.{passed_on, told_accepted, told_refused}
use Rattle.records.proofs.history.History.judge_in.Goals as goal

pub slice_bounds-unwind-end-2 : goal.slice_bounds-unwind-end-2
slice_bounds-unwind-end-2 c = sym (length-take-le _ _ c.requires.0)

pub unwind-requires : goal.unwind-requires
unwind-requires c = let p = c.requires in record { copy = length-take-le _ _ p.0; long = p.1; zeros = p.2 }

pub returns-in_err-unwind : goal.returns-in_err-unwind
returns-in_err-unwind c =
    ap view_judged (passed_on _ _ c.from_residual.ensures.1) ∙ told_refused _ _ _ _ _ _ _ c.in_err-unwind.ensures.0

pub returns : goal.returns
returns c = told_accepted _ _ _ _ _ c.in_ok-unwind.ensures.0 _ c.spot_noted-spot.ensures
