-- `records::restoring::restored_to` meets its contract.
-- Assumes nothing.
use mathlib.Core.Path.{refl, ap, ◌∙◌}
use Rattle.records.specs.Views.{view_record}
use Rattle.records.proofs.RecordLaws.{passed_on, framed_verdict, record_refused, restore_refused, kept_record, kept_refused, kept_left}
use Rattle.records.proofs.restoring.restored_to.Goals as goal

pub returns-in_err-history : goal.returns-in_err-history
returns-in_err-history c =
    let e = c.in_err-history.ensures in
    record { answered = ap view_record (passed_on _ _ c.from_residual.ensures.1) ∙ record_refused _ _ _ _ e; left = restore_refused _ _ _ _ _ _ (framed_verdict _ _ _ _ e) }

pub returns-in_err-keep : goal.returns-in_err-keep
returns-in_err-keep c =
    let h = c.in_ok-history.ensures in
    record { answered = ap view_record (passed_on _ _ c.from_residual-in_err-keep.ensures.1) ∙ kept_refused _ _ _ _ _ h _ _ _ _ c.in_err-keep.ensures _ refl; left = kept_left _ _ _ _ _ h _ _ _ _ c.in_err-keep.ensures }

pub returns : goal.returns
returns c =
    let h = c.in_ok-history.ensures in
    record { answered = kept_record _ _ _ _ _ h _ _ _ _ c.in_ok-keep.ensures refl; left = kept_left _ _ _ _ _ h _ _ _ _ c.in_ok-keep.ensures }
