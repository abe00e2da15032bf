-- T40: what an answer says on paper fixes the answer, since each view is injective. So each promise has one answer (Once.antt).
-- Assumes nothing.
use mathlib.Core.Path.{◌≡◌, ap}
use Rattle.std.specs.Prelude.{Result}
use Rattle.format.specs.Steps as steps
use Rattle.format.specs.Steps.{Summary, Overview}
use Rattle.format.specs.Questions.{IndexedShown}
use Rattle.book.specs.declared.refusal.Refusal.{Refusal}
use Rattle.book.proofs.Unique.{undone, same_item, same_result}
use Rattle.rules.proofs.Unique.{kind_back, kind_back_lem, state_back, state_back_lem}
use Rattle.frame.specs.declared.walk.Summary as declared
use Rattle.frame.specs.declared.reading.Frame.{Frame}
use Rattle.frame.specs.declared.reading.Indexed.{Indexed}
use Rattle.frame.specs.declared.items.IndexedItem.{IndexedItem}
use Rattle.frame.specs.Views.{view_summary, view_walk, view_frame, view_reading, view_judged, view_indexed, view_indexed_item, view_found}

abbrev frame_back : Overview → Frame
frame_back f = record { kind = kind_back f.kind; card = f.card; sequence = f.sequence; items = f.items; state = state_back f.state }

frame_back_lem : (r : Frame) → frame_back (view_frame r) ≡ r
frame_back_lem r = λ i. record { kind = kind_back_lem r.kind i; card = r.card; sequence = r.sequence; items = r.items; state = state_back_lem r.state i }

pub same_frame : (r q : Frame) → view_frame r ≡ view_frame q → r ≡ q
same_frame = undone view_frame frame_back frame_back_lem

pub same_reading : (r q : Result Frame Refusal) → view_reading r ≡ view_reading q → r ≡ q
same_reading = same_result view_frame same_frame

same_judged : (r q : Indexed) → view_judged r ≡ view_judged q → r ≡ q
same_judged r q e =
    let a = same_frame r.frame q.frame (ap (λ (x : steps.Indexed). x.frame) e) in
    let b : r.index ≡ q.index = ap (λ (x : steps.Indexed). x.index) e in
    λ i. record { frame = a i; index = b i }

pub same_indexed : (r q : Result Indexed Refusal) → view_indexed r ≡ view_indexed q → r ≡ q
same_indexed = same_result view_judged same_judged

abbrev summary_back : Summary → declared.Summary
summary_back x = record { count = x.count; index = x.index; state = state_back x.state }

summary_back_lem : (r : declared.Summary) → summary_back (view_summary r) ≡ r
summary_back_lem r = λ i. record { count = r.count; index = r.index; state = state_back_lem r.state i }

pub same_walk : (r q : Result declared.Summary Refusal) → view_walk r ≡ view_walk q → r ≡ q
same_walk = same_result view_summary (undone view_summary summary_back summary_back_lem)

same_indexed_item : (r q : IndexedItem) → view_indexed_item r ≡ view_indexed_item q → r ≡ q
same_indexed_item r q e =
    let a : r.index ≡ q.index = ap (λ (x : IndexedShown). x.index) e in
    let b = same_item r.item q.item (ap (λ (x : IndexedShown). x.item) e) in
    let c : r.next ≡ q.next = ap (λ (x : IndexedShown). x.next) e in
    λ i. record { index = a i; item = b i; next = c i }

pub same_found : (r q : Result IndexedItem Refusal) → view_found r ≡ view_found q → r ≡ q
same_found = same_result view_indexed_item same_indexed_item
