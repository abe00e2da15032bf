-- What the answers of this crate say in document 01.
-- Assumes nothing.
use Rattle.std.specs.Prelude.{ℕ, List, Result, Ok, Err}
use Rattle.format.specs.Words.{pick, word_at}
use Rattle.format.specs.Rules as rules
use Rattle.format.specs.Answers.{Outcome, accepted, refused}
use Rattle.format.specs.Steps as steps
use Rattle.format.specs.Steps.{ended_by, Summary, Overview}
use Rattle.format.specs.Questions.{IndexedShown}
use Rattle.book.specs.declared.refusal.Fault.{Fault}
use Rattle.book.specs.declared.refusal.Refusal.{Refusal}
use Rattle.book.specs.Refusals.{number_of}
use Rattle.book.specs.Views.{view_item, view_result}
use Rattle.rules.specs.Views.{view_kind, view_state}
use Rattle.frame.specs.declared.walk.Summary as declared
use Rattle.frame.specs.declared.reading.Frame.{Frame}
use Rattle.frame.specs.declared.reading.Indexed.{Indexed}
use Rattle.frame.specs.declared.items.IndexedItem.{IndexedItem}

-- the number of the first rule that is broken, or 0
abbrev pub number_or_zero : Result (Unit {0}) Fault → ℕ
number_or_zero (Ok x) = 0
number_or_zero (Err f) = number_of f

abbrev pub view_summary : declared.Summary → Summary
view_summary x = record { count = x.count; index = x.index; state = view_state x.state }

abbrev pub view_walk : Result declared.Summary Refusal → Outcome Summary
view_walk = view_result view_summary

abbrev pub view_frame : Frame → Overview
view_frame f = record { kind = view_kind f.kind; card = f.card; sequence = f.sequence; items = f.items; state = view_state f.state }

abbrev pub view_reading : Result Frame Refusal → Outcome Overview
view_reading = view_result view_frame

abbrev pub view_judged : Indexed → steps.Indexed
view_judged x = record { frame = view_frame x.frame; index = x.index }

abbrev pub view_indexed : Result Indexed Refusal → Outcome steps.Indexed
view_indexed = view_result view_judged

abbrev pub view_indexed_item : IndexedItem → IndexedShown
view_indexed_item x = record { index = x.index; item = view_item x.item; next = x.next }

abbrev pub view_found : Result IndexedItem Refusal → Outcome IndexedShown
view_found = view_result view_indexed_item

-- what is answered where the items of a frame were walked through
unfoldable pub ending_of : List ℕ → ℕ → rules.Kind → ℕ → Summary → Outcome steps.Indexed
ending_of s last k card x =
    pick (ended_by x.state.mode)
    (accepted (record { frame = record { kind = k; card = card; sequence = word_at s 2; items = x.count; state = x.state }; index = x.index }))
    (refused 11 last)
