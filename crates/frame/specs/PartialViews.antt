-- What judging a partial frame answers, in document 01.
-- Assumes nothing.
use Rattle.std.specs.Prelude.{Result}
use Rattle.format.specs.Answers.{Outcome}
use Rattle.format.specs.PartialSteps.{PartialOverview}
use Rattle.book.specs.declared.refusal.Refusal.{Refusal}
use Rattle.book.specs.Views.{view_result}
use Rattle.rules.specs.Views.{view_kind, view_state}
use Rattle.frame.specs.declared.begun.PartialFrame.{PartialFrame}

abbrev pub view_partial_frame : PartialFrame → PartialOverview
view_partial_frame f = record { kind = view_kind f.kind; card = f.card; sequence = f.sequence; state = view_state f.state }

abbrev pub view_partial : Result PartialFrame Refusal → Outcome PartialOverview
view_partial = view_result view_partial_frame
