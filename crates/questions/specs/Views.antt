-- What the answers of this crate say in document 01.
-- Assumes nothing.
use Rattle.std.specs.Prelude as found
use Rattle.std.specs.Prelude.{ℕ, Result}
use Rattle.std.proofs.Math.Option.{Option}
use Rattle.format.specs.Answers.{Outcome, Done}
use Rattle.format.specs.Questions as questions
use Rattle.book.specs.Views.{view_result, view_option}
use Rattle.book.specs.declared.refusal.Refusal.{Refusal}
use Rattle.questions.specs.declared.answers.Beginning.{Beginning}
use Rattle.questions.specs.declared.answers.Event.{Event}

-- a number says itself
abbrev pub itself : ℕ → ℕ
itself n = n

abbrev pub view_beginning : Beginning → questions.Began
view_beginning b = record { kind = b.kind; timestamp = b.timestamp }

-- what stands in another frame is missing
abbrev pub view_began : found.Option Beginning → Option questions.Began
view_began = view_option view_beginning

abbrev pub view_ended : found.Option ℕ → Option ℕ
view_ended = view_option itself

abbrev pub event_of : Event → questions.Event
event_of v = record { began = view_began v.began; number = v.number; size = view_ended v.ended; index = v.index }

abbrev pub view_event : Result Event Refusal → Outcome questions.Event
view_event = view_result event_of

abbrev pub view_word : Result ℕ Refusal → Outcome ℕ
view_word = view_result itself

abbrev pub view_filled : Result (Unit {0}) Refusal → Done
view_filled = view_result (λ u. tt)
