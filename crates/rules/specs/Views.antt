-- What a state and a turn of this crate say in document 01.
-- Assumes nothing.
use Rattle.std.specs.Prelude.{ℕ, ◌+◌, ◌*◌, ◌-◌, Bool, true, ◌&&◌, ◌||◌, eqb, Result, Ok, Err}
use Rattle.format.specs.Words.{pick}
use Rattle.format.specs.Book.{continue_event, end_event, text}
use Rattle.format.specs.Rules as rules
use Rattle.format.specs.Rules.{Checked, good, bad}
use Rattle.format.specs.Steps as steps
use Rattle.format.specs.Steps.{ReaderState, Stepped, moved, stopped, place_by, marks_end}
use Rattle.book.specs.declared.refusal.Fault.{Fault}
use Rattle.book.specs.Refusals.{number_of}
use Rattle.rules.specs.declared.state.Kind.{Kind}
use Rattle.rules.specs.declared.state.Kind.TheVariants as kind
use Rattle.rules.specs.declared.state.Mode.{Mode}
use Rattle.rules.specs.declared.state.Mode.TheVariants as mode
use Rattle.rules.specs.declared.state.Marks.{Marks}
use Rattle.rules.specs.declared.state.State.{State}
use Rattle.rules.specs.declared.steps.Moved.{Moved}

abbrev pub view_kind : Kind → rules.Kind
view_kind kind.Data = rules.data_kind
view_kind kind.Monitor = rules.monitor_kind
view_kind kind.Command = rules.command_kind

-- the number of a kind, in a call and in a record's header
abbrev pub number_of_kind : Kind → ℕ
number_of_kind kind.Data = 1
number_of_kind kind.Monitor = 2
number_of_kind kind.Command = 3

abbrev pub view_mode : Mode → rules.ReaderMode
view_mode mode.Outside = rules.outside
view_mode mode.Inside = rules.inside
view_mode mode.AfterChannel = rules.after_channel
view_mode mode.AfterTime = rules.after_time
view_mode mode.AfterSample = rules.after_sample
view_mode mode.Unheaded = rules.unheaded
view_mode mode.Headed = rules.headed
view_mode mode.Commands = rules.commands
view_mode mode.Fresh = rules.fresh

abbrev pub view_marks : Marks → steps.Marks
view_marks m = record { opener = m.opener; first = m.first; lead = m.lead }

abbrev pub view_state : State → ReaderState
view_state st = record { mode = view_mode st.mode; key = st.key; next = st.next; marks = view_marks st.marks }

abbrev pub view_step : Result Moved Fault → Stepped
view_step (Ok x) = moved (view_state x.state) x.next
view_step (Err f) = stopped (number_of f)

-- place before value before order
abbrev pub tested : Bool → Bool → Bool → ReaderState → Checked ReaderState
tested place value order st = pick place (pick value (pick order (good st) (bad 10)) (bad 9)) (bad 8)

-- the words of a Continue event, whose first one has this content
unfoldable pub continue_tested : ReaderState → ℕ → Checked ReaderState
continue_tested st low =
    tested (place_by st continue_event) (eqb low 0) true (record { mode = rules.inside; key = st.key; next = st.next; marks = st.marks })

-- the words of an End event, whose first one has these low bits
unfoldable pub end_tested : ℕ → ReaderState → ℕ → ℕ → Checked ReaderState
end_tested at st size low =
    tested (place_by st end_event) (eqb low 0 && (eqb st.marks.opener 0 || eqb size (2 * (at - st.marks.opener) + 6))) true
    (record { mode = rules.outside; key = st.key; next = st.next; marks = marks_end at st.marks })

-- the words of a text, whose bytes passed their test or did not
unfoldable pub text_tested : ReaderState → Bool → Checked ReaderState
text_tested st closed = tested (place_by st text) closed true (record { mode = rules.commands; key = 0; next = 0; marks = st.marks })
