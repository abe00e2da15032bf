-- T40: what an answer says on paper fixes the answer, since each view is injective. So each promise has one answer (Once.antt).
-- Assumes nothing.
use Prim.Native.Nat.{ℕ}
use mathlib.Core.Path.{◌≡◌, refl, ap}
use mathlib.Core.List.{[], ◌∷◌}
use lib.ListN.{get_or}
use Rattle.std.specs.Prelude.{Result, Ok, Err}
use Rattle.format.specs.Rules as rules
use Rattle.format.specs.Steps as steps
use Rattle.format.specs.Steps.{ReaderState, Stepped, moved, stopped}
use Rattle.book.proofs.Unique.{undone, fault_back, fault_back_lem}
use Rattle.book.specs.declared.refusal.Fault.{Fault}
use Rattle.rules.specs.declared.state.Kind.{Kind}
use Rattle.rules.specs.declared.state.Kind.TheVariants as kind
use Rattle.rules.specs.declared.state.Mode.{Mode}
use Rattle.rules.specs.declared.state.Mode.TheVariants as mode
use Rattle.rules.specs.declared.state.Marks.{Marks}
use Rattle.rules.specs.declared.state.State.{State}
use Rattle.rules.specs.declared.steps.Moved.{Moved}
use Rattle.rules.specs.Views.{view_kind, number_of_kind, view_mode, view_state, view_step}

abbrev pub kind_back : rules.Kind → Kind
kind_back rules.data_kind = kind.Data
kind_back rules.monitor_kind = kind.Monitor
kind_back rules.command_kind = kind.Command

pub kind_back_lem : (r : Kind) → kind_back (view_kind r) ≡ r
kind_back_lem kind.Data = refl
kind_back_lem kind.Monitor = refl
kind_back_lem kind.Command = refl

pub same_kind : (r q : Kind) → view_kind r ≡ view_kind q → r ≡ q
same_kind = undone view_kind kind_back kind_back_lem

-- the way back from a kind's number
abbrev number_back : ℕ → Kind
number_back n = get_or (kind.Data ∷ kind.Data ∷ kind.Monitor ∷ kind.Command ∷ []) n kind.Data

number_back_lem : (k : Kind) → number_back (number_of_kind k) ≡ k
number_back_lem kind.Data = refl
number_back_lem kind.Monitor = refl
number_back_lem kind.Command = refl

pub same_kind_number : (j k : Kind) → number_of_kind j ≡ number_of_kind k → j ≡ k
same_kind_number = undone number_of_kind number_back number_back_lem

abbrev mode_back : rules.ReaderMode → Mode
mode_back rules.outside = mode.Outside
mode_back rules.inside = mode.Inside
mode_back rules.after_channel = mode.AfterChannel
mode_back rules.after_time = mode.AfterTime
mode_back rules.after_sample = mode.AfterSample
mode_back rules.unheaded = mode.Unheaded
mode_back rules.headed = mode.Headed
mode_back rules.commands = mode.Commands
mode_back rules.fresh = mode.Fresh

mode_back_lem : (r : Mode) → mode_back (view_mode r) ≡ r
mode_back_lem mode.Outside = refl
mode_back_lem mode.Inside = refl
mode_back_lem mode.AfterChannel = refl
mode_back_lem mode.AfterTime = refl
mode_back_lem mode.AfterSample = refl
mode_back_lem mode.Unheaded = refl
mode_back_lem mode.Headed = refl
mode_back_lem mode.Commands = refl
mode_back_lem mode.Fresh = refl

pub same_mode : (r q : Mode) → view_mode r ≡ view_mode q → r ≡ q
same_mode = undone view_mode mode_back mode_back_lem

abbrev marks_back : steps.Marks → Marks
marks_back m = record { opener = m.opener; first = m.first; lead = m.lead }

abbrev pub state_back : ReaderState → State
state_back st = record { mode = mode_back st.mode; key = st.key; next = st.next; marks = marks_back st.marks }

pub state_back_lem : (r : State) → state_back (view_state r) ≡ r
state_back_lem r = λ i. record { mode = mode_back_lem r.mode i; key = r.key; next = r.next; marks = r.marks }

pub same_state : (r q : State) → view_state r ≡ view_state q → r ≡ q
same_state = undone view_state state_back state_back_lem

abbrev step_back : Stepped → Result Moved Fault
step_back (moved st next) = Ok (record { state = state_back st; next = next })
step_back (stopped n) = Err (fault_back n)

step_back_lem : (r : Result Moved Fault) → step_back (view_step r) ≡ r
step_back_lem (Ok x) = λ i. Ok (record { state = state_back_lem x.state i; next = x.next })
step_back_lem (Err f) = ap Err (fault_back_lem f)

pub same_step : (r q : Result Moved Fault) → view_step r ≡ view_step q → r ≡ q
same_step = undone view_step step_back step_back_lem
