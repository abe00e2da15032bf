-- T39: no second result, function by function. Each theorem is over the promise that the function's contract names (specs/Promises.antt), so that
-- a contract made weaker is refused here.
-- Assumes nothing.
use Prim.Native.Nat.{ℕ, ◌<◌}
use native.Mathlib.Omega.{arith}
use mathlib.Core.Logic.{◌⊎◌}
use mathlib.Core.Path.{◌≡◌, refl, sym, ap, ◌∙◌}
use Rattle.std.specs.Prelude.{Result, Ok, Err}
use mathlib.Core.Bool.{Bool}
use Rattle.format.specs.Book.{channel, histogram, sample, bin, time_bin, text, start_event, continue_event}
use Rattle.format.specs.Items.{whole}
use Rattle.format.specs.Rules.{allowed, among}
use Rattle.format.specs.Steps as steps
use Rattle.format.specs.Steps.{ended_by, start, marked, check_by}
use Rattle.book.specs.declared.items.HitCount.{HitCount}
use Rattle.book.specs.declared.items.Sample.{Sample}
use Rattle.book.specs.declared.items.Bin.{Bin}
use Rattle.book.specs.declared.items.LastCell.{LastCell}
use Rattle.book.specs.declared.items.TimeBin.{TimeBin}
use Rattle.book.specs.declared.items.StartEvent.{StartEvent}
use Rattle.book.specs.declared.items.EndEvent.{EndEvent}
use Rattle.book.specs.Fields.{Channel, Histogram, channel_item, histogram_item, hits_item, sample_item, bin_item, cell_item, time_item, start_item}
use Rattle.book.proofs.Unique.{one, equal_once}
use Rattle.book.specs.declared.refusal.Fault.{Fault}
use Rattle.rules.specs.declared.state.Kind.{Kind}
use Rattle.rules.specs.declared.state.Kind.TheVariants as kind
use Rattle.rules.specs.declared.state.NoKind.{NoKind}
use Rattle.rules.specs.declared.state.Mode.{Mode}
use Rattle.rules.specs.declared.state.State.{State}
use Rattle.rules.specs.declared.steps.Moved.{Moved}
use Rattle.rules.specs.Views.{view_kind, number_of_kind, view_mode, view_state, view_step, continue_tested, end_tested, text_tested}
use Rattle.rules.specs.Promises.{KindOf, Started, MayEnd, MayStart, MayContinue, MayStandInside, MayTime, MaySample, MayHistogram, MayBin, MayText, PausedFrom, ChannelStep, HistogramStep, HitCountStep, LastCellStep, TimeBinStep, SampleStep, BinStep, StartEventStep, ContinueEventStep, EndEventStep, TextStep}
use Rattle.rules.proofs.Unique.{same_state, same_step, same_kind_number}

-- ---- a kind by its number

-- a number that is a kind's is one of 1 to 3
numbered : (k : Kind) → ◌⊎◌ (number_of_kind k ≡ 0) (3 < number_of_kind k) → ⊥
numbered kind.Data e = omega arith
numbered kind.Monitor e = omega arith
numbered kind.Command e = omega arith

pub kind_once : (n : ℕ) (r q : Result Kind NoKind) → KindOf n r → KindOf n q → r ≡ q
kind_once n (Ok j) (Ok k) e f = ap Ok (same_kind_number j k (sym e ∙ f))
kind_once n (Ok j) (Err x) e f = absurd (numbered j (rw (← e) f))
kind_once n (Err x) (Ok k) e f = absurd (numbered k (rw (← f) e))
kind_once n (Err x) (Err y) e f = refl

-- ---- the state, and what may stand where

pub start_once : (k : Kind) (r q : State) → Started k r → Started k q → r ≡ q
start_once k = one view_state same_state (start (view_kind k))

pub may_end_once : (mode : Mode) (r q : Bool) → MayEnd mode r → MayEnd mode q → r ≡ q
may_end_once mode = equal_once (ended_by (view_mode mode))

pub may_start_once : (mode : Mode) (r q : Bool) → MayStart mode r → MayStart mode q → r ≡ q
may_start_once mode = equal_once (among start_event (allowed (view_mode mode)))

pub may_continue_once : (mode : Mode) (r q : Bool) → MayContinue mode r → MayContinue mode q → r ≡ q
may_continue_once mode = equal_once (among continue_event (allowed (view_mode mode)))

pub may_stand_inside_once : (mode : Mode) (r q : Bool) → MayStandInside mode r → MayStandInside mode q → r ≡ q
may_stand_inside_once mode = equal_once (among channel (allowed (view_mode mode)))

pub may_time_once : (mode : Mode) (r q : Bool) → MayTime mode r → MayTime mode q → r ≡ q
may_time_once mode = equal_once (among time_bin (allowed (view_mode mode)))

pub may_sample_once : (mode : Mode) (r q : Bool) → MaySample mode r → MaySample mode q → r ≡ q
may_sample_once mode = equal_once (among sample (allowed (view_mode mode)))

pub may_histogram_once : (mode : Mode) (r q : Bool) → MayHistogram mode r → MayHistogram mode q → r ≡ q
may_histogram_once mode = equal_once (among histogram (allowed (view_mode mode)))

pub may_bin_once : (mode : Mode) (r q : Bool) → MayBin mode r → MayBin mode q → r ≡ q
may_bin_once mode = equal_once (among bin (allowed (view_mode mode)))

pub may_text_once : (mode : Mode) (r q : Bool) → MayText mode r → MayText mode q → r ≡ q
may_text_once mode = equal_once (among text (allowed (view_mode mode)))

pub paused_once : (mode : Mode) (next time : ℕ) (r q : Bool) → PausedFrom mode next time r → PausedFrom mode next time q → r ≡ q
paused_once mode next time = equal_once (steps.paused (view_mode mode) next time)

-- ---- one turn of the rules at an item

pub channel_once : (card : ℕ) (st : State) (x : Channel) (next : ℕ) (r q : Result Moved Fault) → ChannelStep card st x next r → ChannelStep card st x next q → r ≡ q
channel_once card st x next = one view_step same_step (marked next (check_by card 0 (view_state st) (whole (channel_item x))))

pub histogram_once : (card : ℕ) (st : State) (x : Histogram) (next : ℕ) (r q : Result Moved Fault) → HistogramStep card st x next r → HistogramStep card st x next q → r ≡ q
histogram_once card st x next = one view_step same_step (marked next (check_by card 0 (view_state st) (whole (histogram_item x))))

pub hit_count_once : (card : ℕ) (st : State) (x : HitCount) (next : ℕ) (r q : Result Moved Fault) → HitCountStep card st x next r → HitCountStep card st x next q → r ≡ q
hit_count_once card st x next = one view_step same_step (marked next (check_by card 0 (view_state st) (whole (hits_item x))))

pub last_cell_once : (st : State) (x : LastCell) (next : ℕ) (r q : Result Moved Fault) → LastCellStep st x next r → LastCellStep st x next q → r ≡ q
last_cell_once st x next = one view_step same_step (marked next (check_by 0 0 (view_state st) (whole (cell_item x))))

pub time_bin_once : (st : State) (x : TimeBin) (next : ℕ) (r q : Result Moved Fault) → TimeBinStep st x next r → TimeBinStep st x next q → r ≡ q
time_bin_once st x next = one view_step same_step (marked next (check_by 0 0 (view_state st) (whole (time_item x))))

pub sample_once : (st : State) (x : Sample) (next : ℕ) (r q : Result Moved Fault) → SampleStep st x next r → SampleStep st x next q → r ≡ q
sample_once st x next = one view_step same_step (marked next (check_by 0 0 (view_state st) (whole (sample_item x))))

pub bin_once : (st : State) (x : Bin) (next : ℕ) (r q : Result Moved Fault) → BinStep st x next r → BinStep st x next q → r ≡ q
bin_once st x next = one view_step same_step (marked next (check_by 0 0 (view_state st) (whole (bin_item x))))

pub start_event_once : (at : ℕ) (st : State) (x : StartEvent) (next : ℕ) (r q : Result Moved Fault) → StartEventStep at st x next r → StartEventStep at st x next q → r ≡ q
start_event_once at st x next = one view_step same_step (marked next (check_by 0 at (view_state st) (whole (start_item x))))

pub continue_event_once : (st : State) (low next : ℕ) (r q : Result Moved Fault) → ContinueEventStep st low next r → ContinueEventStep st low next q → r ≡ q
continue_event_once st low next = one view_step same_step (marked next (continue_tested (view_state st) low))

pub end_event_once : (at : ℕ) (st : State) (x : EndEvent) (low next : ℕ) (r q : Result Moved Fault) → EndEventStep at st x low next r → EndEventStep at st x low next q → r ≡ q
end_event_once at st x low next = one view_step same_step (marked next (end_tested at (view_state st) x.size low))

pub text_step_once : (st : State) (closed : Bool) (next : ℕ) (r q : Result Moved Fault) → TextStep st closed next r → TextStep st closed next q → r ≡ q
text_step_once st closed next = one view_step same_step (marked next (text_tested (view_state st) closed))
