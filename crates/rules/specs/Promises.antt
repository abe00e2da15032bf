-- What each public function promises, under a name: the functions' contracts and the theorems of proofs/Once.antt are over these same names.
-- Assumes nothing.
use Rattle.std.specs.Prelude.{ℕ, ◌≡◌, ◌<◌, ◌⊎◌, Bool, Result, Ok, Err}
use Rattle.format.specs.Book.{channel, histogram, sample, bin, time_bin, text, start_event, continue_event}
use Rattle.format.specs.Items.{whole}
use Rattle.format.specs.Rules.{allowed, among}
use Rattle.format.specs.Steps as steps
use Rattle.format.specs.Steps.{ended_by, start, marked, check_by}
use Rattle.book.specs.declared.items.HitCount.{HitCount}
use Rattle.book.specs.declared.items.Sample.{Sample}
use Rattle.book.specs.declared.items.Bin.{Bin}
use Rattle.book.specs.declared.items.LastCell.{LastCell}
use Rattle.book.specs.declared.items.TimeBin.{TimeBin}
use Rattle.book.specs.declared.items.StartEvent.{StartEvent}
use Rattle.book.specs.declared.items.EndEvent.{EndEvent}
use Rattle.book.specs.Fields.{Channel, Histogram, channel_item, histogram_item, hits_item, sample_item, bin_item, cell_item, time_item, start_item}
use Rattle.book.specs.declared.refusal.Fault.{Fault}
use Rattle.rules.specs.declared.state.Kind.{Kind}
use Rattle.rules.specs.declared.state.NoKind.{NoKind}
use Rattle.rules.specs.declared.state.Mode.{Mode}
use Rattle.rules.specs.declared.state.State.{State}
use Rattle.rules.specs.declared.steps.Moved.{Moved}
use Rattle.rules.specs.Views.{view_kind, number_of_kind, view_mode, view_state, view_step, continue_tested, end_tested, text_tested}

-- the kind of a number; a number that no kind has is none
abbrev pub KindOf : ℕ → Result Kind NoKind → Type 0
KindOf n (Ok k) = n ≡ number_of_kind k
KindOf n (Err e) = (n ≡ 0) ⊎ (3 < n)

-- ---- the state, and what may stand where

abbrev pub Started : Kind → State → Type 0
Started kind r = view_state r ≡ start (view_kind kind)

abbrev pub MayEnd : Mode → Bool → Type 0
MayEnd mode r = r ≡ ended_by (view_mode mode)

abbrev pub MayStart : Mode → Bool → Type 0
MayStart mode r = r ≡ among start_event (allowed (view_mode mode))

abbrev pub MayContinue : Mode → Bool → Type 0
MayContinue mode r = r ≡ among continue_event (allowed (view_mode mode))

abbrev pub MayStandInside : Mode → Bool → Type 0
MayStandInside mode r = r ≡ among channel (allowed (view_mode mode))

abbrev pub MayTime : Mode → Bool → Type 0
MayTime mode r = r ≡ among time_bin (allowed (view_mode mode))

abbrev pub MaySample : Mode → Bool → Type 0
MaySample mode r = r ≡ among sample (allowed (view_mode mode))

abbrev pub MayHistogram : Mode → Bool → Type 0
MayHistogram mode r = r ≡ among histogram (allowed (view_mode mode))

abbrev pub MayBin : Mode → Bool → Type 0
MayBin mode r = r ≡ among bin (allowed (view_mode mode))

abbrev pub MayText : Mode → Bool → Type 0
MayText mode r = r ≡ among text (allowed (view_mode mode))

-- a Time bin of the time may stand where the next time is `next`
abbrev pub PausedFrom : Mode → ℕ → ℕ → Bool → Type 0
PausedFrom mode next time r = r ≡ steps.paused (view_mode mode) next time

-- ---- one turn of the rules at an item

abbrev pub ChannelStep : ℕ → State → Channel → ℕ → Result Moved Fault → Type 0
ChannelStep card st x next r = view_step r ≡ marked next (check_by card 0 (view_state st) (whole (channel_item x)))

abbrev pub HistogramStep : ℕ → State → Histogram → ℕ → Result Moved Fault → Type 0
HistogramStep card st x next r = view_step r ≡ marked next (check_by card 0 (view_state st) (whole (histogram_item x)))

abbrev pub HitCountStep : ℕ → State → HitCount → ℕ → Result Moved Fault → Type 0
HitCountStep card st x next r = view_step r ≡ marked next (check_by card 0 (view_state st) (whole (hits_item x)))

abbrev pub LastCellStep : State → LastCell → ℕ → Result Moved Fault → Type 0
LastCellStep st x next r = view_step r ≡ marked next (check_by 0 0 (view_state st) (whole (cell_item x)))

abbrev pub TimeBinStep : State → TimeBin → ℕ → Result Moved Fault → Type 0
TimeBinStep st x next r = view_step r ≡ marked next (check_by 0 0 (view_state st) (whole (time_item x)))

abbrev pub SampleStep : State → Sample → ℕ → Result Moved Fault → Type 0
SampleStep st x next r = view_step r ≡ marked next (check_by 0 0 (view_state st) (whole (sample_item x)))

abbrev pub BinStep : State → Bin → ℕ → Result Moved Fault → Type 0
BinStep st x next r = view_step r ≡ marked next (check_by 0 0 (view_state st) (whole (bin_item x)))

abbrev pub StartEventStep : ℕ → State → StartEvent → ℕ → Result Moved Fault → Type 0
StartEventStep at st x next r = view_step r ≡ marked next (check_by 0 at (view_state st) (whole (start_item x)))

abbrev pub ContinueEventStep : State → ℕ → ℕ → Result Moved Fault → Type 0
ContinueEventStep st low next r = view_step r ≡ marked next (continue_tested (view_state st) low)

abbrev pub EndEventStep : ℕ → State → EndEvent → ℕ → ℕ → Result Moved Fault → Type 0
EndEventStep at st x low next r = view_step r ≡ marked next (end_tested at (view_state st) x.size low)

abbrev pub TextStep : State → Bool → ℕ → Result Moved Fault → Type 0
TextStep st closed next r = view_step r ≡ marked next (text_tested (view_state st) closed)
