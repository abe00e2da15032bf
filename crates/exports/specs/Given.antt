-- What is handed to the exports flat: a follower, an assembler, the kind of a frame, an item.
-- Assumes nothing.
use Rattle.std.specs.Prelude.{ℕ, List, eqb, Result, Ok, Err}
use Rattle.std.proofs.Math.Option.{Option, none, some}
use Rattle.format.specs.Words.{pick}
use Rattle.format.specs.Answers.{Outcome, refused}
use Rattle.format.specs.Book.{Class, channel, histogram, hit_count, sample, bin, last_cell, time_bin, data_frame, monitor_frame, command_frame, text, start_event, continue_event, end_event, frame_end, unassigned, class_at}
use Rattle.format.specs.Items.{Channel, Histogram, HitCount, Sample, Bin, LastCell, TimeBin, Text, StartEvent, ContinueEvent, EndEvent, Token, flawed}
use Rattle.format.specs.Rules.{Kind, data_kind, monitor_kind, command_kind}
use Rattle.format.specs.Writing as writing
use Rattle.format.specs.Writing.{begin_answer, begin_left}
use Rattle.follower.specs.Follow.{State, idle, expecting}
use Rattle.runs.specs.Assembly.{Open, Assembler}
use Rattle.book.specs.declared.items.Item.{Item}
use Rattle.book.specs.declared.refusal.Fault.{Fault}
use Rattle.book.specs.Refusals.{number_of}
use Rattle.book.specs.Views.{view_item}
use Rattle.exports.specs.declared.answers.PlaneItem.{PlaneItem}
use Rattle.exports.specs.declared.answers.PlaneFollower.{PlaneFollower}
use Rattle.exports.specs.declared.answers.PlaneAssembler.{PlaneAssembler}

abbrev pub follower_of : PlaneFollower → State
follower_of x = pick (eqb x.expecting 0) idle (expecting x.number)

abbrev pub current_of : PlaneAssembler → Option Open
current_of x = pick (eqb x.«open» 0) none (some (record { number = x.number; size = x.size; key = x.key }))

abbrev pub assembler_of : PlaneAssembler → Assembler
assembler_of x = record { card = x.card; follower = follower_of x.follower; event = current_of x }

-- ---- begin

abbrev pub kind_of : ℕ → Option Kind
kind_of k = pick (eqb k 1) (some data_kind) (pick (eqb k 2) (some monitor_kind) (pick (eqb k 3) (some command_kind) none))

-- a frame of no kind is refused by 2, KIND, before anything else
abbrev pub begun : Option Kind → List ℕ → ℕ → ℕ → Outcome ℕ
begun none buf card sequence = refused 2 0
begun (some k) buf card sequence = begin_answer buf card sequence

abbrev pub begun_left : Option Kind → List ℕ → ℕ → ℕ → List ℕ
begun_left none buf card sequence = buf
begun_left (some k) buf card sequence = begin_left buf k card sequence

-- ---- add

-- "Frame starts and Frame end are never items", 8; a number that no class has is 6, CLASS
abbrev pub said : PlaneItem → Class → Token
said x channel = writing.given (Channel x.card x.chip x.channel)
said x histogram = writing.given (Histogram x.card x.chip x.channel)
said x hit_count = writing.given (HitCount x.card x.chip x.hits)
said x sample = writing.given (Sample x.value)
said x bin = writing.given (Bin x.bin x.count)
said x last_cell = writing.given (LastCell x.chip x.cell)
said x time_bin = writing.given (TimeBin x.time)
said x data_frame = flawed 8
said x monitor_frame = flawed 8
said x command_frame = flawed 8
said x text = writing.given (Text x.length)
said x start_event = writing.given (StartEvent x.kind x.timestamp x.number)
said x end_event = writing.given (EndEvent x.size)
said x frame_end = flawed 8
said x continue_event = writing.given (ContinueEvent x.number)
said x unassigned = flawed 6

unfoldable pub token_of : PlaneItem → Token
token_of x = said x (class_at x.item_class)

abbrev pub view_given : Result Item Fault → Token
view_given (Ok x) = writing.given (view_item x)
view_given (Err f) = flawed (number_of f)
