-- The flat answers: what document 01's answers are as structs of C. `refused` is 0 for an accepted answer, else the number of the refusal, beside
-- its place; what an answer does not use is 0.
-- Assumes nothing.
use Rattle.std.specs.Prelude.{ℕ, List, [], ◌∷◌}
use Rattle.std.proofs.Math.Option.{Option, none, some}
use Rattle.format.specs.Answers as answers
use Rattle.format.specs.Answers.{Outcome}
use Rattle.format.specs.Book as book
use Rattle.format.specs.Book.{row_of}
use Rattle.format.specs.Items.{ItemOf, Channel, Histogram, HitCount, Sample, Bin, LastCell, TimeBin, Text, StartEvent, ContinueEvent, EndEvent}
use Rattle.format.specs.Rules.{Kind, data_kind, monitor_kind, command_kind}
use Rattle.format.specs.Steps.{Overview}
use Rattle.format.specs.Questions.{IndexedShown, Began, Event}
use Rattle.follower.specs.Follow as follow
use Rattle.runs.specs.Assembly.{Open, Assembler, Taken}
use Rattle.ledger.specs.Formats as formats
use Rattle.ledger.specs.Calls.{Summary}
use Rattle.ledger.specs.VersionTwo.{time_in}
use Rattle.corrections.specs.Lists as lists
use Rattle.corrections.specs.Lists.{ListAnswer}
use Rattle.exports.specs.declared.answers.PlaneDone.{PlaneDone}
use Rattle.exports.specs.declared.answers.PlaneFrame.{PlaneFrame}
use Rattle.exports.specs.declared.answers.PlaneItem.{PlaneItem}
use Rattle.exports.specs.declared.answers.PlaneFound.{PlaneFound}
use Rattle.exports.specs.declared.answers.PlaneEvent.{PlaneEvent}
use Rattle.exports.specs.declared.answers.PlaneWord.{PlaneWord}
use Rattle.exports.specs.declared.answers.PlaneWritten.{PlaneWritten}
use Rattle.exports.specs.declared.answers.PlaneFollower.{PlaneFollower}
use Rattle.exports.specs.declared.answers.PlaneFollowed.{PlaneFollowed}
use Rattle.exports.specs.declared.answers.PlaneAssembler.{PlaneAssembler}
use Rattle.exports.specs.declared.answers.PlaneTaken.{PlaneTaken}
use Rattle.exports.specs.declared.answers.PlaneRecord.{PlaneRecord}
use Rattle.exports.specs.declared.answers.PlaneEntry.{PlaneEntry}
use Rattle.exports.specs.declared.answers.PlaneStopped.{PlaneStopped}

abbrev pub kind_number : Kind → ℕ
kind_number data_kind = 1
kind_number monitor_kind = 2
kind_number command_kind = 3

abbrev pub flat_done : answers.Done → PlaneDone
flat_done (answers.accepted u) = record { refused = 0; place = 0 }
flat_done (answers.refused n p) = record { refused = n; place = p }

unfoldable pub flat_frame : Outcome Overview → PlaneFrame
flat_frame (answers.accepted f) = record { refused = 0; place = 0; kind = kind_number f.kind; card = f.card; sequence = f.sequence; items = f.items }
flat_frame (answers.refused n p) = record { refused = n; place = p; kind = 0; card = 0; sequence = 0; items = 0 }

-- an item's fields in one row, by the order of the struct
abbrev pub row : ℕ → ℕ → ℕ → ℕ → ℕ → ℕ → ℕ → ℕ → ℕ → ℕ → ℕ → ℕ → ℕ → ℕ → ℕ → PlaneItem
row class card chip channel hits value bin cell time length kind count number size timestamp = record {
  item_class = class;
  card = card;
  chip = chip;
  channel = channel;
  hits = hits;
  value = value;
  bin = bin;
  cell = cell;
  time = time;
  length = length;
  kind = kind;
  count = count;
  number = number;
  size = size;
  timestamp = timestamp;
}

abbrev pub blank : ℕ → PlaneItem
blank class = row class 0 0 0 0 0 0 0 0 0 0 0 0 0 0

-- class, card, chip, channel, hits, value, bin, cell, time, length, kind, count, number, size, timestamp
unfoldable pub flat_item : ItemOf ℕ → PlaneItem
flat_item (Channel a b c) = row (row_of book.channel) a b c 0 0 0 0 0 0 0 0 0 0 0
flat_item (Histogram a b c) = row (row_of book.histogram) a b c 0 0 0 0 0 0 0 0 0 0 0
flat_item (HitCount a b n) = row (row_of book.hit_count) a b 0 n 0 0 0 0 0 0 0 0 0 0
flat_item (Sample v) = row (row_of book.sample) 0 0 0 0 v 0 0 0 0 0 0 0 0 0
flat_item (Bin b n) = row (row_of book.bin) 0 0 0 0 0 b 0 0 0 0 n 0 0 0
flat_item (LastCell b c) = row (row_of book.last_cell) 0 b 0 0 0 0 c 0 0 0 0 0 0 0
flat_item (TimeBin t) = row (row_of book.time_bin) 0 0 0 0 0 0 0 t 0 0 0 0 0 0
flat_item (Text n) = row (row_of book.text) 0 0 0 0 0 0 0 0 n 0 0 0 0 0
flat_item (StartEvent k ts n) = row (row_of book.start_event) 0 0 0 0 0 0 0 0 0 k 0 n 0 ts
flat_item (ContinueEvent n) = row (row_of book.continue_event) 0 0 0 0 0 0 0 0 0 0 0 n 0 0
flat_item (EndEvent n) = row (row_of book.end_event) 0 0 0 0 0 0 0 0 0 0 0 0 n 0

unfoldable pub flat_found : Outcome IndexedShown → PlaneFound
flat_found (answers.accepted x) = record { refused = 0; place = 0; index = x.index; next = x.next; item = flat_item x.item }
flat_found (answers.refused n p) = record { refused = n; place = p; index = 0; next = 0; item = blank (row_of book.unassigned) }

-- 1 for what is there, 0 for what is missing; and what is missing is 0 in its fields
abbrev pub is_there : {A : Type 0} → Option A → ℕ
is_there none = 0
is_there (some a) = 1

abbrev pub kind_told : Option Began → ℕ
kind_told none = 0
kind_told (some b) = b.kind

abbrev pub timestamp_told : Option Began → ℕ
timestamp_told none = 0
timestamp_told (some b) = b.timestamp

abbrev pub size_told : Option ℕ → ℕ
size_told none = 0
size_told (some z) = z

unfoldable pub flat_event : Outcome Event → PlaneEvent
flat_event (answers.accepted v) = record {
  refused = 0;
  place = 0;
  began = is_there v.began;
  ended = is_there v.size;
  kind = kind_told v.began;
  number = v.number;
  timestamp = timestamp_told v.began;
  size = size_told v.size;
  index = v.index;
}
flat_event (answers.refused n p) = record { refused = n; place = p; began = 0; ended = 0; kind = 0; number = 0; timestamp = 0; size = 0; index = 0 }

unfoldable pub flat_word : Outcome ℕ → PlaneWord
flat_word (answers.accepted w) = record { refused = 0; place = 0; word = w }
flat_word (answers.refused n p) = record { refused = n; place = p; word = 0 }

unfoldable pub flat_written : Outcome ℕ → PlaneWritten
flat_written (answers.accepted n) = record { refused = 0; place = 0; length = n }
flat_written (answers.refused n p) = record { refused = n; place = p; length = 0 }

abbrev pub flat_follower : follow.State → PlaneFollower
flat_follower follow.idle = record { expecting = 0; number = 0 }
flat_follower (follow.expecting e) = record { expecting = 1; number = e }

-- "a refusal leaves it as it was": the follower that was given
unfoldable pub flat_followed : PlaneFollower → follow.Answer → PlaneFollowed
flat_followed given (follow.accepted lost next) = record { refused = 0; place = 0; lost = lost; next = flat_follower next }
flat_followed given (follow.refused n p) = record { refused = n; place = p; lost = 0; next = given }

abbrev pub flat_assembler_by : ℕ → PlaneFollower → Option Open → PlaneAssembler
flat_assembler_by card follower none = record { card = card; «open» = 0; follower = follower; number = 0; size = 0; key = 0 }
flat_assembler_by card follower (some o) = record { card = card; «open» = 1; follower = follower; number = o.number; size = o.size; key = o.key }

unfoldable pub flat_assembler : Assembler → PlaneAssembler
flat_assembler a = flat_assembler_by a.card (flat_follower a.follower) a.event

-- "the assembler is unchanged": the one that was given
unfoldable pub flat_taken : PlaneAssembler → Outcome Taken → PlaneTaken
flat_taken given (answers.accepted t) = record { refused = 0; place = 0; lost = t.lost; next = flat_assembler t.next }
flat_taken given (answers.refused n p) = record { refused = n; place = p; lost = 0; next = given }

unfoldable pub flat_record : Outcome Summary → PlaneRecord
flat_record (answers.accepted x) = record { refused = 0; place = 0; length = x.length; count = x.count; total = x.total }
flat_record (answers.refused n p) = record { refused = n; place = p; length = 0; count = 0; total = 0 }

-- whether a time stands after the reason
abbrev pub time_kept : List ℕ → ℕ
time_kept [] = 0
time_kept (t ∷ x) = 1

unfoldable pub flat_entry : Outcome formats.Entry → PlaneEntry
flat_entry (answers.accepted e) = record { refused = 0; place = 0; word = e.word; kind = e.kind; old_value = e.old; new_value = e.new; operator_id = e.operator; reason = e.reason; timed = time_kept e.extra; time = time_in e.extra }
flat_entry (answers.refused n p) = record { refused = n; place = p; word = 0; kind = 0; old_value = 0; new_value = 0; operator_id = 0; reason = 0; timed = 0; time = 0 }

unfoldable pub flat_stopped : ListAnswer → PlaneStopped
flat_stopped lists.done = record { refused = 0; place = 0; position = 0 }
flat_stopped (lists.stopped i n p) = record { refused = n; place = p; position = i }
