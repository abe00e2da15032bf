-- T39: no second result, export by export. Each theorem is over the promise that the export's contract names (specs/Promises.antt), so that a
-- contract made weaker is refused here.
-- Assumes nothing.
use Prim.Native.Nat.{ℕ}
use mathlib.Core.Path.{◌≡◌, sym, ◌∙◌}
use mathlib.Core.List.{List}
use Rattle.format.specs.Book.{class_of, row_of}
use Rattle.format.specs.Steps.{read_of}
use Rattle.format.specs.Questions.{shown_at, event_at, sample_word_at, bin_word_at}
use Rattle.follower.specs.Follow.{follow}
use Rattle.runs.specs.Assembly.{new, take, give_up}
use Rattle.ledger.specs.Formats.{Correction}
use Rattle.ledger.specs.Calls.{record_answer, entry_answer}
use Rattle.ledger.specs.VersionTwo.{version_two}
use Rattle.ledger.specs.Versions.{format_in}
use Rattle.ledger.specs.PlaneFrames.{plane_frames}
use Rattle.std.specs.Prelude.{Result}
use Rattle.follower.specs.Paper.{state_of}
use Rattle.follower.specs.declared.Follower.{Follower}
use Rattle.follower.proofs.front.Sequence.{states_injective}
use Rattle.book.specs.Views.{view_item}
use Rattle.book.specs.declared.items.Item.{Item}
use Rattle.book.specs.declared.refusal.Refusal.{Refusal}
use Rattle.book.proofs.Unique.{one, equal_once}
use Rattle.frame.specs.Views.{view_reading, view_found}
use Rattle.frame.specs.declared.items.IndexedItem.{IndexedItem}
use Rattle.frame.specs.declared.reading.Frame.{Frame}
use Rattle.assembler.specs.Views.{view_assembler}
use Rattle.assembler.specs.declared.Assembler.{Assembler}
use Rattle.assembler.proofs.Unique.{same_assembler}
use Rattle.questions.specs.Views.{view_event, view_word}
use Rattle.questions.specs.declared.answers.Event.{Event}
use Rattle.writer.specs.Views.{view_written}
use Rattle.records.specs.Views.{view_record, view_entry}
use Rattle.records.specs.declared.answers.Record.{Record}
use Rattle.records.specs.declared.answers.Entry.{Entry}
use Rattle.editor.specs.Views.{view_done}
use Rattle.corrections.specs.Views.{view_corrected}
use Rattle.corrections.specs.declared.Stopped.{Stopped}
use Rattle.exports.specs.declared.answers.PlaneDone.{PlaneDone}
use Rattle.exports.specs.declared.answers.PlaneFrame.{PlaneFrame}
use Rattle.exports.specs.declared.answers.PlaneFound.{PlaneFound}
use Rattle.exports.specs.declared.answers.PlaneItem.{PlaneItem}
use Rattle.exports.specs.declared.answers.PlaneEvent.{PlaneEvent}
use Rattle.exports.specs.declared.answers.PlaneWord.{PlaneWord}
use Rattle.exports.specs.declared.answers.PlaneText.{PlaneText}
use Rattle.exports.specs.declared.answers.PlaneFollower.{PlaneFollower}
use Rattle.exports.specs.declared.answers.PlaneFollowed.{PlaneFollowed}
use Rattle.exports.specs.declared.answers.PlaneAssembler.{PlaneAssembler}
use Rattle.exports.specs.declared.answers.PlaneTaken.{PlaneTaken}
use Rattle.exports.specs.declared.answers.PlaneRecord.{PlaneRecord}
use Rattle.exports.specs.declared.answers.PlaneEntry.{PlaneEntry}
use Rattle.exports.specs.declared.answers.PlaneWritten.{PlaneWritten}
use Rattle.exports.specs.declared.answers.PlaneStopped.{PlaneStopped}
use Rattle.exports.specs.Flat.{flat_done, flat_frame, flat_item, flat_found, flat_event, flat_word, flat_written, flat_follower, flat_followed, flat_assembler, flat_taken, flat_record, flat_entry, flat_stopped}
use Rattle.exports.specs.Given.{follower_of, assembler_of}
use Rattle.exports.specs.Promises.{FollowerGiven, FollowerFlat, AssemblerGiven, AssemblerFlat, DoneFlat, FrameFlat, ItemFlat, FoundFlat, EventFlat, WordFlat, WrittenFlat, RecordFlat, EntryFlat, StoppedFlat, ClassNumbered, FrameTold, ItemTold, TextPart, EventTold, SampleWordTold, BinWordTold, FollowTold, AssemblerMade, TakeTold, GivenUpTold, RecordTold, EntryTold, Leaves, Sampled, Counted, Begun, Added, AddedText, Closed, Opened, Edited, EditedAll, Restored}

-- ---- between the library's values and the flat ones

pub follower_given_once : (x : PlaneFollower) (r q : Follower) → FollowerGiven x r → FollowerGiven x q → r ≡ q
follower_given_once x = one state_of states_injective (follower_of x)

pub follower_flat_once : (f : Follower) (r q : PlaneFollower) → FollowerFlat f r → FollowerFlat f q → r ≡ q
follower_flat_once f = equal_once (flat_follower (state_of f))

pub assembler_given_once : (x : PlaneAssembler) (r q : Assembler) → AssemblerGiven x r → AssemblerGiven x q → r ≡ q
assembler_given_once x = one view_assembler same_assembler (assembler_of x)

pub assembler_flat_once : (a : Assembler) (r q : PlaneAssembler) → AssemblerFlat a r → AssemblerFlat a q → r ≡ q
assembler_flat_once a = equal_once (flat_assembler (view_assembler a))

pub done_flat_once : (o : Result (Unit {0}) Refusal) (r q : PlaneDone) → DoneFlat o r → DoneFlat o q → r ≡ q
done_flat_once o = equal_once (flat_done (view_done o))

pub frame_flat_once : (o : Result Frame Refusal) (r q : PlaneFrame) → FrameFlat o r → FrameFlat o q → r ≡ q
frame_flat_once o = equal_once (flat_frame (view_reading o))

pub item_flat_once : (x : Item) (r q : PlaneItem) → ItemFlat x r → ItemFlat x q → r ≡ q
item_flat_once x = equal_once (flat_item (view_item x))

pub found_flat_once : (o : Result IndexedItem Refusal) (r q : PlaneFound) → FoundFlat o r → FoundFlat o q → r ≡ q
found_flat_once o = equal_once (flat_found (view_found o))

pub event_flat_once : (o : Result Event Refusal) (r q : PlaneEvent) → EventFlat o r → EventFlat o q → r ≡ q
event_flat_once o = equal_once (flat_event (view_event o))

pub word_flat_once : (o : Result ℕ Refusal) (r q : PlaneWord) → WordFlat o r → WordFlat o q → r ≡ q
word_flat_once o = equal_once (flat_word (view_word o))

pub written_flat_once : (o : Result ℕ Refusal) (r q : PlaneWritten) → WrittenFlat o r → WrittenFlat o q → r ≡ q
written_flat_once o = equal_once (flat_written (view_written o))

pub record_flat_once : (o : Result Record Refusal) (r q : PlaneRecord) → RecordFlat o r → RecordFlat o q → r ≡ q
record_flat_once o = equal_once (flat_record (view_record o))

pub entry_flat_once : (o : Result Entry Refusal) (r q : PlaneEntry) → EntryFlat o r → EntryFlat o q → r ≡ q
entry_flat_once o = equal_once (flat_entry (view_entry o))

pub stopped_flat_once : (o : Result (Unit {0}) Stopped) (r q : PlaneStopped) → StoppedFlat o r → StoppedFlat o q → r ≡ q
stopped_flat_once o = equal_once (flat_stopped (view_corrected o))

-- ---- an answer alone

pub classify_once : (word r q : ℕ) → ClassNumbered word r → ClassNumbered word q → r ≡ q
classify_once word = equal_once (row_of (class_of word))

pub read_once : (s : List ℕ) (r q : PlaneFrame) → FrameTold s r → FrameTold s q → r ≡ q
read_once s = equal_once (flat_frame (read_of s))

pub item_once : (s : List ℕ) (n : ℕ) (r q : PlaneFound) → ItemTold s n r → ItemTold s n q → r ≡ q
item_once s n = equal_once (flat_found (shown_at s n))

pub text_once : (s : List ℕ) (n : ℕ) (r q : PlaneText) → TextPart s n r → TextPart s n q → r ≡ q
text_once s n r q e f =
    let a = e.begins ∙ sym f.begins in
    let b = e.long ∙ sym f.long in
    λ i. record { offset = a i; length = b i }

pub event_once : (s : List ℕ) (e : ℕ) (r q : PlaneEvent) → EventTold s e r → EventTold s e q → r ≡ q
event_once s e = equal_once (flat_event (event_at s e))

pub sample_word_once : (s : List ℕ) (e chip c t : ℕ) (r q : PlaneWord) → SampleWordTold s e chip c t r → SampleWordTold s e chip c t q → r ≡ q
sample_word_once s e chip c t = equal_once (flat_word (sample_word_at s e chip c t))

pub bin_word_once : (s : List ℕ) (chip c b : ℕ) (r q : PlaneWord) → BinWordTold s chip c b r → BinWordTold s chip c b q → r ≡ q
bin_word_once s chip c b = equal_once (flat_word (bin_word_at s chip c b))

pub follow_once : (x : PlaneFollower) (word : ℕ) (r q : PlaneFollowed) → FollowTold x word r → FollowTold x word q → r ≡ q
follow_once x word = equal_once (flat_followed x (follow (follower_of x) word))

pub new_assembler_once : (card : ℕ) (r q : PlaneAssembler) → AssemblerMade card r → AssemblerMade card q → r ≡ q
new_assembler_once card = equal_once (flat_assembler (new card))

pub take_once : (x : PlaneAssembler) (s : List ℕ) (r q : PlaneTaken) → TakeTold x s r → TakeTold x s q → r ≡ q
take_once x s = equal_once (flat_taken x (take (assembler_of x) s))

pub give_up_once : (x r q : PlaneAssembler) → GivenUpTold x r → GivenUpTold x q → r ≡ q
give_up_once x = equal_once (flat_assembler (give_up (assembler_of x)))

pub record_once : (b : List ℕ) (r q : PlaneRecord) → RecordTold b r → RecordTold b q → r ≡ q
record_once b = equal_once (flat_record (record_answer plane_frames (format_in b) b))

pub entry_once : (b : List ℕ) (n : ℕ) (r q : PlaneEntry) → EntryTold b n r → EntryTold b n q → r ≡ q
entry_once b n = equal_once (flat_entry (entry_answer plane_frames (format_in b) b n))

-- ---- an answer and all lent memory

leaves_once : {A : Type 0} (answer : A) (left : List ℕ) (r q : A) (b d : List ℕ) → Leaves answer left r b → Leaves answer left q d → (r ≡ q) × (b ≡ d)
leaves_once answer left r q b d e f = (e.answered ∙ sym f.answered, e.written ∙ sym f.written)

module _ (r q : PlaneDone) (l m : List ℕ) where
  pub samples_once : (s : List ℕ) (e chip c : ℕ) (found : List ℕ) → Sampled s e chip c found r l → Sampled s e chip c found q m → (r ≡ q) × (l ≡ m)
  samples_once s e chip c found = leaves_once _ _ r q l m

  pub counts_once : (s : List ℕ) (chip c : ℕ) (found : List ℕ) → Counted s chip c found r l → Counted s chip c found q m → (r ≡ q) × (l ≡ m)
  counts_once s chip c found = leaves_once _ _ r q l m

  pub open_once : (f found : List ℕ) → Opened f found r l → Opened f found q m → (r ≡ q) × (l ≡ m)
  open_once f found = leaves_once _ _ r q l m

  pub edit_once : (found : List ℕ) (c : Correction) → Edited found c r l → Edited found c q m → (r ≡ q) × (l ≡ m)
  edit_once found c = leaves_once _ _ r q l m

  pub restore_once : (b : List ℕ) (k : ℕ) (found : List ℕ) → Restored b k found r l → Restored b k found q m → (r ≡ q) × (l ≡ m)
  restore_once b k found = leaves_once _ _ r q l m

module _ (found : List ℕ) (r q : PlaneWritten) (l m : List ℕ) where
  pub begin_once : (kind card sequence : ℕ) → Begun found kind card sequence r l → Begun found kind card sequence q m → (r ≡ q) × (l ≡ m)
  begin_once kind card sequence = leaves_once _ _ r q l m

  pub add_once : (n : ℕ) (x : PlaneItem) → Added found n x r l → Added found n x q m → (r ≡ q) × (l ≡ m)
  add_once n x = leaves_once _ _ r q l m

  pub add_text_once : (n : ℕ) (text : List ℕ) → AddedText found n text r l → AddedText found n text q m → (r ≡ q) × (l ≡ m)
  add_text_once n text = leaves_once _ _ r q l m

  pub close_once : (n : ℕ) → Closed found n r l → Closed found n q m → (r ≡ q) × (l ≡ m)
  close_once n = leaves_once _ _ r q l m

pub edit_all_once : (found : List ℕ) (cs : List Correction) (r q : PlaneStopped) (l m : List ℕ) → EditedAll found cs r l → EditedAll found cs q m → (r ≡ q) × (l ≡ m)
edit_all_once found cs r q l m = leaves_once _ _ r q l m
