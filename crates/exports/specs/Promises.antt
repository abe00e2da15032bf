-- What each export promises, under a name: the flat answer, and the whole of what is left in lent memory. The exports' contracts and the theorems
-- of proofs/Once.antt are over these same names.
-- Assumes nothing.
use Rattle.std.specs.Prelude.{ℕ, ◌≡◌, List, length, take, drop, Result}
use Rattle.format.specs.Book.{class_of, row_of}
use Rattle.format.specs.Items.{Text, whole}
use Rattle.format.specs.Steps.{read_of}
use Rattle.format.specs.Questions.{shown_at, event_at, text_at, done, samples_at, samples_left, counts_at, counts_left, sample_word_at, bin_word_at}
use Rattle.format.specs.Writing.{add_answer, add_left, close_answer, close_left}
use Rattle.follower.specs.Follow.{follow}
use Rattle.follower.specs.Paper.{state_of}
use Rattle.follower.specs.declared.Follower.{Follower}
use Rattle.book.specs.Views.{view_item}
use Rattle.book.specs.declared.items.Item.{Item}
use Rattle.book.specs.declared.refusal.Refusal.{Refusal}
use Rattle.frame.specs.Parts.{text_from}
use Rattle.frame.specs.Views.{view_reading, view_found}
use Rattle.frame.specs.declared.items.IndexedItem.{IndexedItem}
use Rattle.frame.specs.declared.reading.Frame.{Frame}
use Rattle.assembler.specs.Views.{view_assembler}
use Rattle.assembler.specs.declared.Assembler.{Assembler}
use Rattle.questions.specs.Views.{view_event, view_word}
use Rattle.questions.specs.declared.answers.Event.{Event}
use Rattle.writer.specs.Views.{view_written}
use Rattle.records.specs.Views.{view_record, view_entry}
use Rattle.records.specs.declared.answers.Record.{Record}
use Rattle.records.specs.declared.answers.Entry.{Entry}
use Rattle.editor.specs.Views.{view_done}
use Rattle.runs.specs.Assembly as runs
use Rattle.runs.specs.Assembly.{new, give_up}
use Rattle.ledger.specs.Formats.{Correction}
use Rattle.ledger.specs.Calls.{record_answer, entry_answer, open_answer, open_exit, edit_answer, edit_exit, restore_answer, restore_exit}
use Rattle.ledger.specs.VersionTwo.{version_two}
use Rattle.ledger.specs.Versions.{format_in}
use Rattle.ledger.specs.PlaneFrames.{plane_frames}
use Rattle.corrections.specs.Lists.{list_answer, list_exit}
use Rattle.corrections.specs.Views.{view_corrected}
use Rattle.corrections.specs.declared.Stopped.{Stopped}
use Rattle.exports.specs.declared.answers.PlaneDone.{PlaneDone}
use Rattle.exports.specs.declared.answers.PlaneFrame.{PlaneFrame}
use Rattle.exports.specs.declared.answers.PlaneFound.{PlaneFound}
use Rattle.exports.specs.declared.answers.PlaneItem.{PlaneItem}
use Rattle.exports.specs.declared.answers.PlaneEvent.{PlaneEvent}
use Rattle.exports.specs.declared.answers.PlaneWord.{PlaneWord}
use Rattle.exports.specs.declared.answers.PlaneText.{PlaneText}
use Rattle.exports.specs.declared.answers.PlaneFollower.{PlaneFollower}
use Rattle.exports.specs.declared.answers.PlaneFollowed.{PlaneFollowed}
use Rattle.exports.specs.declared.answers.PlaneAssembler.{PlaneAssembler}
use Rattle.exports.specs.declared.answers.PlaneTaken.{PlaneTaken}
use Rattle.exports.specs.declared.answers.PlaneRecord.{PlaneRecord}
use Rattle.exports.specs.declared.answers.PlaneEntry.{PlaneEntry}
use Rattle.exports.specs.declared.answers.PlaneWritten.{PlaneWritten}
use Rattle.exports.specs.declared.answers.PlaneStopped.{PlaneStopped}
use Rattle.exports.specs.Flat.{flat_done, flat_frame, flat_item, flat_found, flat_event, flat_word, flat_follower, flat_followed, flat_assembler, flat_taken, flat_record, flat_entry, flat_written, flat_stopped}
use Rattle.exports.specs.Given.{follower_of, assembler_of, kind_of, begun, begun_left, token_of}

-- ---- between the library's values and the flat ones

abbrev pub FollowerGiven : PlaneFollower → Follower → Type 0
FollowerGiven x r = state_of r ≡ follower_of x

abbrev pub FollowerFlat : Follower → PlaneFollower → Type 0
FollowerFlat f r = r ≡ flat_follower (state_of f)

abbrev pub AssemblerGiven : PlaneAssembler → Assembler → Type 0
AssemblerGiven x r = view_assembler r ≡ assembler_of x

abbrev pub AssemblerFlat : Assembler → PlaneAssembler → Type 0
AssemblerFlat a r = r ≡ flat_assembler (view_assembler a)

abbrev pub DoneFlat : Result (Unit {0}) Refusal → PlaneDone → Type 0
DoneFlat o r = r ≡ flat_done (view_done o)

abbrev pub FrameFlat : Result Frame Refusal → PlaneFrame → Type 0
FrameFlat o r = r ≡ flat_frame (view_reading o)

abbrev pub ItemFlat : Item → PlaneItem → Type 0
ItemFlat x r = r ≡ flat_item (view_item x)

abbrev pub FoundFlat : Result IndexedItem Refusal → PlaneFound → Type 0
FoundFlat o r = r ≡ flat_found (view_found o)

abbrev pub EventFlat : Result Event Refusal → PlaneEvent → Type 0
EventFlat o r = r ≡ flat_event (view_event o)

abbrev pub WordFlat : Result ℕ Refusal → PlaneWord → Type 0
WordFlat o r = r ≡ flat_word (view_word o)

abbrev pub WrittenFlat : Result ℕ Refusal → PlaneWritten → Type 0
WrittenFlat o r = r ≡ flat_written (view_written o)

abbrev pub RecordFlat : Result Record Refusal → PlaneRecord → Type 0
RecordFlat o r = r ≡ flat_record (view_record o)

abbrev pub EntryFlat : Result Entry Refusal → PlaneEntry → Type 0
EntryFlat o r = r ≡ flat_entry (view_entry o)

abbrev pub StoppedFlat : Result (Unit {0}) Stopped → PlaneStopped → Type 0
StoppedFlat o r = r ≡ flat_stopped (view_corrected o)

-- ---- an answer alone

abbrev pub ClassNumbered : ℕ → ℕ → Type 0
ClassNumbered word r = r ≡ row_of (class_of word)

abbrev pub FrameTold : List ℕ → PlaneFrame → Type 0
FrameTold s r = r ≡ flat_frame (read_of s)

abbrev pub ItemTold : List ℕ → ℕ → PlaneFound → Type 0
ItemTold s n r = r ≡ flat_found (shown_at s n)

-- the part that the text question gives, by where it begins in the frame and how long it is
pub record TextPart (s : List ℕ) (n : ℕ) (r : PlaneText) : Type 0 where
  pub begins : r.offset ≡ text_from s n
  pub long : r.length ≡ length (text_at s n)
  pub bytes_are : take r.length (drop r.offset s) ≡ text_at s n

abbrev pub EventTold : List ℕ → ℕ → PlaneEvent → Type 0
EventTold s e r = r ≡ flat_event (event_at s e)

abbrev pub SampleWordTold : List ℕ → ℕ → ℕ → ℕ → ℕ → PlaneWord → Type 0
SampleWordTold s e chip c time r = r ≡ flat_word (sample_word_at s e chip c time)

abbrev pub BinWordTold : List ℕ → ℕ → ℕ → ℕ → PlaneWord → Type 0
BinWordTold s chip c bin r = r ≡ flat_word (bin_word_at s chip c bin)

abbrev pub FollowTold : PlaneFollower → ℕ → PlaneFollowed → Type 0
FollowTold follower word r = r ≡ flat_followed follower (follow (follower_of follower) word)

abbrev pub AssemblerMade : ℕ → PlaneAssembler → Type 0
AssemblerMade card r = r ≡ flat_assembler (new card)

abbrev pub TakeTold : PlaneAssembler → List ℕ → PlaneTaken → Type 0
TakeTold assembler s r = r ≡ flat_taken assembler (runs.take (assembler_of assembler) s)

abbrev pub GivenUpTold : PlaneAssembler → PlaneAssembler → Type 0
GivenUpTold assembler r = r ≡ flat_assembler (give_up (assembler_of assembler))

abbrev pub RecordTold : List ℕ → PlaneRecord → Type 0
RecordTold b r = r ≡ flat_record (record_answer plane_frames (format_in b) b)

abbrev pub EntryTold : List ℕ → ℕ → PlaneEntry → Type 0
EntryTold b n r = r ≡ flat_entry (entry_answer plane_frames (format_in b) b n)

-- ---- an answer and the memory it leaves, whole

pub record Leaves {A : Type 0} (answer : A) (left : List ℕ) (answer' : A) (left' : List ℕ) : Type 0 where
  pub answered : answer' ≡ answer
  pub written : left' ≡ left

abbrev pub Sampled : List ℕ → ℕ → ℕ → ℕ → List ℕ → PlaneDone → List ℕ → Type 0
Sampled s e chip c found = Leaves (flat_done (done (samples_at s e chip c (length found)))) (samples_left (samples_at s e chip c (length found)) found)

abbrev pub Counted : List ℕ → ℕ → ℕ → List ℕ → PlaneDone → List ℕ → Type 0
Counted s chip c found = Leaves (flat_done (done (counts_at s chip c (length found)))) (counts_left (counts_at s chip c (length found)) found)

abbrev pub Begun : List ℕ → ℕ → ℕ → ℕ → PlaneWritten → List ℕ → Type 0
Begun found kind card sequence = Leaves (flat_written (begun (kind_of kind) found card sequence)) (begun_left (kind_of kind) found card sequence)

abbrev pub Added : List ℕ → ℕ → PlaneItem → PlaneWritten → List ℕ → Type 0
Added found n item = Leaves (flat_written (add_answer found n (token_of item))) (add_left found n (token_of item))

abbrev pub AddedText : List ℕ → ℕ → List ℕ → PlaneWritten → List ℕ → Type 0
AddedText found n text = Leaves (flat_written (add_answer found n (whole (Text text)))) (add_left found n (whole (Text text)))

abbrev pub Closed : List ℕ → ℕ → PlaneWritten → List ℕ → Type 0
Closed found n = Leaves (flat_written (close_answer found n)) (close_left found n)

abbrev pub Opened : List ℕ → List ℕ → PlaneDone → List ℕ → Type 0
Opened f found = Leaves (flat_done (open_answer plane_frames version_two f found)) (open_exit plane_frames version_two f found)

abbrev pub Edited : List ℕ → Correction → PlaneDone → List ℕ → Type 0
Edited found c = Leaves (flat_done (edit_answer plane_frames version_two found c)) (edit_exit plane_frames version_two found c)

abbrev pub EditedAll : List ℕ → List Correction → PlaneStopped → List ℕ → Type 0
EditedAll found cs = Leaves (flat_stopped (list_answer plane_frames version_two found cs)) (list_exit plane_frames version_two found cs)

abbrev pub Restored : List ℕ → ℕ → List ℕ → PlaneDone → List ℕ → Type 0
Restored b k found = Leaves (flat_done (restore_answer plane_frames (format_in b) b k found)) (restore_exit plane_frames (format_in b) b k found)
