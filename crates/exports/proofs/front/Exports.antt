-- The front page of the calls for C, Rust and Python: what a caller may go by. Each call's promise is its contract in src/, which exports_c has
-- word for word for the static library; here is what the promise says of
-- `refused`: it is 0 exactly where the documents' call is accepted, and where it is not 0, all lent memory is as found. To this there is one exception,
-- document 02's own: a list of corrections that stops leaves those before its position standing, and has changed nothing else (`edit_all_leaves`).
-- That a promise has one answer is Unique.antt. Each theorem cites one law, at what the call is.
-- Assumes nothing.
use Prim.Native.Nat.{ℕ, ◌≤◌}
use mathlib.Core.Path.{◌≡◌}
use mathlib.Core.Logic.{◌↔◌}
use mathlib.Core.List.{List, map}
use mathlib.Core.Option.{Option}
use lib.ListN.{length}
use Rattle.format.specs.Words.{Bytes}
use Rattle.format.specs.Answers.{accepted}
use Rattle.format.specs.Items.{Text, whole}
use Rattle.format.specs.Rules.{Kind}
use Rattle.format.specs.Steps.{Overview, read_of}
use Rattle.format.specs.Questions.{IndexedShown, shown_at, Event, event_at, samples_at, counts_at, done, sample_word_at, bin_word_at}
use Rattle.format.specs.Writing.{add_answer, add_left, close_answer, close_left}
use Rattle.format.proofs.front.Writing.{add_refused_leaves, close_refused_leaves}
use Rattle.follower.specs.Follow as follow
use Rattle.runs.specs.Assembly.{Taken, take, after}
use Rattle.ledger.specs.Formats as formats
use Rattle.ledger.specs.Calls.{Summary, record_answer, entry_answer, open_answer, edit_answer, restore_answer}
use Rattle.ledger.specs.VersionTwo.{version_two}
use Rattle.ledger.specs.Versions.{format_in}
use Rattle.ledger.specs.PlaneFrames.{plane_frames}
use Rattle.ledger.proofs.calls.Writes.{open_found, edit_found, restore_found}
use Rattle.book.specs.declared.refusal.Refusal.{Refusal}
use Rattle.book.specs.Refusals.{number_of}
use Rattle.editor.specs.declared.editing.Correction.{Correction}
use Rattle.editor.specs.Views.{asked}
use Rattle.corrections.specs.Lists as lists
use Rattle.corrections.specs.Lists.{list_answer}
use Rattle.corrections.specs.Singly.{StoppedAt}
use Rattle.exports.specs.declared.answers.PlaneDone.{PlaneDone}
use Rattle.exports.specs.declared.answers.PlaneFrame.{PlaneFrame}
use Rattle.exports.specs.declared.answers.PlaneItem.{PlaneItem}
use Rattle.exports.specs.declared.answers.PlaneFound.{PlaneFound}
use Rattle.exports.specs.declared.answers.PlaneEvent.{PlaneEvent}
use Rattle.exports.specs.declared.answers.PlaneWord.{PlaneWord}
use Rattle.exports.specs.declared.answers.PlaneWritten.{PlaneWritten}
use Rattle.exports.specs.declared.answers.PlaneFollower.{PlaneFollower}
use Rattle.exports.specs.declared.answers.PlaneFollowed.{PlaneFollowed}
use Rattle.exports.specs.declared.answers.PlaneAssembler.{PlaneAssembler}
use Rattle.exports.specs.declared.answers.PlaneTaken.{PlaneTaken}
use Rattle.exports.specs.declared.answers.PlaneRecord.{PlaneRecord}
use Rattle.exports.specs.declared.answers.PlaneEntry.{PlaneEntry}
use Rattle.exports.specs.declared.answers.PlaneStopped.{PlaneStopped}
use Rattle.exports.specs.Flat.{flat_frame, flat_found, flat_event, flat_word, flat_written, flat_followed, flat_taken, flat_record, flat_entry}
use Rattle.exports.specs.Given.{follower_of, assembler_of, begun, begun_left, token_of}
use Rattle.exports.specs.Promises.{Leaves, Sampled, Counted, Opened, Edited, EditedAll, Restored}
use Rattle.exports.proofs.NumberLaws as numbers
use Rattle.exports.proofs.RefusedLaws as law
use Rattle.exports.proofs.RefusedLaws.{kept, samples_found, counts_found, begin_found}
use Rattle.exports.proofs.Unique.{exactly, done_tells, frame_tells, found_tells, event_tells, word_tells, written_tells, record_tells, entry_tells, taken_tells, takes_on}

-- ---- the questions

module _ (s : List ℕ) (bs : Bytes s) where
  pub read_accepts : (r : PlaneFrame) → r ≡ flat_frame (read_of s) → (r.refused ≡ 0) ↔ ((f : Overview) × (read_of s ≡ accepted f))
  read_accepts = exactly _ _ _ _ _ frame_tells (read_of s) (numbers.read_numbered s bs)

  pub item_accepts : (n : ℕ) (r : PlaneFound) → r ≡ flat_found (shown_at s n) → (r.refused ≡ 0) ↔ ((x : IndexedShown) × (shown_at s n ≡ accepted x))
  item_accepts n = exactly _ _ _ _ _ found_tells (shown_at s n) (numbers.item_numbered s bs n)

  pub event_accepts : (e : ℕ) (r : PlaneEvent) → r ≡ flat_event (event_at s e) → (r.refused ≡ 0) ↔ ((x : Event) × (event_at s e ≡ accepted x))
  event_accepts e = exactly _ _ _ _ _ event_tells (event_at s e) (numbers.event_numbered s bs e)

  pub sample_word_accepts : (e chip c t : ℕ) (r : PlaneWord) → r ≡ flat_word (sample_word_at s e chip c t) → (r.refused ≡ 0) ↔ ((w : ℕ) × (sample_word_at s e chip c t ≡ accepted w))
  sample_word_accepts e chip c t = exactly _ _ _ _ _ word_tells (sample_word_at s e chip c t) (numbers.sample_word_numbered s bs e chip c t)

  pub bin_word_accepts : (chip c b : ℕ) (r : PlaneWord) → r ≡ flat_word (bin_word_at s chip c b) → (r.refused ≡ 0) ↔ ((w : ℕ) × (bin_word_at s chip c b ≡ accepted w))
  bin_word_accepts chip c b = exactly _ _ _ _ _ word_tells (bin_word_at s chip c b) (numbers.bin_word_numbered s bs chip c b)

  module _ (out : List ℕ) (r : PlaneDone) (left : List ℕ) where
    pub samples_accepts : (e chip c : ℕ) → Sampled s e chip c out r left → (r.refused ≡ 0) ↔ ((u : Unit {0}) × (done (samples_at s e chip c (length out)) ≡ accepted u))
    samples_accepts e chip c w = exactly _ _ _ _ _ done_tells _ (numbers.samples_numbered s bs e chip c (length out)) r w.answered

    pub counts_accepts : (chip c : ℕ) → Counted s chip c out r left → (r.refused ≡ 0) ↔ ((u : Unit {0}) × (done (counts_at s chip c (length out)) ≡ accepted u))
    counts_accepts chip c w = exactly _ _ _ _ _ done_tells _ (numbers.counts_numbered s bs chip c (length out)) r w.answered

module _ (s out : List ℕ) (r : PlaneDone) (left : List ℕ) where
  pub samples_leaves : (e chip c : ℕ) → Sampled s e chip c out r left → 1 ≤ r.refused → left ≡ out
  samples_leaves e chip c = kept _ _ _ _ _ done_tells _ _ out (samples_found (samples_at s e chip c (length out)) out) r left

  pub counts_leaves : (chip c : ℕ) → Counted s chip c out r left → 1 ≤ r.refused → left ≡ out
  counts_leaves chip c = kept _ _ _ _ _ done_tells _ _ out (counts_found (counts_at s chip c (length out)) out) r left

-- ---- the writer

module _ (buf : List ℕ) (r : PlaneWritten) (left : List ℕ) where
  module _ (kind : Option Kind) (card sequence : ℕ) (w : Leaves (flat_written (begun kind buf card sequence)) (begun_left kind buf card sequence) r left) where
    pub begin_accepts : (r.refused ≡ 0) ↔ ((n : ℕ) × (begun kind buf card sequence ≡ accepted n))
    begin_accepts = exactly _ _ _ _ _ written_tells _ (numbers.begin_numbered kind buf card sequence) r w.answered

    pub begin_leaves : 1 ≤ r.refused → left ≡ buf
    begin_leaves = kept _ _ _ _ _ written_tells _ _ buf (begin_found kind buf card sequence) r left w

  module _ (n : ℕ) where
    module _ (x : PlaneItem) (w : Leaves (flat_written (add_answer buf n (token_of x))) (add_left buf n (token_of x)) r left) where
      pub add_accepts : Bytes buf → (r.refused ≡ 0) ↔ ((m : ℕ) × (add_answer buf n (token_of x) ≡ accepted m))
      add_accepts bs = exactly _ _ _ _ _ written_tells _ (numbers.add_numbered buf bs n x) r w.answered

      pub add_leaves : 1 ≤ r.refused → left ≡ buf
      add_leaves = kept _ _ _ _ _ written_tells _ _ buf (add_refused_leaves buf n (token_of x)) r left w

    module _ (t : List ℕ) (w : Leaves (flat_written (add_answer buf n (whole (Text t)))) (add_left buf n (whole (Text t))) r left) where
      pub add_text_accepts : Bytes buf → (r.refused ≡ 0) ↔ ((m : ℕ) × (add_answer buf n (whole (Text t)) ≡ accepted m))
      add_text_accepts bs = exactly _ _ _ _ _ written_tells _ (numbers.add_text_numbered buf bs n t) r w.answered

      pub add_text_leaves : 1 ≤ r.refused → left ≡ buf
      add_text_leaves = kept _ _ _ _ _ written_tells _ _ buf (add_refused_leaves buf n (whole (Text t))) r left w

    module _ (w : Leaves (flat_written (close_answer buf n)) (close_left buf n) r left) where
      pub close_accepts : Bytes buf → (r.refused ≡ 0) ↔ ((m : ℕ) × (close_answer buf n ≡ accepted m))
      close_accepts bs = exactly _ _ _ _ _ written_tells _ (numbers.close_numbered buf bs n) r w.answered

      pub close_leaves : 1 ≤ r.refused → left ≡ buf
      close_leaves = kept _ _ _ _ _ written_tells _ _ buf (close_refused_leaves buf n) r left w

-- ---- the follower

pub follow_accepts : (x : PlaneFollower) (word : ℕ) (r : PlaneFollowed) → r ≡ flat_followed x (follow.follow (follower_of x) word)
    → (r.refused ≡ 0) ↔ ((lost : ℕ) × (next : follow.State) × (follow.follow (follower_of x) word ≡ follow.accepted lost next))
follow_accepts = law.follow_accepts

-- ---- the assembler: the one answered goes on where the one given left off, and on a refusal is as it was

pub take_accepts : (x : PlaneAssembler) (s : List ℕ) → Bytes s → (r : PlaneTaken) → r ≡ flat_taken x (take (assembler_of x) s)
    → (r.refused ≡ 0) ↔ ((t : Taken) × (take (assembler_of x) s ≡ accepted t))
take_accepts x s bs = exactly _ _ _ _ _ (taken_tells x) (take (assembler_of x) s) (numbers.take_numbered s bs (assembler_of x))

pub take_goes_on : (x : PlaneAssembler) (s : List ℕ) → assembler_of (flat_taken x (take (assembler_of x) s)).next ≡ after (assembler_of x) (take (assembler_of x) s)
take_goes_on x s = takes_on x (take (assembler_of x) s)

-- ---- records

module _ (b : List ℕ) (bs : Bytes b) where
  pub record_accepts : (r : PlaneRecord) → r ≡ flat_record (record_answer plane_frames (format_in b) b) → (r.refused ≡ 0) ↔ ((x : Summary) × (record_answer plane_frames (format_in b) b ≡ accepted x))
  record_accepts = exactly _ _ _ _ _ record_tells _ (numbers.record_numbered b bs)

  pub entry_accepts : (j : ℕ) (r : PlaneEntry) → r ≡ flat_entry (entry_answer plane_frames (format_in b) b j) → (r.refused ≡ 0) ↔ ((x : formats.Entry) × (entry_answer plane_frames (format_in b) b j ≡ accepted x))
  entry_accepts j = exactly _ _ _ _ _ entry_tells _ (numbers.entry_numbered b bs j)

  module _ (r : PlaneDone) (left : List ℕ) where
    -- of the frame b
    pub open_accepts : (buf : List ℕ) → Opened b buf r left → (r.refused ≡ 0) ↔ ((u : Unit {0}) × (open_answer plane_frames version_two b buf ≡ accepted u))
    open_accepts buf w = exactly _ _ _ _ _ done_tells _ (numbers.open_numbered b bs buf) r w.answered

    pub edit_accepts : (c : Correction) → Edited b (asked c) r left → (r.refused ≡ 0) ↔ ((u : Unit {0}) × (edit_answer plane_frames version_two b (asked c) ≡ accepted u))
    edit_accepts c w = exactly _ _ _ _ _ done_tells _ (numbers.edit_numbered b bs c) r w.answered

    pub restore_accepts : (k : ℕ) (out : List ℕ) → Restored b k out r left → (r.refused ≡ 0) ↔ ((u : Unit {0}) × (restore_answer plane_frames (format_in b) b k out ≡ accepted u))
    restore_accepts k out w = exactly _ _ _ _ _ done_tells _ (numbers.restore_numbered b bs k out) r w.answered

module _ (b : List ℕ) (r : PlaneDone) (left : List ℕ) (l : 1 ≤ r.refused) where
  -- of the frame f, in b
  pub open_leaves : (f : List ℕ) → Opened f b r left → left ≡ b
  open_leaves f w = kept _ _ _ _ _ done_tells _ _ b (open_found plane_frames version_two f b) r left w l

  pub edit_leaves : (c : Correction) → Edited b (asked c) r left → left ≡ b
  edit_leaves c w = kept _ _ _ _ _ done_tells _ _ b (edit_found plane_frames version_two b (asked c)) r left w l

  pub restore_leaves : (k : ℕ) (out : List ℕ) → Restored b k out r left → left ≡ out
  restore_leaves k out w = kept _ _ _ _ _ done_tells _ _ out (restore_found plane_frames (format_in b) b k out) r left w l

-- ---- a list of corrections: where it stops, the corrections before its position were made, one by one, and the one there is refused on what they left
-- (corrections' specs/Singly.antt, `StoppedAt`)

module _ (b : List ℕ) (cs : List Correction) (r : PlaneStopped) (left : List ℕ) (w : EditedAll b (map asked cs) r left) where
  pub edit_all_accepts : Bytes b → (r.refused ≡ 0) ↔ (list_answer plane_frames version_two b (map asked cs) ≡ lists.done)
  edit_all_accepts = law.edit_all_accepts b cs r left w

  pub edit_all_leaves : 1 ≤ r.refused → (q : Refusal) × ((number_of q.fault ≡ r.refused) × ((q.place ≡ r.place) × StoppedAt b cs r.position q left))
  edit_all_leaves = law.edit_all_leaves b cs r left w
