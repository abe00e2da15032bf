-- Demand 2, in the client's words, for frames. Each sentence is a theorem stated in full and proved by citing one law. What the statements say
-- is in specs/Frames.antt (`Legal`, `encode`, `verdict`), specs/Rules.antt, specs/Items.antt, specs/Faults.antt, specs/Tree.antt and
-- specs/Runs.antt; the questions' and the writer's own pages are Questions.antt and Writing.antt beside this one. The second half says the same of
-- what the questions answer and what the writer is handed (specs/Handing.antt); of the code's own calls: writer/proofs/front/Demand2.antt.
-- Assumes nothing.
use Prim.Native.Nat.{ℕ, ◌+◌, ◌<◌, ◌≤◌}
use mathlib.Core.Path.{◌≡◌}
use mathlib.Core.List.{List, [], ◌∷◌, ◌++◌, map}
use mathlib.Core.Logic.{◌↔◌, ◌⊎◌}
use mathlib.Core.Bool.{true}
use lib.ListN.{length, drop}
use Rattle.format.specs.Words.{Bytes, bytes}
use Rattle.format.specs.Answers.{accepted, refused}
use Rattle.format.specs.Items.{Item, words_of, Token, whole}
use Rattle.format.specs.Rules.{Kind, may_end}
use Rattle.format.specs.Frames.{Frame, earlier_then, Sound, encode, Legal, verdict}
use Rattle.format.specs.Faults.{Refused, Answered}
use Rattle.format.specs.Tree.{Tree, leaves, TreeOf}
use Rattle.format.specs.WriterCases.{WritingDone}
use Rattle.format.specs.WriterCalls.{calls_done, write_all}
use Rattle.format.specs.Questions.{IndexedShown, shown_at}
use Rattle.format.specs.Steps.{Overview, read_of}
use Rattle.format.specs.Handing.{StandsFor, ItemAnswer, item_answer_of, Answers, answer_words, all_answer_words, frame_told, Call, token_of_call, call_of, hand_over, write_calls, CallsWrote}
use Rattle.format.proofs.verdict.Acceptance.{exactly}
use Rattle.format.proofs.verdict.RefusalLaws as refusals
use Rattle.format.proofs.tree.TreeLaws as tree
use Rattle.format.proofs.writer.Completeness.{written, too_short, writing_done, rewritten}
use Rattle.format.proofs.writer.HandingLaws as handing

-- "A frame is accepted exactly when it follows our word book and frame rules" (T5)
pub accepted_exactly : (s : List ℕ) → Bytes s → (f : Frame) → (verdict s ≡ accepted f) ↔ (Legal f × (s ≡ encode f))
accepted_exactly = exactly

-- "and then read as the one kind, card, sequence word and list of items it stands for" (T6)
pub one_reading : (f g : Frame) → Legal f → Legal g → encode f ≡ encode g → f ≡ g
one_reading = refusals.one_reading

-- and otherwise refused, by the number and at the place that document 01 gives, and by no other (T7); never both (T8)
pub refused_exactly : (s : List ℕ) → Bytes s → (n p : ℕ) → (verdict s ≡ refused n p) ↔ Refused s n p
refused_exactly = refusals.refusals

pub one_answer : (s : List ℕ) → Bytes s → Answered s
one_answer = refusals.answered

-- the rules are those of the grammar written as a tree with limits of its own, which is unique (T6b): a second writing guards the first
pub rules_as_tree : (kind : Kind) (card : ℕ) (xs : List Item) → (Sound kind card [] xs × (may_end (earlier_then [] xs) ≡ true)) ↔ TreeOf kind card xs
rules_as_tree = tree.as_tree

pub one_tree : (kind : Kind) (t u : Tree kind) → leaves kind t ≡ leaves kind u → t ≡ u
one_tree = tree.one_tree

-- "Every list that the rules allow can be written, if it fits" (T18): that it does not fit is the only reason against (T18b)
pub every_list_is_written : (f : Frame) → Legal f → (buf : List ℕ) → length (encode f) ≤ length buf
    → write_all buf f.kind f.card f.sequence (map whole f.items) ≡ calls_done (accepted (length (encode f))) (encode f ++ drop (length (encode f)) buf)
every_list_is_written = written

pub only_room : (f : Frame) → f.card ≤ 31 → f.sequence ≤ 0x0100 → Sound f.kind f.card [] f.items → (buf : List ℕ)
    → (length buf < length (encode f)) ⊎ (8192 < length (encode f)) → (write_all buf f.kind f.card f.sequence (map whole f.items)).answer ≡ refused 12 0
only_room = too_short

-- "and reads back as itself" (T19): whatever the calls accept is a legal frame of exactly the items added
pub reads_back : (buf : List ℕ) (kind : Kind) (card sequence : ℕ) (ts : List Token) (m : ℕ) (left : List ℕ)
    → write_all buf kind card sequence ts ≡ calls_done (accepted m) left → WritingDone buf kind card sequence ts m left
reads_back = writing_done

-- "an accepted frame written again has the same bytes" (T20)
pub same_bytes : (s : List ℕ) → Bytes s → (f : Frame) → verdict s ≡ accepted f → (buf : List ℕ) → length s ≤ length buf
    → write_all buf f.kind f.card f.sequence (map whole f.items) ≡ calls_done (accepted (length s)) (s ++ drop (length s) buf)
same_bytes = rewritten

-- and these speak of something: of every kind, card and sequence word the frame without items is legal
pub some_legal : (kind : Kind) (card sequence : ℕ) → card ≤ 31 → sequence ≤ 0x0100 → Legal (record { kind = kind; card = card; sequence = sequence; items = [] })
some_legal = refusals.empty_legal

-- ---- the same over what the questions answer and what the writer is handed

-- What is told of an item is its words: the first of its class's printed range with the fields of its column "Content, high bits first", and the
-- words after it. So no content is answered in another's place.
pub items_are_told : (index : ℕ) (x : Item) (next : ℕ) → answer_words (item_answer_of index x next) ≡ words_of x
items_are_told = handing.told_words

-- What `item` and `text` answer of an item, handed to `add` or `add_text`, is that item; and nothing else that is handed over is.
pub answers_hand_over : (x : Item) → token_of_call (hand_over x) ≡ whole x
answers_hand_over = handing.handed_over

pub one_call : (c : Call) (x : Item) → token_of_call c ≡ whole x → c ≡ hand_over x
one_call = handing.handed_back

-- "A frame is accepted exactly when it follows our word book and frame rules": so `read` answers,
pub read_exactly : (s : List ℕ) → Bytes s → (o : Overview) → (read_of s ≡ accepted o) ↔ StandsFor s o
read_exactly = handing.read_exactly

pub read_refused_exactly : (s : List ℕ) → Bytes s → (n p : ℕ) → (read_of s ≡ refused n p) ↔ Refused s n p
read_refused_exactly = handing.read_refused

-- "and then read as the one kind, card, sequence word and list of items it stands for": the answers are those of its items,
pub read_as_its_items : (s : List ℕ) → Bytes s → (o : Overview) (a : StandsFor s o) (xs : List ItemAnswer) → Answers s 0 xs → length xs ≡ o.items
    → map call_of xs ≡ map hand_over a.frame.items
read_as_its_items = handing.its_items

-- two callers are answered the same,
pub one_list_of_answers : (s : List ℕ) (n : ℕ) (xs ys : List ItemAnswer) → Answers s n xs → Answers s n ys → length xs ≡ length ys → xs ≡ ys
one_list_of_answers s n xs ys = handing.told_once

-- and where `read` accepts,
module _ (s : List ℕ) (o : Overview) (read : read_of s ≡ accepted o) where
  -- "The item at ordinal n (from 0) answers with its class and content" (T10), for each of the items that `read` counts, and for no further one;
  pub all_items_are_answered : (xs : List ItemAnswer) × Answers s 0 xs × (length xs ≡ o.items)
  all_items_are_answered = handing.all_answered s o read

  pub each_item_is_answered : (n : ℕ) → n < o.items → (x : IndexedShown) × (shown_at s n ≡ accepted x)
  each_item_is_answered = handing.each_answered s o read

  pub no_further_item : (n : ℕ) → o.items ≤ n → shown_at s n ≡ refused 13 0
  no_further_item = handing.no_further s o read

  module _ (xs : List ItemAnswer) (answers : Answers s 0 xs) (count : length xs ≡ o.items) where
    -- with "the index of the next item or end word": behind the first three words and those of the items so far;
    pub next_index : (before after : List ItemAnswer) (x : ItemAnswer) → xs ≡ before ++ (x ∷ after) → x.answer.next ≡ 3 + length (all_answer_words (before ++ (x ∷ [])))
    next_index = handing.told_next s o read xs answers count

    -- and with its own index: behind those words and the words of the items before it;
    pub own_index : (before after : List ItemAnswer) (x : ItemAnswer) → xs ≡ before ++ (x ∷ after) → x.answer.index ≡ 3 + length (all_answer_words before)
    own_index = handing.told_index s o read xs answers count

    -- and the answers say every byte of the frame.
    pub every_byte_is_told : Bytes s → s ≡ bytes (frame_told (length s) o xs)
    every_byte_is_told = handing.all_told s o read xs answers count

    -- "an accepted frame written again has the same bytes" (T20): begin, add, add_text and close, handed what read, item and text answered
    pub copied_by_calls : Bytes s → (buf : List ℕ) → length s ≤ length buf
        → write_calls buf o.kind o.card o.sequence (map call_of xs) ≡ calls_done (accepted (length s)) (s ++ drop (length s) buf)
    copied_by_calls = handing.copied s o read xs answers count

-- "Every list that the rules allow can be written, if it fits", by calls of add and add_text (T18, T18b),
pub every_list_is_written_by_calls : (f : Frame) → Legal f → (buf : List ℕ) → length (encode f) ≤ length buf
    → write_calls buf f.kind f.card f.sequence (map hand_over f.items) ≡ calls_done (accepted (length (encode f))) (encode f ++ drop (length (encode f)) buf)
every_list_is_written_by_calls = handing.calls_written

pub only_room_by_calls : (f : Frame) → f.card ≤ 31 → f.sequence ≤ 0x0100 → Sound f.kind f.card [] f.items → (buf : List ℕ)
    → (length buf < length (encode f)) ⊎ (8192 < length (encode f)) → (write_calls buf f.kind f.card f.sequence (map hand_over f.items)).answer ≡ refused 12 0
only_room_by_calls = handing.calls_too_short

-- "and reads back as itself" (T19): whatever a run of calls accepts is a legal frame of the items handed over, of which the questions answer just
-- what was handed over
pub calls_read_back : (buf : List ℕ) (kind : Kind) (card sequence : ℕ) (cs : List Call) (m : ℕ) (left : List ℕ)
    → write_calls buf kind card sequence cs ≡ calls_done (accepted m) left → CallsWrote buf kind card sequence cs m left
calls_read_back = handing.calls_wrote
