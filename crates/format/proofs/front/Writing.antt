-- Front page of the writer (document 01, "Reading and writing items"): T15 to T20 and T33 to T35 in full, each by citing one law. What the
-- statements say is in specs/Writing.antt, specs/Faults.antt, specs/WriterCases.antt and specs/Runs.antt.
-- Assumes nothing.
use Prim.Native.Nat.{ℕ, ◌+◌, ◌<◌, ◌≤◌}
use mathlib.Core.Path.{◌≡◌}
use mathlib.Core.List.{List, [], ◌∷◌, ◌++◌, map}
use mathlib.Core.Logic.{◌↔◌, ◌⊎◌}
use mathlib.Core.Bool.{true}
use lib.ListN.{length, get_or, take, drop}
use Rattle.format.specs.Words.{Bytes, bytes}
use Rattle.format.specs.Answers.{Outcome, accepted, refused}
use Rattle.format.specs.Items.{ItemOf, Item, words_of, Token, whole}
use Rattle.format.specs.Rules.{Kind}
use Rattle.format.specs.Frames.{Frame, earlier_then, Sound, encode, Legal, verdict}
use Rattle.format.specs.Writing.{Partial, partial_words, partial_verdict, begin_answer, begin_left, given, add_answer, add_left, close_answer, close_left}
use Rattle.format.specs.WriterCases.{PartialAnswer, content, with_item, framed, Ends, one_of, PartialRefused, Begin, handed, Add, Short, Close, Holds, WritingDone}
use Rattle.format.specs.WriterCalls.{calls_done, write_all}
use Rattle.format.proofs.verdict.RefusalLaws.{empty_legal}
use Rattle.format.proofs.writer.PartialRefusals.{partial_exactly}
use Rattle.format.proofs.rules.SoundLaws.{sound_left}
use Rattle.format.proofs.writer.NoDeadEnd.{no_dead_end, partial_ends}
use Rattle.format.proofs.writer.WriterLaws.{begin_exactly, add_exactly, close_exactly}
use Rattle.format.proofs.writer.StoreLaws.{begin_left_lem, add_left_lem, begin_found, add_found, close_found, begin_bytes, add_bytes, close_bytes, begin_kept, add_kept, close_kept}
use Rattle.format.proofs.writer.WriterSteps.{begin_judged, add_judged, close_frame}
use Rattle.format.proofs.writer.WriterNumbers.{partial_refused, partial_numbers_lem, add_room, begin_numbers_lem, given_handed, add_numbers_lem, close_numbers_lem}
use Rattle.format.proofs.writer.Completeness.{written, too_short, writing_done, rewritten}

-- T15. "Add and close first judge the partial frame by rules 1 to 10, with this length (even, at most the buffer's) and size word and without
-- rule 5": it is accepted exactly where a sound list of items begins to be written so, and refused by the first broken rule of 1 to 4, or "the first
-- faulty item gives its first of 6 to 10", with its place
pub partial_frame : (buf : List ℕ) → Bytes buf → (n : ℕ) (o : Outcome Partial) → (partial_verdict buf n ≡ o) ↔ PartialAnswer buf n o
partial_frame = partial_exactly

pub partial_refusal : (buf : List ℕ) → Bytes buf → (n k q : ℕ) → partial_verdict buf n ≡ refused k q → PartialRefused n k q
partial_refusal = partial_refused

-- T16. No dead end: a list that the rules allow so far can be continued to one that may end, the length of the result apart; so can what stands
-- in every accepted partial frame. Every first part of a sound list is sound.
pub continues : (kind : Kind) (card : ℕ) (xs : List Item) → Sound kind card [] xs ↔ Ends kind card xs
continues = no_dead_end

pub partial_continues : (buf : List ℕ) → Bytes buf → (n : ℕ) (f : Partial) → partial_verdict buf n ≡ accepted f → Ends f.kind f.card (earlier_then [] f.earlier)
partial_continues = partial_ends

pub first_part : (kind : Kind) (card : ℕ) (p xs ys : List Item) → Sound kind card p (xs ++ ys) → Sound kind card p xs
first_part = sound_left

-- T17, begin. "Begin refuses card over 31 by 9, sequence word by 4, a buffer under 8 bytes by 12, in that order"
pub begin_answers : (buf : List ℕ) (card sequence : ℕ) (o : Outcome ℕ) → (begin_answer buf card sequence ≡ o) ↔ Begin buf card sequence o
begin_answers = begin_exactly

pub begin_writes : (buf : List ℕ) (kind : Kind) (card sequence m : ℕ) → begin_answer buf card sequence ≡ accepted m
    → begin_left buf kind card sequence ≡ bytes (partial_words kind card sequence []) ++ drop 6 buf
begin_writes = begin_left_lem

pub begin_makes : (buf : List ℕ) (kind : Kind) (card sequence m : ℕ) → begin_answer buf card sequence ≡ accepted m
    → partial_verdict (begin_left buf kind card sequence) 6 ≡ accepted (content kind card sequence [])
begin_makes = begin_judged

-- T17, add. "Add then tests 8, 9, 10 for the new item and last 12: given exactly when the frame with this item and an end word would pass the
-- buffer or 8,192 bytes"; each "answers the new length"
pub add_answers : (buf : List ℕ) (n : ℕ) (t : Token) (o : Outcome ℕ) → (add_answer buf n t ≡ o) ↔ Add buf n t o
add_answers = add_exactly

pub add_without_room : (buf : List ℕ) → Bytes buf → (n : ℕ) (t : Token) → handed t ≡ true → (p : ℕ) → (add_answer buf n t ≡ refused 12 p) ↔ Short buf n t p
add_without_room = add_room

pub add_writes : (buf : List ℕ) (n : ℕ) (x : Item) (m : ℕ) → add_answer buf n (whole x) ≡ accepted m
    → add_left buf n (whole x) ≡ take n buf ++ (bytes (words_of x) ++ drop m buf)
add_writes = add_left_lem

pub add_makes : (buf : List ℕ) → Bytes buf → (n : ℕ) (x : Item) (m : ℕ) (f : Partial) → partial_verdict buf n ≡ accepted f → add_answer buf n (whole x) ≡ accepted m
    → partial_verdict (add_left buf n (whole x)) m ≡ accepted (with_item f x)
add_makes = add_judged

-- T17, close. "Close refuses 11, then 12 if the end word doesn't fit; it writes the size and end words"
pub close_answers : (buf : List ℕ) (n : ℕ) (o : Outcome ℕ) → (close_answer buf n ≡ o) ↔ Close buf n o
close_answers = close_exactly

pub close_makes : (buf : List ℕ) → Bytes buf → (n : ℕ) (f : Partial) (m : ℕ) → partial_verdict buf n ≡ accepted f → close_answer buf n ≡ accepted m
    → Holds buf (close_left buf n) (framed f (earlier_then [] f.earlier)) m
close_makes = close_frame

-- there are legal frames of every kind, card and sequence word, so that what follows speaks of something
pub some_are_legal : (kind : Kind) (card sequence : ℕ) → card ≤ 31 → sequence ≤ 0x0100 → Legal (record { kind = kind; card = card; sequence = sequence; items = [] })
some_are_legal = empty_legal

-- T18. "Every list that the rules allow can be written, if it fits": begin, one add for each item in order, close
pub every_frame_is_written : (f : Frame) → Legal f → (buf : List ℕ) → length (encode f) ≤ length buf
    → write_all buf f.kind f.card f.sequence (map whole f.items) ≡ calls_done (accepted (length (encode f))) (encode f ++ drop (length (encode f)) buf)
every_frame_is_written = written

-- and that it does not fit, the buffer or a frame, is the only reason against
pub only_room : (f : Frame) → f.card ≤ 31 → f.sequence ≤ 0x0100 → Sound f.kind f.card [] f.items → (buf : List ℕ)
    → (length buf < length (encode f)) ⊎ (8192 < length (encode f)) → (write_all buf f.kind f.card f.sequence (map whole f.items)).answer ≡ refused 12 0
only_room = too_short

-- T19. Whatever such a run accepts is a legal frame of exactly the items added, in order, and reads back as it
pub only_frames_are_written : (buf : List ℕ) (kind : Kind) (card sequence : ℕ) (ts : List Token) (m : ℕ) (left : List ℕ)
    → write_all buf kind card sequence ts ≡ calls_done (accepted m) left → WritingDone buf kind card sequence ts m left
only_frames_are_written = writing_done

-- T20. A frame that is read and "written again has the same bytes"
pub same_bytes : (s : List ℕ) → Bytes s → (f : Frame) → verdict s ≡ accepted f → (buf : List ℕ) → length s ≤ length buf
    → write_all buf f.kind f.card f.sequence (map whole f.items) ≡ calls_done (accepted (length s)) (s ++ drop (length s) buf)
same_bytes = rewritten

-- T33. "Every refusal leaves all lent memory as found"
pub begin_refused_leaves : (buf : List ℕ) (kind : Kind) (card sequence k p : ℕ) → begin_answer buf card sequence ≡ refused k p → begin_left buf kind card sequence ≡ buf
begin_refused_leaves = begin_found

pub add_refused_leaves : (buf : List ℕ) (n : ℕ) (t : Token) (k p : ℕ) → add_answer buf n t ≡ refused k p → add_left buf n t ≡ buf
add_refused_leaves = add_found

pub close_refused_leaves : (buf : List ℕ) (n k p : ℕ) → close_answer buf n ≡ refused k p → close_left buf n ≡ buf
close_refused_leaves = close_found

-- T34. "Each writes no other byte": begin bytes 0 to 5, add those from the old length to the new, close the size word and the end word
pub begin_elsewhere : (buf : List ℕ) (kind : Kind) (card sequence i : ℕ) → 6 ≤ i → get_or (begin_left buf kind card sequence) i 0 ≡ get_or buf i 0
begin_elsewhere = begin_bytes

pub add_elsewhere : (buf : List ℕ) (n : ℕ) (t : Token) (m i : ℕ) → add_answer buf n t ≡ accepted m → (i < n) ⊎ (m ≤ i) → get_or (add_left buf n t) i 0 ≡ get_or buf i 0
add_elsewhere = add_bytes

pub close_elsewhere : (buf : List ℕ) (n i : ℕ) → (i ≡ 2 → ⊥) → (i ≡ 3 → ⊥) → (i ≡ n → ⊥) → (i ≡ n + 1 → ⊥) → get_or (close_left buf n) i 0 ≡ get_or buf i 0
close_elsewhere = close_bytes

-- and no call makes the buffer longer or shorter
pub begin_length : (buf : List ℕ) (kind : Kind) (card sequence : ℕ) → length (begin_left buf kind card sequence) ≡ length buf
begin_length = begin_kept

pub add_length : (buf : List ℕ) (n : ℕ) (t : Token) → length (add_left buf n t) ≡ length buf
add_length = add_kept

pub close_length : (buf : List ℕ) (n : ℕ) → length (close_left buf n) ≡ length buf
close_length = close_kept

-- T35. The numbers that a partial frame and the calls can be refused by; begin's place is 0. Every item that a caller can hand over is `handed`
pub partial_list : (buf : List ℕ) → Bytes buf → (n k q : ℕ) → partial_verdict buf n ≡ refused k q
    → one_of k (1 ∷ 2 ∷ 3 ∷ 4 ∷ 6 ∷ 7 ∷ 8 ∷ 9 ∷ 10 ∷ []) ≡ true
partial_list = partial_numbers_lem

pub begin_list : (buf : List ℕ) (card sequence k p : ℕ) → begin_answer buf card sequence ≡ refused k p → (one_of k (9 ∷ 4 ∷ 12 ∷ []) ≡ true) × (p ≡ 0)
begin_list = begin_numbers_lem

pub items_are_handed : (x : ItemOf ℕ) → handed (given x) ≡ true
items_are_handed = given_handed

pub add_list : (buf : List ℕ) → Bytes buf → (n : ℕ) (t : Token) → handed t ≡ true → (k p : ℕ) → add_answer buf n t ≡ refused k p
    → one_of k (1 ∷ 2 ∷ 3 ∷ 4 ∷ 6 ∷ 7 ∷ 8 ∷ 9 ∷ 10 ∷ 12 ∷ []) ≡ true
add_list = add_numbers_lem

pub close_list : (buf : List ℕ) → Bytes buf → (n k p : ℕ) → close_answer buf n ≡ refused k p
    → one_of k (1 ∷ 2 ∷ 3 ∷ 4 ∷ 6 ∷ 7 ∷ 8 ∷ 9 ∷ 10 ∷ 11 ∷ 12 ∷ []) ≡ true
close_list = close_numbers_lem
