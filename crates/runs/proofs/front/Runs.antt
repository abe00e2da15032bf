-- The front page of runs (document 02, request 1): "Demand 2 then holds for frames and runs". Each theorem is stated in full and proved by citing one
-- law. What a run is, with no word of an assembler: specs/Runs.antt; an assembler and its step: specs/Assembly.antt; when each refusal is due:
-- specs/Reasons.antt; what an assembler holds then: specs/Held.antt.
-- Assumes nothing.
use Prim.Native.Nat.{ℕ, ◌≤◌}
use mathlib.Core.Path.{◌≡◌, refl}
use mathlib.Core.List.{List, [], ◌∷◌, map}
use mathlib.Core.Logic.{◌↔◌, ◌⊎◌}
use mathlib.Core.Option.{none, some}
use Rattle.follower.specs.Follow.{numbered, follow}
use Rattle.format.specs.Words.{Bytes, words, bytes, non_zero, all_zero}
use Rattle.format.specs.Answers.{accepted, refused}
use Rattle.format.specs.Prefix.{find}
use Rattle.format.specs.Book.{class_of}
use Rattle.format.specs.Items.{ContinueEvent, words_of, decode, token_of, tokens}
use Rattle.format.specs.Rules.{data_kind, since, count, total, gather, above, check}
use Rattle.format.specs.Frames.{Frame, earlier_then, encode, head_fault, front, walk, judged, verdict}
use Rattle.format.specs.Faults as faults
use Rattle.format.specs.Steps.{Overview, read_of}
use Rattle.runs.specs.Assembly.{Open, Assembler, new, give_up, open_after, Taken, take, after, take_all}
use Rattle.runs.specs.Runs.{Each, events, glued, RunOf, IsRun}
use Rattle.runs.specs.Reasons.{Unlinking, Unstarted, Refused, Accepted}
use Rattle.runs.specs.Held.{Holds, together, Writes, SameBytes}
use Rattle.runs.specs.Marked.{take_by, Reach}
use Rattle.runs.specs.Figures.{continuing}
use Rattle.runs.proofs.runs.RunLaws as run
use Rattle.runs.proofs.runs.HeldLaws as held
use Rattle.runs.proofs.steps.TakeLaws as step
use Rattle.runs.proofs.marks.TakeByLaws as marks

-- DEMAND 2 FOR RUNS (B1.2).

-- "accepted exactly when it follows ..": a new assembler of a card takes all frames of a list exactly where they are a run of that card,
pub run_exactly : (card : ℕ) (ss : List (List ℕ)) → Each Bytes ss → ((b : Assembler) × (take_all (new card) ss ≡ accepted b)) ↔ IsRun card ss
run_exactly = run.run_exactly

-- "and then read as the one ..": of one list of frames.
pub one_run : (card : ℕ) (ss : List (List ℕ)) (r q : IsRun card ss) → r.frames ≡ q.frames
one_run = held.one_run

-- "Every list that the rules allow can be written, if it fits": every frame of every run;
pub run_is_written : (card : ℕ) (fs : List Frame) → RunOf card fs → Each (λ (f : Frame). Writes f (encode f)) fs
run_is_written = held.all_written

-- "and reads back as itself": what is written so is taken, and by `one_run` as no other run;
pub run_is_taken : (card : ℕ) (fs : List Frame) → RunOf card fs → (b : Assembler) × (take_all (new card) (map encode fs) ≡ accepted b)
run_is_taken = held.run_taken

-- "written again has the same bytes": every frame that is taken, from whatever state on.
pub run_same_bytes : (a : Assembler) (ss : List (List ℕ)) → Each Bytes ss → (b : Assembler) → take_all a ss ≡ accepted b → Each SameBytes ss
run_same_bytes = held.all_again

-- The items of a run are those of its events, and no other: nothing is cut away.
pub nothing_cut_away : (card : ℕ) (fs : List Frame) → RunOf card fs → together (events (glued fs)) ≡ glued fs
nothing_cut_away = held.all_cut

-- Behind a run the assembler is still of that card, and holds an event exactly where the run's items end inside one: that one.
pub run_held : (card : ℕ) (ss : List (List ℕ)) (r : IsRun card ss) (b : Assembler) → take_all (new card) ss ≡ accepted b
    → (b.card ≡ card) × ((o : Open) → (b.event ≡ some o) ↔ Holds (glued r.frames) o)
run_held = held.held

-- A FRAME IN A RUN AND ALONE (B1.3). What a run takes is accepted alone;
pub taken_alone : (a : Assembler) (s : List ℕ) (t : Taken) → take a s ≡ accepted t → (f : Frame) × (verdict s ≡ accepted f)
taken_alone = step.taken_alone

-- but not the other way round: a Continue event alone is a frame, and begins no run.
pub lone_accepted : verdict (continuing 0x0100 0x0007) ≡ accepted (record { kind = data_kind; card = 5; sequence = 0x0100; items = ContinueEvent 7 ∷ [] })
unfolding bytes words non_zero all_zero find class_of words_of decode token_of tokens since count total gather above check earlier_then head_fault front walk judged verdict
lone_accepted = refl

pub lone_refused : take (new 5) (continuing 0x0100 0x0007) ≡ refused 15 0
unfolding bytes words non_zero all_zero find class_of words_of decode token_of tokens since count total gather above check earlier_then head_fault front walk judged verdict numbered follow open_after take
lone_refused = refl

-- "A SEPARATE CALL GIVES THE OPEN EVENT UP" (B1.4): the card and the follower stay,
pub give_up_card : (a : Assembler) → (give_up a).card ≡ a.card
give_up_card a = refl

pub give_up_follower : (a : Assembler) → (give_up a).follower ≡ a.follower
give_up_follower a = refl

-- no event is open,
pub give_up_event : (a : Assembler) → (give_up a).event ≡ none
give_up_event a = refl

-- and every step is then as if none had been.
pub give_up_take : (a b : Assembler) → b.card ≡ a.card → b.follower ≡ a.follower → b.event ≡ none → (s : List ℕ) → take (give_up a) s ≡ take b s
give_up_take = step.given_up

-- ONE STEP (B1.1), from any state of the assembler and of any bytes.

-- It is accepted where the frame alone is, the follower accepts and there is no reason for 15, and answers so;
pub accepted_exactly : (a : Assembler) (s : List ℕ) → Bytes s → (t : Taken) → (take a s ≡ accepted t) ↔ Accepted a s t
accepted_exactly = step.accepted_exactly

-- it is refused where and as document 02 says, and by no other number or place.
pub refused_exactly : (a : Assembler) (s : List ℕ) → Bytes s → (n p : ℕ) → (take a s ≡ refused n p) ↔ Refused a s n p
refused_exactly = step.refused_exactly

-- By its number: "after the frame refusals,
pub frame_refusals : (a : Assembler) (s : List ℕ) → Bytes s → (n p : ℕ) → n ≤ 11 → (take a s ≡ refused n p) ↔ faults.Refused s n p
frame_refusals = step.frame_refusals

-- 14 from the follower,
pub start_refusals : (a : Assembler) (s : List ℕ) → Bytes s → (take a s ≡ refused 14 0) ↔ Unstarted a s
start_refusals = step.start_refusals

-- then 15 LINK for a frame that is no data frame, is of another card, breaks a rule above, starts with Continue when no event is open, or takes the
-- event's size past 32 bits";
pub link_refusals : (a : Assembler) (s : List ℕ) → Bytes s → (take a s ≡ refused 15 0) ↔ Unlinking a s
link_refusals = step.link_refusals

-- and there are no others: 1 to 11 at the places that a frame has, 14 and 15 at 0.
pub take_list : (a : Assembler) (s : List ℕ) → Bytes s → (n p : ℕ) → take a s ≡ refused n p → faults.Placed s n p ⊎ (((n ≡ 14) ⊎ (n ≡ 15)) × (p ≡ 0))
take_list = step.numbers

-- "the assembler is unchanged", the follower with it.
pub refusal_leaves : (a : Assembler) (s : List ℕ) (n p : ℕ) → take a s ≡ refused n p → after a (take a s) ≡ a
refusal_leaves = step.refused_keeps

-- BY MARKS (specs/Marked.antt): who has what reading tells of a frame, its length and a few of its words, needs no second look at its items; and
-- these words are in the frame.
pub take_by_marks : (a : Assembler) (s : List ℕ) → Bytes s → take a s ≡ take_by a s
take_by_marks = marks.take_by_marks

pub marks_reach : (s : List ℕ) → Bytes s → (v : Overview) → read_of s ≡ accepted v → Reach s v.state.marks
marks_reach = marks.reach
