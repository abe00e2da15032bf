-- The front page of the follower: what is promised of sequence numbers, each statement in full and proved by one law. Quoted: document 01.
-- The code's promise is that its answers are those of `follow` (src/lib.rt); here is what `follow` answers. Assumes nothing.
use Prim.Native.Nat.{ℕ, ◌+◌, ◌-◌, ◌%◌, ◌<◌, ◌≤◌}
use mathlib.Core.Path.{◌≡◌, refl, sym}
use mathlib.Core.List.{List, [], ◌∷◌}
use mathlib.Core.Logic.{◌↔◌}
use Rattle.std.specs.Prelude.{Result}
use Rattle.follower.specs.declared.Follower.{Follower}
use Rattle.follower.specs.declared.Followed.{Followed}
use Rattle.follower.specs.declared.SequenceError.{SequenceError}
use Rattle.follower.specs.Follow.{State, idle, expecting, InRange, accepted, refused, after, numbered, follow, Given}
use Rattle.follower.specs.Sender.{sent, arrivals, account, AllBelow256, answers, losses}
use Rattle.follower.specs.Paper.{state_of, number_of, place_of, view}
use Rattle.follower.specs.Promises.{Unstarted, FollowedBy, ErrorNumbered, ErrorPlaced}
use Rattle.follower.proofs.LineLaws as line
use Rattle.follower.proofs.LossLaws as loss
use Rattle.follower.proofs.SenderLaws as sender
use Rattle.follower.proofs.Unique as unique

-- THE LINES (T21), for every state and every word, however large.

-- "The follower is either idle or expects a number from 0 to 255"
pub in_range : (s : State) (word : ℕ) → InRange s → InRange (after s (follow s word))
in_range = line.in_range

-- ".. from 0 to 255", no more and no fewer
pub from_0_to_255 : (e : ℕ) → InRange (expecting e) ↔ (e ≤ 255)
from_0_to_255 = line.from_0_to_255

-- "a refusal leaves it as it was"
pub refusal_leaves : (s : State) (word n p : ℕ) → follow s word ≡ refused n p → after s (follow s word) ≡ s
refusal_leaves = line.refusal_leaves

-- "Word 0x0100: nothing lost, expect 1."
pub start : (s : State) → follow s 0x0100 ≡ accepted 0 (expecting 1)
start s = sym (line.starts s 0x0100 refl)

-- "Idle and 0x0000: numbers are not in use, still idle."
pub not_in_use : follow idle 0x0000 ≡ accepted 0 idle
not_in_use = sym (line.at_zero 0x0000 refl)

-- "Idle and 0x0001 to 0x00FF: 14."
pub no_start : (word : ℕ) → 0x0001 ≤ word → word ≤ 0x00FF → follow idle word ≡ refused 14 0
no_start word a b = sym (line.at_early word a b)

-- "Expecting e and 0x00nn: lost = (nn - e) modulo 256, expect nn + 1 modulo 256."
pub counted : (e nn : ℕ) → e ≤ 255 → nn ≤ 0x00FF → follow (expecting e) nn ≡ accepted ((nn + 256 - e) % 256) (expecting ((nn + 1) % 256))
counted e nn a b = sym (line.at_number e nn b)

-- "Above 0x0100: 4."
pub above : (s : State) (word : ℕ) → 0x0100 < word → follow s word ≡ refused 4 0
above s word h = sym (line.passes s word h)

-- It is refused exactly where the table of numbered refusals lists it, by that number and at that place (T35).
pub refusals : (s : State) (word n p : ℕ) → (follow s word ≡ refused n p) ↔ Given s word n p
refusals = line.refusals

-- THE LOSS (T22): "A made-up loss .. falls to the modulo rule".

-- The answer has the one number below 256 that leads from e to nn, and expects the number after nn; any other loss is no answer.
pub loss_exactly : (e nn : ℕ) → e < 256 → nn < 256 → (l : ℕ) (next : State)
    → (follow (expecting e) nn ≡ accepted l next) ↔ ((l < 256) × ((e + l) % 256 ≡ nn) × (next ≡ expecting ((nn + 1) % 256)))
loss_exactly = loss.exactly

-- There is such a number,
pub loss_exists : (e nn : ℕ) → e < 256 → nn < 256 → (l : ℕ) × (l < 256) × ((e + l) % 256 ≡ nn)
loss_exists = loss.exists

-- and no second one.
pub loss_only : (e nn l k : ℕ) → e < 256 → l < 256 → k < 256 → (e + l) % 256 ≡ nn → (e + k) % 256 ≡ nn → l ≡ k
loss_only = loss.only

-- A SENDER THAT COUNTS (T23).

-- Its next number is e, as the follower expects; m frames are dropped, and the one that arrives has the number e + m: m is reported.
pub drop_reported : (e m : ℕ) → e < 256 → m < 256 → follow (expecting e) ((e + m) % 256) ≡ accepted m (expecting ((e + m + 1) % 256))
drop_reported = sender.reports

-- Eight bits cannot tell more: of any number of dropped frames the report is that number modulo 256.
pub drop_modulo : (e d : ℕ) → e < 256 → follow (expecting e) ((e + d) % 256) ≡ accepted (d % 256) (expecting ((e + d + 1) % 256))
drop_modulo = sender.follows

-- From its start word on, whatever state the follower was in, and whatever numbers of frames below 256 are dropped before each that arrives:
-- every answer is the true one,
pub run_followed : (s : State) (ms : List ℕ) → AllBelow256 ms → answers s (sent 0 ∷ arrivals 1 ms) ≡ accepted 0 (expecting 1) ∷ account 1 ms
run_followed = sender.run

-- and the losses reported are those numbers.
pub run_losses : (s : State) (ms : List ℕ) → AllBelow256 ms → losses (answers s (sent 0 ∷ arrivals 1 ms)) ≡ 0 ∷ ms
run_losses = sender.run_losses

-- Such a run: none dropped before frame 1, three before frame 5, 250 before frame 256, whose number is 0.
pub arrivals_example : sent 0 ∷ arrivals 1 (0 ∷ 3 ∷ 250 ∷ []) ≡ 0x0100 ∷ 0x0001 ∷ 0x0005 ∷ 0x0000 ∷ []
unfolding sent arrivals
arrivals_example = refl

-- CASE 12: "Expecting 255, 00FF: lost 0, expect 0. Then 0000: lost 0, expect 1." So 0x0000 after 0x00FF is a number, and not "not in use".
pub case_12 : answers (expecting 255) (0x00FF ∷ 0x0000 ∷ []) ≡ accepted 0 (expecting 0) ∷ accepted 0 (expecting 1) ∷ []
unfolding answers follow numbered
case_12 = refl

-- NO SECOND RESULT (T39, T40): what is said on paper fixes the value, so each promise of src/lib.rt has one answer.

pub states_injective : (r q : Follower) → state_of r ≡ state_of q → r ≡ q
states_injective = unique.same_state

pub answers_injective : (r q : Result Followed SequenceError) → view r ≡ view q → r ≡ q
answers_injective = unique.same_answer

-- the promise of `Follower::new`
pub new_once : (r q : Follower) → Unstarted r → Unstarted q → r ≡ q
new_once = unique.one state_of unique.same_state idle

-- and that of `Follower::follow`
pub follow_once : (self : Follower) (word : ℕ) (r q : Result Followed SequenceError) → FollowedBy self word r → FollowedBy self word q → r ≡ q
follow_once self word = unique.one view unique.same_answer (follow (state_of self) word)

-- and those of `SequenceError::number` and `SequenceError::place`
pub number_once : (e : SequenceError) (r q : ℕ) → ErrorNumbered e r → ErrorNumbered e q → r ≡ q
number_once e = unique.equal_once (number_of e)

pub place_once : (e : SequenceError) (r q : ℕ) → ErrorPlaced e r → ErrorPlaced e q → r ≡ q
place_once e = unique.equal_once (place_of e)
