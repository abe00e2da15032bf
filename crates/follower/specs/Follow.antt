-- What the follower of sequence numbers answers: document 01, "Sequence numbers", sentence by sentence. Names no code. Assumes nothing.
use Rattle.std.specs.Prelude.{ℕ, ◌+◌, ◌-◌, ◌%◌, ◌<◌, ◌≤◌, Bool, true, false, leb, eqb}

-- "The follower is either idle or expects a number"
pub data State : Type 0 where
  idle : State
  expecting : ℕ → State

-- ".. from 0 to 255"
abbrev pub InRange : State → Type 0
InRange idle = Unit {0}
InRange (expecting e) = e < 256

-- accepted, with the number of frames lost and the state from here on; or refused, with document 01's number and place
pub data Answer : Type 0 where
  accepted : ℕ → State → Answer
  refused : ℕ → ℕ → Answer

-- "a refusal leaves it as it was"
abbrev pub after : State → Answer → State
after s (accepted lost next) = next
after s (refused number place) = s

abbrev pub when : Bool → Answer → Answer → Answer
when true a b = a
when false a b = b

-- (a - b) modulo 256, where b is at most 256: 256 is added first, since a difference of natural numbers stops at 0
abbrev pub difference : ℕ → ℕ → ℕ
difference a b = (a + 256 - b) % 256

-- a number 0x0000 to 0x00FF
unfoldable pub numbered : State → ℕ → Answer
-- "Idle and 0x0000: numbers are not in use, still idle. Idle and 0x0001 to 0x00FF: 14."
numbered idle nn = when (eqb nn 0) (accepted 0 idle) (refused 14 0)
-- "Expecting e and 0x00nn: lost = (nn - e) modulo 256, expect nn + 1 modulo 256."
numbered (expecting e) nn = accepted (difference nn e) (expecting ((nn + 1) % 256))

-- "Word 0x0100: nothing lost, expect 1.", the numbers, and "Above 0x0100: 4."
unfoldable pub follow : State → ℕ → Answer
follow s word =
    when (eqb word 0x0100) (accepted 0 (expecting 1))
    (when (leb word 0x00FF) (numbered s word)
    (refused 4 0))

-- the refusals once more, from the table of numbered refusals, which says of each number when it is given
pub data Given : State → ℕ → ℕ → ℕ → Type 0 where
  -- SEQUENCE, "word 2 above 0x0100"
  sequence : {s : State} {word : ℕ} → 0x0100 < word → Given s word 4 0
  -- NO START, "sequence number before a start"; 0x0000 is none there, since numbers are not in use
  no_start : {word : ℕ} → 0 < word → word ≤ 0x00FF → Given idle word 14 0
