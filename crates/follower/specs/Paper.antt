-- What the code's values say on paper: for each case of each enum, document 01's state, number and values. Assumes nothing.
use Rattle.std.specs.Prelude.{ℕ, Result, Ok, Err}
use Rattle.follower.specs.declared.Follower.{Follower}
use Rattle.follower.specs.declared.Follower.TheVariants.{Idle, Expecting}
use Rattle.follower.specs.declared.Followed.{Followed}
use Rattle.follower.specs.declared.SequenceError.{SequenceError}
use Rattle.follower.specs.declared.SequenceError.TheVariants.{NoSequence, NoStart}
use Rattle.follower.specs.Follow.{State, idle, expecting, Answer, accepted, refused}

-- an `Expecting` holds a u8: its number is from 0 to 255 by its type
abbrev pub state_of : Follower → State
state_of Idle = idle
state_of (Expecting e) = expecting e

-- document 01's number of each
abbrev pub number_of : SequenceError → ℕ
number_of NoSequence = 4
number_of NoStart = 14

-- and its place
abbrev pub place_of : SequenceError → ℕ
place_of e = 0

-- what `follow` answers; after a refusal the caller still has the follower that it passed
abbrev pub view : Result Followed SequenceError → Answer
view (Ok x) = accepted x.lost (state_of x.next)
view (Err e) = refused (number_of e) (place_of e)
