-- What each public function promises, under a name: what its answer says on paper is the one that document 01 gives. Assumes nothing.
use Rattle.std.specs.Prelude.{ℕ, ◌≡◌, Result}
use Rattle.follower.specs.declared.Follower.{Follower}
use Rattle.follower.specs.declared.Followed.{Followed}
use Rattle.follower.specs.declared.SequenceError.{SequenceError}
use Rattle.follower.specs.Follow.{idle, follow}
use Rattle.follower.specs.Paper.{state_of, number_of, place_of, view}

-- a follower that has seen nothing
abbrev pub Unstarted : Follower → Type 0
Unstarted r = state_of r ≡ idle

-- the answer of a follower that is fed a sequence word
abbrev pub FollowedBy : Follower → ℕ → Result Followed SequenceError → Type 0
FollowedBy self word r = view r ≡ follow (state_of self) word

-- of what is wrong with a word, document 01's number and place
abbrev pub ErrorNumbered : SequenceError → ℕ → Type 0
ErrorNumbered e r = r ≡ number_of e

abbrev pub ErrorPlaced : SequenceError → ℕ → Type 0
ErrorPlaced e r = r ≡ place_of e
