-- What is wrong, by the documents' numbers: their table of numbered refusals, named once.
-- Assumes nothing.
use Rattle.std.specs.Prelude.{ℕ, ◌≡◌}
use Rattle.format.specs.Answers.{Outcome, refused}
use Rattle.follower.specs.declared.SequenceError.{SequenceError}
use Rattle.follower.specs.declared.SequenceError.TheVariants.{NoSequence, NoStart}
use Rattle.book.specs.declared.refusal.Fault.{Fault}
use Rattle.book.specs.declared.refusal.Fault.TheVariants as fault
use Rattle.book.specs.declared.refusal.Refusal.{Refusal}

abbrev pub number_of : Fault → ℕ
number_of fault.Length = 1
number_of fault.Kind = 2
number_of fault.Size = 3
number_of fault.Sequence = 4
number_of fault.End = 5
number_of fault.Class = 6
number_of fault.Cut = 7
number_of fault.Place = 8
number_of fault.Value = 9
number_of fault.Order = 10
number_of fault.Open = 11
number_of fault.Room = 12
number_of fault.Absent = 13
number_of fault.NoStart = 14
number_of fault.Link = 15
number_of fault.Header = 20
number_of fault.Entry = 21
number_of fault.Target = 22
number_of fault.NewValue = 23
number_of fault.Signer = 24
number_of fault.Full = 25
number_of fault.NoEntry = 26

-- the follower's faults among them
abbrev pub fault_of : SequenceError → Fault
fault_of NoSequence = fault.Sequence
fault_of NoStart = fault.NoStart

-- a fault that names no place
abbrev pub AtStart : Fault → Refusal → Type 0
AtStart f r = r ≡ record { fault = f; place = 0 }

-- a fault of the follower, as one of all; and as a refusal
abbrev pub FaultOf : SequenceError → Fault → Type 0
FaultOf e f = f ≡ fault_of e

abbrev pub FollowerAtStart : SequenceError → Refusal → Type 0
FollowerAtStart e r = AtStart (fault_of e) r

abbrev pub refusal : {A : Type 0} → Refusal → Outcome A
refusal r = refused (number_of r.fault) r.place
