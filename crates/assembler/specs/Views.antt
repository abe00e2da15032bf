-- What the values of this crate say in document 02.
-- Assumes nothing.
use Rattle.std.specs.Prelude as found
use Rattle.std.specs.Prelude.{Result, Ok, Err}
use Rattle.std.proofs.Math.Option.{Option}
use Rattle.follower.specs.Follow as follower
use Rattle.follower.specs.Paper.{state_of}
use Rattle.follower.specs.declared.Followed.{Followed}
use Rattle.format.specs.Answers.{Outcome}
use Rattle.book.specs.Views.{view_result, view_option}
use Rattle.book.specs.Refusals.{number_of}
use Rattle.book.specs.declared.refusal.Refusal.{Refusal}
use Rattle.runs.specs.Assembly as runs
use Rattle.assembler.specs.declared.OpenEvent.{OpenEvent}
use Rattle.assembler.specs.declared.Assembler.{Assembler}
use Rattle.assembler.specs.declared.Taken.{Taken}

abbrev pub view_open : OpenEvent → runs.Open
view_open o = record { number = o.number; size = o.size; key = o.key }

abbrev pub view_current : found.Option OpenEvent → Option runs.Open
view_current = view_option view_open

abbrev pub view_assembler : Assembler → runs.Assembler
view_assembler a = record { card = a.card; follower = state_of a.follower; event = view_current a.event }

-- what the follower answers to a sequence word, a refusal by its number and place
abbrev pub view_followed : Result Followed Refusal → follower.Answer
view_followed (Ok x) = follower.accepted x.lost (state_of x.next)
view_followed (Err r) = follower.refused (number_of r.fault) r.place

abbrev pub view_next : Taken → runs.Taken
view_next t = record { lost = t.lost; next = view_assembler t.next }

-- after a refusal the caller still has the assembler that it passed
abbrev pub view_taken : Result Taken Refusal → Outcome runs.Taken
view_taken = view_result view_next
