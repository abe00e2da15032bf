-- What the corrections from the loop's position on answer and leave, from the buffer as it stands there, is what the whole list does.
-- Assumes nothing.
use Rattle.std.proofs.Common.{◌≡◌}
use Rattle.corrections.proofs.Turns.{AnswerFrom, ExitFrom}
use Rattle.corrections.proofs.edit_all.Given as goal

abbrev pub invariant-loop-position : goal.invariant-loop-position
invariant-loop-position l = record {
  answered : AnswerFrom l.buf l.list l.position-counter ≡ AnswerFrom l.fn.buf l.list 0;
  left : ExitFrom l.buf l.list l.position-counter ≡ ExitFrom l.fn.buf l.list 0;
}
