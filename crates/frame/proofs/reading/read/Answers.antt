-- `frame::reading::read` meets its contract.
-- Assumes nothing.
use Rattle.std.proofs.lemmas.Result.{err_from_is_err_and}
use Rattle.frame.proofs.Judging.{read_refused, read_accepted}
use Rattle.frame.proofs.reading.read.Goals as goal

pub returns-in_err-judged : goal.returns-in_err-judged
returns-in_err-judged c =
    let p = err_from_is_err_and c.from_residual.result c.from_residual.ensures.1 in
    rw (p.1, p.2) (read_refused _ 0 _ _ c.in_err-judged.ensures)

pub returns : goal.returns
returns c = read_accepted _ 0 _ c.in_ok-judged.ensures
