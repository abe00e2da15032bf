-- `exports::writing::refuse_item` meets its contract.
-- Assumes nothing.
use Rattle.std.proofs.lemmas.Result.{err_from_is_err_and}
use Rattle.exports.proofs.GivenLaws.{flawed_refused, flawed_here}
use Rattle.exports.proofs.writing.refuse_item.Goals as goal

pub returns-in_err-partial : goal.returns-in_err-partial
returns-in_err-partial c =
    let p = err_from_is_err_and c.from_residual.result c.from_residual.ensures.1 in
    rw (p.1, p.2) (flawed_refused c.args.buffer.now c.args.length _ _ _ c.in_err-partial.ensures)

pub returns : goal.returns
returns c = rw c.at.ensures (flawed_here c.args.buffer.now c.args.length _ _ c.in_ok-partial.ensures)
