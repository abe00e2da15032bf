-- `exports::writing::plane_add` meets its contract.
-- Assumes nothing.
use mathlib.Core.Path.{sym, ap, ◌∙◌}
use Rattle.exports.specs.Flat.{flat_written}
use Rattle.exports.proofs.GivenLaws.{answered_alike, flawed_left}
use Rattle.exports.proofs.writing.plane_add.Goals as goal

pub returns-in-Err : goal.returns-in-Err
returns-in-Err c = answered_alike c.args.buffer.now _ _ _ c.in-Err.ensures _ _ (record { answered = c.into-in-Err.ensures ∙ ap flat_written c.refuse_item.ensures; written = sym (flawed_left _ _ _) })
