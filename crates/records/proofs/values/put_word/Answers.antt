-- `records::values::put_word` meets its contract.
-- Assumes nothing.
use mathlib.Core.Path.{ap, ◌∙◌}
use native.Mathlib.Omega.{arith}
use lib.Seq.{sets}
use Rattle.records.proofs.Storing.{word_bytes}
use Rattle.records.proofs.values.put_word.Goals as goal

pub returns : goal.returns
returns c = c.put_bytes.ensures ∙ ap (sets c.args.buf.now c.args.at) (c.to_le_bytes.ensures ∙ word_bytes c.args.w (omega arith))
