-- `cursor::texts::is_ended` meets its contract. Assumes nothing.
use mathlib.Core.Path.{refl}
use Rattle.cursor.proofs.TextLoops.{ended}
use Rattle.cursor.proofs.texts.is_ended.Goals as goal

pub returns : goal.returns
returns c = let p = c.requires in ended c.args.s.now c.args.n _ _ p.0 p.1 p.2 refl refl
