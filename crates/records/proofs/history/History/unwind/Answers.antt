-- `records::history::History::unwind` meets its contract.
-- Assumes nothing.
use mathlib.Core.Path.{refl}
use native.Mathlib.Omega.{arith}
use Rattle.records.proofs.UndoLaws.{undoing_start, same_history, walked_all}
use Rattle.records.proofs.history.History.unwind.Goals as goal

pub walk_back-requires : goal.walk_back-requires
walk_back-requires c = (undoing_start _ c.args.f.now _ c.requires.copy c.copy.ensures c.args.self.framed.accepted _ c.note_heads.ensures, omega arith, omega arith)

pub returns : goal.returns
returns c =
    (same_history _ c.args.f.now _ c.requires.copy c.copy.ensures _ _ _ (walked_all _ _ _ _ _ _ _ _ refl c.walk_back.ensures), c.note_heads.ensures)
