-- `editor::opening::write_open` meets its contract.
-- Assumes nothing.
use Rattle.editor.proofs.OpenLaws.{opened_stores}
use Rattle.editor.proofs.opening.write_open.Goals as goal

pub returns : goal.returns
returns c =
    opened_stores c.args.buf.now c.args.frame.now _ _ c.requires.0 c.put_header.ensures c.copy.ensures
