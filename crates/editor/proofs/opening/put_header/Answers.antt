-- `editor::opening::put_header` meets its contract.
-- Assumes nothing.
use Rattle.editor.proofs.OpenLaws.{header_none}
use Rattle.editor.proofs.opening.put_header.Goals as goal

pub returns : goal.returns
returns c = header_none _ _ _ c.put_words.ensures
