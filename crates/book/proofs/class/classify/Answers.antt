-- `book::class::classify` meets its contract: the page says of a word what the search does.
-- Assumes nothing.
use mathlib.Core.Path.{◌∙◌}
use native.Mathlib.Omega.{arith}
use Rattle.book.proofs.PageLaws.{page_tells}
use Rattle.book.proofs.class.classify.Goals as goal

pub returns : goal.returns
returns c = c.classify_on.ensures ∙ page_tells _ _ c.page-rows.ensures (omega arith)
