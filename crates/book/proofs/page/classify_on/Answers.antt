-- `book::page::classify_on` meets its contract: the row of the high byte is asked.
-- Assumes nothing.
use native.Mathlib.Omega.{arith}
use Rattle.book.specs.Page.{on_page}
use Rattle.book.proofs.page.classify_on.Goals as goal

pub on_row-requires : goal.on_row-requires
on_row-requires c = omega arith

pub returns : goal.returns
unfolding on_page
returns c = c.on_row.ensures
