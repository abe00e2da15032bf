-- `book::page::page` meets its contract: every row of the page, computed, is what the search finds for its high byte.
-- Assumes nothing.
use mathlib.Core.Path.{refl}
use Rattle.format.specs.Prefix.{find}
use Rattle.format.specs.Book.{class_of}
use Rattle.book.specs.Page.{numbers, book_page}
use Rattle.book.proofs.page.page.Goals as goal

pub returns : goal.returns
unfolding book_page numbers class_of find
returns c = refl
