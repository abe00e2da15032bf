-- `book::page::by_low_byte` meets its contract: the low byte lies in the class's range, or matches no row.
-- Assumes nothing.
use Prim.Native.Nat.{◌<◌}
use mathlib.Core.Path.{sym}
use lib.Dec.{lit<}
use native.Mathlib.Omega.{arith}
use Rattle.format.proofs.book.BookLaws.{in_range, no_entry}
use Rattle.book.proofs.page.by_low_byte.Goals as goal

pub returns-then-low-ge-START_EVENT : goal.returns-then-low-ge-START_EVENT
returns-then-low-ge-START_EVENT c = sym (in_range _ 11 (lit< tt) (omega arith, omega arith))

pub returns-then-low-ge-END_EVENT : goal.returns-then-low-ge-END_EVENT
returns-then-low-ge-END_EVENT c = sym (in_range _ 12 (lit< tt) (omega arith, omega arith))

pub returns-then-low-eq-FRAME_END : goal.returns-then-low-eq-FRAME_END
returns-then-low-eq-FRAME_END c = sym (in_range _ 13 (lit< tt) (omega arith, omega arith))

pub returns : goal.returns
returns c =
    let below : c.args.low < 256 = c.requires in
    no_entry _ ((λ e. omega arith), ((λ e. omega arith), ((λ e. omega arith), ((λ e. omega arith), ((λ e. omega arith), ((λ e. omega arith), ((λ e. omega arith), ((λ e. omega arith), ((λ e. omega arith), ((λ e. omega arith), ((λ e. omega arith), ((λ e. omega arith), ((λ e. omega arith), ((λ e. c.if-low-eq-FRAME_END.false (omega arith)), ((λ e. omega arith), tt)))))))))))))))
