-- `records::entry` meets its contract.
-- Assumes nothing.
use Prim.Native.Nat.{ℕ, ◌+◌, ◌-◌, ◌*◌, ◌≤◌, ◌<◌}
use mathlib.Core.Path.{◌≡◌, ap, ◌∙◌}
use mathlib.Core.List.{List}
use mathlib.Core.Bool.{true, ◌&&◌}
use lib.Dec.{leb}
use lib.ListN.{length}
use Rattle.format.specs.Words.{word_at}
use Rattle.book.specs.Views.{refusal}
use Rattle.ledger.specs.Formats.{size}
use Rattle.ledger.specs.Calls.{Summary}
use Rattle.ledger.specs.Versions.{format_for, format_in}
use Rattle.records.specs.Views.{summary_of, view_entry}
use Rattle.records.proofs.RecordLaws.{passed_on, RecordKnown, record_known, few_entries, product_small, numbers, entry_refused, entry_inside, entry_none, entry_numbered}
use native.Mathlib.Omega.{arith}
use Rattle.records.proofs.entry.Goals as goal

-- the entry lies in the buffer, and its number is small
inside : (b : List ℕ) (x : Summary) → RecordKnown (format_in b) b x → (j version s : ℕ) → (leb 1 j && leb j x.count) ≡ true → version ≡ word_at b 0 → s ≡ size (format_for version)
    → (16 + x.length + s * (j - 1) ≤ length b) × (j - 1 < 65536)
inside b x k j version s t v z =
    let n = numbers j x.count t in
    let e = few_entries b k.header in
    let m = k.count in
    let i = entry_inside (format_in b) b x k j n.0 n.1 in
    (rw (z, v) (omega (arith, i)), omega (arith, n.1, e, m))

pub overflow_add-at : goal.overflow_add-at
overflow_add-at c =
    let k = record_known (format_in c.args.buf.now) c.args.buf.now (summary_of c.in_ok-x.x) c.in_ok-x.ensures in
    let n = numbers c.args.j c.in_ok-x.x.count c.if-j-x.true in
    omega (arith, entry_inside _ _ _ k c.args.j n.0 n.1)

pub overflow_sub-at : goal.overflow_sub-at
overflow_sub-at c = (numbers _ _ c.if-j-x.true).0

pub overflow_mul-at : goal.overflow_mul-at
overflow_mul-at c =
    let k = record_known (format_in c.args.buf.now) c.args.buf.now (summary_of c.in_ok-x.x) c.in_ok-x.ensures in
    omega (arith, product_small _ _ _ c.entry_size.ensures (inside _ _ k c.args.j c.word-version.result c.entry_size.result c.if-j-x.true c.word-version.ensures c.entry_size.ensures).1)

pub overflow_add-at-then-j-x : goal.overflow_add-at-then-j-x
overflow_add-at-then-j-x c =
    let k = record_known (format_in c.args.buf.now) c.args.buf.now (summary_of c.in_ok-x.x) c.in_ok-x.ensures in
    omega (arith, (inside _ _ k c.args.j c.word-version.result c.entry_size.result c.if-j-x.true c.word-version.ensures c.entry_size.ensures).0)

pub slice_bounds-entry_of-count : goal.slice_bounds-entry_of-count
slice_bounds-entry_of-count c =
    let k = record_known (format_in c.args.buf.now) c.args.buf.now (summary_of c.in_ok-x.x) c.in_ok-x.ensures in
    omega (arith, (inside _ _ k c.args.j c.word-version.result c.entry_size.result c.if-j-x.true c.word-version.ensures c.entry_size.ensures).0)

pub slice_bounds-entry_of-start : goal.slice_bounds-entry_of-start
slice_bounds-entry_of-start c =
    let k = record_known (format_in c.args.buf.now) c.args.buf.now (summary_of c.in_ok-x.x) c.in_ok-x.ensures in
    omega (arith, (inside _ _ k c.args.j c.word-version.result c.entry_size.result c.if-j-x.true c.word-version.ensures c.entry_size.ensures).0)

pub returns-then-j-x : goal.returns-then-j-x
returns-then-j-x c =
    let k = record_known (format_in c.args.buf.now) c.args.buf.now (summary_of c.in_ok-x.x) c.in_ok-x.ensures in
    entry_numbered _ _ k _ _ _ _ c.if-j-x.true c.word-version.ensures c.entry_size.ensures c.entry_of.ensures (inside _ _ k c.args.j c.word-version.result c.entry_size.result c.if-j-x.true c.word-version.ensures c.entry_size.ensures).0

pub returns-in_err-x : goal.returns-in_err-x
returns-in_err-x c = ap view_entry (passed_on _ _ c.from_residual.ensures.1) ∙ entry_refused _ _ _ _ c.in_err-x.ensures _

pub returns : goal.returns
returns c =
    ap refusal c.into.ensures ∙ entry_none _ _ _ (record_known (format_in c.args.buf.now) c.args.buf.now (summary_of c.in_ok-x.x) c.in_ok-x.ensures) _ c.if-j-x.false
