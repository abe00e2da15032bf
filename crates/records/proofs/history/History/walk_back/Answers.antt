-- `records::history::History::walk_back` meets its contract: what the entries left do to the frame at hand is what all of them do to the first.
-- Assumes nothing.
use Prim.Native.Nat.{ℕ, ◌+◌, ◌-◌, ◌≤◌, ◌<◌}
use mathlib.Core.Path.{◌≡◌, refl, sym, ap, ◌∙◌}
use mathlib.Core.List.{List}
use lib.ListN.{length}
use native.Mathlib.Omega.{arith}
use Rattle.book.specs.Views.{refusal}
use Rattle.ledger.specs.Formats.{Format, size}
use Rattle.records.specs.Undoing.{Framed}
use Rattle.records.proofs.UndoLaws.{Lies, part_long, undo_inside, undo_legal, stored_before, undoing_next, lies, turn_back, turn_stop, turn_undone, walked_stop, walked_done}
use Rattle.records.proofs.history.History.walk_back.Goals as goal

-- where the turn's entry begins
low : (F : Format) (frame b : List ℕ) (count n m s : ℕ) → Framed F frame b count → n ≤ count → s ≡ size F → 0 < m → m ≤ n
    → Lies F b (16 + length frame) (m - 1) s
low F frame b count n m s t h z k l = lies _ _ _ _ _ _ t z (omega arith)

pub loop-m-init : goal.loop-m-init
loop-m-init c = (c.requires.0, refl, refl, c.requires.1, refl)

pub overflow_mul-at : goal.overflow_mul-at
overflow_mul-at c = omega (arith, (low _ _ _ _ c.args.n c.loop-m.m _ c.args.self.framed c.requires.2 c.entry_size-size.ensures (omega arith) (omega arith)).whole)

pub overflow_add-at : goal.overflow_add-at
overflow_add-at c = omega (arith, (low _ _ _ _ c.args.n c.loop-m.m _ c.args.self.framed c.requires.2 c.entry_size-size.ensures (omega arith) (omega arith)).whole)

pub slice_bounds-entry_in-count : goal.slice_bounds-entry_in-count
slice_bounds-entry_in-count c = omega (arith, (low _ _ _ _ c.args.n c.loop-m.m _ c.args.self.framed c.requires.2 c.entry_size-size.ensures (omega arith) (omega arith)).whole)

pub slice_bounds-entry_in-start : goal.slice_bounds-entry_in-start
slice_bounds-entry_in-start c = omega (arith, (low _ _ _ _ c.args.n c.loop-m.m _ c.args.self.framed c.requires.2 c.entry_size-size.ensures (omega arith) (omega arith)).whole)

pub entry_in-e-requires : goal.entry_in-e-requires
entry_in-e-requires c = rw part_long (omega (arith, (low _ _ _ _ c.args.n c.loop-m.m _ c.args.self.framed c.requires.2 c.entry_size-size.ensures (omega arith) (omega arith)).whole))

pub entry_fits-requires : goal.entry_fits-requires
entry_fits-requires c = c.loop-m.invariant.0

pub put_in-requires : goal.put_in-requires
put_in-requires c =
    let i = c.loop-m.invariant in
    let t = sym c.entry_fits.ensures ∙ c.if-not-entry_fits.false in
    (undo_inside _ _ i.0.frame _ t, undo_legal _ _ i.0.frame _ t)

pub loop-m-preserved : goal.loop-m-preserved
loop-m-preserved c =
    let l = c.loop-m in
    let i = l.invariant in
    let w = low _ _ _ _ c.args.n l.m _ c.args.self.framed c.requires.2 c.entry_size-size.ensures (omega arith) (omega arith) in
    let t = sym c.entry_fits.ensures ∙ c.if-not-entry_fits.false in
    let g = c.put_in.ensures ∙ stored_before _ _ i.0.frame _ t in (
      undoing_next _ _ i.0.frame _ t _ _ i.0 g,
      c.put_in.auto.f ∙ i.1,
      turn_back _ _ _ _ l.m _ (omega arith) c.entry_in-e.ensures (omega (arith, w.whole)) w.begins t _ g ∙ i.2,
      omega arith,
      turn_undone _ _ _ _ l.m _ _ (omega arith) c.entry_in-e.ensures (omega (arith, w.whole)) w.begins (omega arith) _ g ∙ i.4,
    )

pub shape_of-f-then-not-entry_fits : goal.shape_of-f-then-not-entry_fits
shape_of-f-then-not-entry_fits c = c.loop-m.invariant.1

pub returns-then-not-entry_fits : goal.returns-then-not-entry_fits
returns-then-not-entry_fits c =
    let l = c.loop-m in
    let i = l.invariant in
    let w = low _ _ _ _ c.args.n l.m _ c.args.self.framed c.requires.2 c.entry_size-size.ensures (omega arith) (omega arith) in
    walked_stop _ _ _ _ _ _ _ _ (ap refusal c.at.ensures ∙ turn_stop _ _ _ _ l.m _ (omega arith) c.entry_in-e.ensures (omega (arith, w.whole)) w.begins (sym c.entry_fits.ensures ∙ c.if-not-entry_fits.true) _ (omega arith) ∙ i.2)

pub shape_of-f : goal.shape_of-f
shape_of-f c = c.loop-m.invariant.1

pub returns : goal.returns
returns c =
    let i = c.loop-m.invariant in
    walked_done _ _ _ _ _ _ _ _ (omega (arith, i.3)) i.2 i.4 i.0
