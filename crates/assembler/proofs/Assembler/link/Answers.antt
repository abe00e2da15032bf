-- `assembler::Assembler::link` meets its contract.
-- Assumes nothing.
use mathlib.Core.Bool.{◌&&◌}
use mathlib.Core.Path.{ap, ◌∙◌}
use lib.Dec.{eqb}
use Rattle.book.specs.Views.{refusal}
use Rattle.assembler.proofs.StepLaws.{data_told, sized_link, link_accepted, link_refused}
use Rattle.assembler.proofs.Assembler.link.Goals as goal

pub open_after-requires : goal.open_after-requires
open_after-requires c = sized_link _ _ _ _ (c.eq.result && eqb c.args.part.frame.card c.args.self.card) _ c.linked.ensures c.if-eq-told.true

pub returns-then-eq-told : goal.returns-then-eq-told
returns-then-eq-told c =
    link_accepted _ _ _ _ _ _ _ (c.eq.ensures ∙ data_told _) c.linked.ensures _ c.if-eq-told.true c.open_after.ensures

pub returns : goal.returns
returns c = ap refusal c.into.ensures ∙ link_refused _ _ _ _ _ _ _ (c.eq.ensures ∙ data_told _) c.linked.ensures c.if-eq-told.false
