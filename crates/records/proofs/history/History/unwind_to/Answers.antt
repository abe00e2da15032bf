-- `records::history::History::unwind_to` meets its contract.
-- Assumes nothing.
use mathlib.Core.Path.{refl, sym, ap, ◌∙◌}
use mathlib.Core.Bool.{true≢false}
use native.Mathlib.Omega.{arith}
use Rattle.std.specs.Prelude.{is_ok}
use Rattle.records.specs.Views.{unfit}
use Rattle.records.proofs.RecordLaws.{passed_on}
use Rattle.records.proofs.UndoLaws.{undoing_start, same_history, walked_bad, walked_all, kept_frame}
use Rattle.records.proofs.history.History.unwind_to.Goals as goal

pub walk_back-requires : goal.walk_back-requires
walk_back-requires c =
    (undoing_start _ c.args.f.now _ c.requires.0.copy c.copy.ensures c.args.self.framed.accepted _ c.note_heads.ensures, omega (arith, c.min-stop.ensures), omega arith)

pub returns-in_err-walk_back : goal.returns-in_err-walk_back
returns-in_err-walk_back c =
    let p = passed_on _ _ c.from_residual.ensures.1 in
    (ap unfit p ∙ same_history _ c.args.f.now _ c.requires.0.copy c.copy.ensures _ _ _ (walked_bad _ _ _ _ _ _ _ _ c.in_err-walk_back.ensures), λ z. absurd (true≢false (sym z ∙ ap is_ok p)))

pub walk_back-requires-2 : goal.walk_back-requires-2
walk_back-requires-2 c = (c.in_ok-walk_back.ensures.undoing refl, omega arith, omega (arith, c.min-stop.ensures))

pub returns : goal.returns
returns c =
    let f = c.in_ok-walk_back.ensures in (
      same_history _ c.args.f.now _ c.requires.0.copy c.copy.ensures _ _ _ (walked_all _ _ _ _ _ _ _ _ refl c.walk_back-2.ensures ∙ f.goes_on refl),
      λ z h. kept_frame _ _ c.args.f.now _ c.args.kept.now _ _ _ _ _ _ c.requires.0.copy c.copy.ensures c.requires.1 c.copy-2.ensures c.walk_back.auto.f (f.undoes refl) (omega (arith, c.min-stop.ensures)),
    )
