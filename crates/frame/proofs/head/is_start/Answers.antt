-- `frame::head::is_start` meets its contract.
-- Assumes nothing.
use Prim.Native.Nat.{ℕ, ◌/◌}
use mathlib.Core.Path.{◌≡◌, refl, sym, ap, ◌∙◌}
use mathlib.Core.Bool.{true, ◌||◌}
use mathlib.Core.Logic.{inl, inr}
use Rattle.std.proofs.Common.{rules}
use lib.Dec.{eqb}
use borrow.Author.Tests.{ne_eqb}
use Rattle.format.specs.Frames.{start_fits}
use Rattle.format.proofs.reader.HeadTests.{start_high_lem}
use Rattle.frame.proofs.head.is_start.Goals as goal

-- by the high bits of a word
by_high : (w n : ℕ) → w / 32 ≡ n → eqb n 0x40 || (eqb n 0x30 || eqb n 0x20) ≡ true → true ≡ start_fits w
by_high w n e h = sym h ∙ ap (λ (k : ℕ). eqb k 0x40 || (eqb k 0x30 || eqb k 0x20)) (sym e) ∙ start_high_lem w

pub returns-in-64 : goal.returns-in-64
returns-in-64 c = elim c.in-64.is [ inl e ↦ by_high _ _ e refl | inr (inl e) ↦ by_high _ _ e refl | inr (inr e) ↦ by_high _ _ e refl ]

pub returns-in_default : goal.returns-in_default
returns-in_default c =
    let w = c.args.w in
    rw (ne_eqb (w / 32) 0x40 (λ e. search rules), ne_eqb (w / 32) 0x30 (λ e. search rules), ne_eqb (w / 32) 0x20 (λ e. search rules)) at (start_high_lem w)
