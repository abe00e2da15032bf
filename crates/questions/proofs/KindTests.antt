-- What a test of a frame's kind tells.
-- Assumes nothing.
use Prim.Native.Nat.{ℕ}
use mathlib.Core.Path.{◌≡◌, refl, sym}
use mathlib.Core.Bool.{true, false, not, true≢false}
use native.Mathlib.Omega.{arith}
use denote.Enum.Bare.{sameb}
use Rattle.format.specs.Rules.{data_kind, monitor_kind}
use Rattle.rules.specs.contracts.state.Kind.{the_type}
use Rattle.rules.specs.declared.state.Kind.{Kind}
use Rattle.rules.specs.declared.state.Kind.TheVariants.{Data, Monitor, Command}
use Rattle.rules.specs.Views.{view_kind}

pub data_is : (k : Kind) → not (sameb the_type k Data) ≡ false → view_kind k ≡ data_kind
data_is Data e = refl
data_is Monitor e = absurd (true≢false e)
data_is Command e = absurd (true≢false e)

pub not_data : (k : Kind) → not (sameb the_type k Data) ≡ true → view_kind k ≡ data_kind → ⊥
not_data Data e f = true≢false (sym e)
not_data Monitor e f = let z : ◌≡◌ {A = ℕ} 0 1 = cc in omega arith
not_data Command e f = let z : ◌≡◌ {A = ℕ} 0 1 = cc in omega arith

pub monitor_is : (k : Kind) → not (sameb the_type k Monitor) ≡ false → view_kind k ≡ monitor_kind
monitor_is Data e = absurd (true≢false e)
monitor_is Monitor e = refl
monitor_is Command e = absurd (true≢false e)

pub not_monitor : (k : Kind) → not (sameb the_type k Monitor) ≡ true → view_kind k ≡ monitor_kind → ⊥
not_monitor Data e f = let z : ◌≡◌ {A = ℕ} 0 1 = cc in omega arith
not_monitor Monitor e f = true≢false (sym e)
not_monitor Command e f = let z : ◌≡◌ {A = ℕ} 0 1 = cc in omega arith
