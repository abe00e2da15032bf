use mathlib.Core.Path.{◌≡◌}
use mathlib.Core.Bool.{◌&&◌}
use lib.ListN.{drop}
use Rattle.format.specs.Words.{non_zero}
use Rattle.cursor.proofs.texts.no_zero.Given as goal

abbrev pub invariant-loop-x : goal.invariant-loop-x
invariant-loop-x l = l.good && non_zero (drop l.x-index l.s) ≡ non_zero l.s
