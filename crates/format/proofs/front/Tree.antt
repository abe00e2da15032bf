-- The front page of the second writing, T6b: the rules of specs/Rules.antt and the trees of specs/Tree.antt say the same. A list of items is sound
-- and may end where it does exactly where it is the leaves of a lawful tree; and no two trees have the same leaves. Each theorem is one law.
-- Assumes nothing.
use Prim.Native.Nat.{ℕ}
use mathlib.Core.Path.{◌≡◌}
use mathlib.Core.List.{List, []}
use mathlib.Core.Bool.{true}
use mathlib.Core.Logic.{◌↔◌}
use Rattle.format.specs.Items.{Item}
use Rattle.format.specs.Rules.{Kind, may_end}
use Rattle.format.specs.Frames.{Frame, earlier_then, Sound, Legal}
use Rattle.format.specs.Tree.{Tree, leaves, Lawful, TreeOf}
use Rattle.format.proofs.tree.TreeLaws as law

-- no two trees have the same leaves: each level ends where an item of another class begins
pub one_tree : (kind : Kind) (t u : Tree kind) → leaves kind t ≡ leaves kind u → t ≡ u
one_tree = law.one_tree

-- the leaves of a lawful tree are sound, and may end there: not after Channel or Time bin
pub of_tree : (kind : Kind) (card : ℕ) (tree : Tree kind) → Lawful kind card tree → Sound kind card [] (leaves kind tree) × (may_end (earlier_then [] (leaves kind tree)) ≡ true)
of_tree = law.of_tree

-- and such a list is the leaves of a lawful tree
pub tree_of : (kind : Kind) (card : ℕ) (xs : List Item) → Sound kind card [] xs → may_end (earlier_then [] xs) ≡ true → TreeOf kind card xs
tree_of = law.tree_of

-- T6b, both ways; by `one_tree` the tree is the only one
pub as_tree : (kind : Kind) (card : ℕ) (xs : List Item) → (Sound kind card [] xs × (may_end (earlier_then [] xs) ≡ true)) ↔ TreeOf kind card xs
as_tree = law.as_tree

-- so the items of every legal frame are a lawful tree's
pub frame_tree : (f : Frame) → Legal f → TreeOf f.kind f.card f.items
frame_tree = law.frame_tree
