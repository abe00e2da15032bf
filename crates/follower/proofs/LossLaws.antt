-- Numbers modulo 256: the loss is the one number below 256 that leads from the expected number to the one that came. Assumes nothing.
use Prim.Native.Nat.{ℕ, ◌+◌, ◌%◌, ◌<◌}
use mathlib.Core.Path.{◌≡◌, sym, ap₂, ◌∙◌}
use mathlib.Core.Logic.{◌↔◌}
use native.Mathlib.Omega.{arith}
use Rattle.follower.specs.Follow.{State, expecting, accepted, difference, follow}
use Rattle.follower.proofs.LineLaws.{at_number}

pub below : (e nn : ℕ) → difference nn e < 256
below e nn = omega arith

pub reaches : (e nn : ℕ) → e < 256 → nn < 256 → (e + difference nn e) % 256 ≡ nn
reaches e nn a b = omega arith

pub exists : (e nn : ℕ) → e < 256 → nn < 256 → (l : ℕ) × (l < 256) × ((e + l) % 256 ≡ nn)
exists e nn a b = (_, below e nn, reaches e nn a b)

pub only : (e nn l k : ℕ) → e < 256 → l < 256 → k < 256 → (e + l) % 256 ≡ nn → (e + k) % 256 ≡ nn → l ≡ k
only e nn l k a b c f g = omega arith

-- whatever number of frames is dropped, the difference is that number modulo 256
pub dropped : (e d : ℕ) → e < 256 → difference ((e + d) % 256) e ≡ d % 256
dropped e d a = omega arith

-- what an accepted answer holds
lost_of : (l k : ℕ) (s t : State) → accepted l s ≡ accepted k t → l ≡ k
lost_of l k s t e = cc

next_of : (l k : ℕ) (s t : State) → accepted l s ≡ accepted k t → s ≡ t
next_of l k s t e = cc

module _ (e nn : ℕ) (a : e < 256) (b : nn < 256) (l : ℕ) (next : State) where
  -- from the answer to what it holds, and back
  loss_is : follow (expecting e) nn ≡ accepted l next → (l < 256) × ((e + l) % 256 ≡ nn) × (next ≡ expecting ((nn + 1) % 256))
  loss_is h =
      let f = at_number e nn (omega arith) ∙ h in
      let d : difference nn e ≡ l = lost_of _ _ _ _ f in
      (omega (arith, below e nn), omega (arith, reaches e nn a b), sym (next_of _ _ _ _ f))

  tells : (l < 256) × ((e + l) % 256 ≡ nn) × (next ≡ expecting ((nn + 1) % 256)) → follow (expecting e) nn ≡ accepted l next
  tells h =
      sym (at_number e nn (omega arith))
      ∙ ap₂ (λ (l : ℕ) (s : State). accepted l s) (only e nn (difference nn e) l a (below e nn) h.0 (reaches e nn a b) h.1) (sym h.2)

  pub exactly : (follow (expecting e) nn ≡ accepted l next) ↔ ((l < 256) × ((e + l) % 256 ≡ nn) × (next ≡ expecting ((nn + 1) % 256)))
  exactly = (loss_is, tells)
