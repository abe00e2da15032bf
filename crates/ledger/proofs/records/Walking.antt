-- The history in the form that a loop from the newest entry back needs: one turn takes the newest of n + 1 entries off.
-- Assumes nothing.
use Prim.Native.Nat.{ℕ, suc, ◌-◌, ◌≤◌}
use mathlib.Core.Path.{◌≡◌, ap, ◌∙◌}
use mathlib.Core.Bool.{true, false}
use mathlib.Core.List.{List}
use native.Mathlib.Omega.{arith}
use lib.ListN.{take}
use Rattle.format.specs.Answers.{accepted, refused}
use Rattle.ledger.specs.Frames.{FrameBook}
use Rattle.ledger.specs.Formats.{Format}
use Rattle.ledger.specs.Records.{numbered, entries_to, length_entries, fits, before, history_verdict, history_none, history_fits, history_unfit}
use Rattle.ledger.specs.Calls.{undone}

module _ (B : FrameBook) (F : Format) where
  -- judging
  pub judge_none : (f b : List ℕ) → history_verdict B F f (entries_to F b 0) ≡ accepted tt
  unfolding entries_to
  judge_none f b = history_none B F f

  pub judge_back : (f b : List ℕ) (n : ℕ) → fits B F f (numbered F b (suc n)) ≡ true
      → history_verdict B F f (entries_to F b (suc n)) ≡ history_verdict B F (before B f (numbered F b (suc n))) (entries_to F b n)
  unfolding entries_to
  judge_back f b n h = history_fits B F f (numbered F b (suc n)) (entries_to F b n) h

  pub judge_stop : (f b : List ℕ) (n : ℕ) → fits B F f (numbered F b (suc n)) ≡ false → history_verdict B F f (entries_to F b (suc n)) ≡ refused 21 (suc n)
  unfolding entries_to
  judge_stop f b n h = history_unfit B F f (numbered F b (suc n)) (entries_to F b n) h ∙ ap (λ (k : ℕ). refused 21 (suc k)) (length_entries F b n)

  -- restoring to k
  pub restore_done : (f b : List ℕ) (k : ℕ) → undone B f (take (k - k) (entries_to F b k)) ≡ f
  unfolding undone
  restore_done f b k = let z : k - k ≡ 0 = omega arith in rw z

  pub restore_back : (f b : List ℕ) (n k : ℕ) → k ≤ n
      → undone B f (take (suc n - k) (entries_to F b (suc n))) ≡ undone B (before B f (numbered F b (suc n))) (take (n - k) (entries_to F b n))
  unfolding entries_to undone
  restore_back f b n k h = let z : suc n - k ≡ suc (n - k) = omega arith in rw z
