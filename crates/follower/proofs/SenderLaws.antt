-- A follower that is fed the frames of a sender that counts. Assumes nothing.
use Prim.Native.Nat.{ℕ, zero, suc, ◌+◌, ◌%◌, ◌<◌}
use mathlib.Core.Path.{◌≡◌, refl, sym, ap, ap₂, ◌∙◌}
use mathlib.Core.List.{List, [], ◌∷◌}
use native.Mathlib.Omega.{arith}
use Rattle.follower.specs.Follow.{State, expecting, Answer, accepted, follow}
use Rattle.follower.specs.Sender.{sent, arrivals, account, AllBelow256, answers, losses}
use Rattle.follower.proofs.LineLaws.{starts, at_number}
use Rattle.follower.proofs.LossLaws.{dropped}

-- the word of every frame but the first
pub sent_later : (n : ℕ) → 0 < n → sent n ≡ n % 256
unfolding sent
sent_later zero h = absurd (omega arith)
sent_later (suc n) h = refl

-- d frames are dropped while e is expected: the loss is d modulo 256
pub follows : (e d : ℕ) → e < 256 → follow (expecting e) ((e + d) % 256) ≡ accepted (d % 256) (expecting ((e + d + 1) % 256))
follows e d h =
    sym (at_number e ((e + d) % 256) (omega arith))
    ∙ ap₂ (λ (l n : ℕ). accepted l (expecting n)) (dropped e d h) (omega arith)

-- below 256 it is the number itself
pub reports : (e m : ℕ) → e < 256 → m < 256 → follow (expecting e) ((e + m) % 256) ≡ accepted m (expecting ((e + m + 1) % 256))
reports e m a b = follows e m a ∙ ap (λ (l : ℕ). accepted l (expecting ((e + m + 1) % 256))) (omega arith)

-- the same where frame n is next to be sent and m frames are dropped
pub arrives : (n m : ℕ) → 0 < n → m < 256 → follow (expecting (n % 256)) (sent (n + m)) ≡ accepted m (expecting ((n + m + 1) % 256))
arrives n m h b =
    ap (follow (expecting (n % 256))) (sent_later (n + m) (omega arith) ∙ mod_in)
    ∙ reports (n % 256) m (omega arith) b
    ∙ ap (λ (k : ℕ). accepted m (expecting k)) (omega arith)
  where
    mod_in : (n + m) % 256 ≡ (n % 256 + m) % 256
    mod_in = omega arith

-- every answer to the arrivals from frame n on, where the follower expects that frame, is the true one
pub followed : (n : ℕ) (ms : List ℕ) → 0 < n → AllBelow256 ms → answers (expecting (n % 256)) (arrivals n ms) ≡ account n ms
unfolding answers arrivals account
followed n [] h b = refl
followed n (m ∷ ms) h b =
    rw (arrives n m h b.0) (ap (λ (l : List Answer). accepted m (expecting ((n + m + 1) % 256)) ∷ l) (followed (n + m + 1) ms (omega arith) b.1))

pub account_losses : (n : ℕ) (ms : List ℕ) → losses (account n ms) ≡ ms
unfolding losses account
account_losses n [] = refl
account_losses n (m ∷ ms) = ap (λ (l : List ℕ). m ∷ l) (account_losses (n + m + 1) ms)

-- the start word brings any follower there
pub run : (s : State) (ms : List ℕ) → AllBelow256 ms → answers s (sent 0 ∷ arrivals 1 ms) ≡ accepted 0 (expecting 1) ∷ account 1 ms
unfolding answers sent
run s ms b = rw (← starts s 0x0100 refl) (ap (λ (l : List Answer). accepted 0 (expecting 1) ∷ l) (followed 1 ms (omega arith) b))

pub run_losses : (s : State) (ms : List ℕ) → AllBelow256 ms → losses (answers s (sent 0 ∷ arrivals 1 ms)) ≡ 0 ∷ ms
unfolding losses
run_losses s ms b = ap losses (run s ms b) ∙ ap (λ (l : List ℕ). 0 ∷ l) (account_losses 1 ms)
