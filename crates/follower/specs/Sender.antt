-- A sender that counts its frames, frames that are dropped on the way, and a follower that is fed those that arrive. Assumes nothing.
use Rattle.std.specs.Prelude.{ℕ, zero, suc, ◌+◌, ◌%◌, ◌<◌, List, [], ◌∷◌}
use Rattle.follower.specs.Follow.{State, expecting, Answer, accepted, refused, after, follow}

-- the sequence word of a sender's frame n, from 0: the start word, then the frame's number modulo 256
unfoldable pub sent : ℕ → ℕ
sent zero = 0x0100
sent (suc n) = suc n % 256

-- the words that arrive from frame n on, where for each m of the list m frames are dropped and then one arrives
unfoldable pub arrivals : ℕ → List ℕ → List ℕ
arrivals n [] = []
arrivals n (m ∷ ms) = sent (n + m) ∷ arrivals (n + m + 1) ms

-- the true account of the same arrivals: before each m were lost, and after it the number of the frame behind it is expected
unfoldable pub account : ℕ → List ℕ → List Answer
account n [] = []
account n (m ∷ ms) = accepted m (expecting ((n + m + 1) % 256)) ∷ account (n + m + 1) ms

-- every number of the list is below 256
abbrev pub AllBelow256 : List ℕ → Type 0
AllBelow256 [] = Unit {0}
AllBelow256 (m ∷ ms) = (m < 256) × AllBelow256 ms

-- the answers to a run of words, each given in the state that the answer before left
unfoldable pub answers : State → List ℕ → List Answer
answers s [] = []
answers s (word ∷ words) = follow s word ∷ answers (after s (follow s word)) words

-- the losses that the accepted answers report, in order
unfoldable pub losses : List Answer → List ℕ
losses [] = []
losses (accepted lost next ∷ rest) = lost ∷ losses rest
losses (refused number place ∷ rest) = losses rest
