-- What the call promises: its answer, and the whole of what it leaves in the memory lent to it.
-- Assumes nothing.
use Rattle.std.specs.Prelude.{ℕ, ◌≡◌, List}
use Rattle.format.specs.Answers.{Outcome}
use Rattle.listing.specs.Listing.{listing_answer, listing_exit}

-- the listing of b, into a second buffer
pub record Listed (b found : List ℕ) (answer : Outcome ℕ) (exit : List ℕ) : Type 0 where
  pub answered : answer ≡ listing_answer b found
  pub left : exit ≡ listing_exit b found
