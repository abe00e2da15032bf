-- What a scan of an accepted frame notes where an item begins: the word of the header that the item stands under, by its index. The rules of a
-- frame are not asked again. That spots are what this and the cursor tell is in proofs/spots/ScanLaws.
-- Assumes nothing.
use Rattle.std.specs.Prelude.{ℕ, zero, suc, ◌+◌, ◌<◌, ◌≤◌, List, [], ◌∷◌, length, eqb}
use Rattle.std.proofs.Math.Option.{Option, none, some}
use Rattle.format.specs.Words.{pick}
use Rattle.format.specs.Answers.{Outcome, accepted, refused}
use Rattle.format.specs.Items.{ItemOf, Item, Channel, Histogram, HitCount, Sample, Bin, LastCell, TimeBin, Text, StartEvent, ContinueEvent, EndEvent, words_of}
use Rattle.format.specs.Frames.{Frame, last_of, verdict}
use Rattle.format.specs.Steps.{next_at}
use Rattle.format.specs.Questions.{Shown}
use Rattle.format.specs.Cursor.{standing_at, shown_by}
use Rattle.format.specs.Spots.{Header, no_header, Spot, spot_of, under}

-- the word of the header that the next item stands under: that of a Channel or Histogram at word `at`, after any other item still h
abbrev pub head_by : {T : Type 0} → ℕ → ℕ → ItemOf T → ℕ
head_by h at (Channel a b c) = at
head_by h at (Histogram a b c) = at
head_by h at (HitCount a b c) = h
head_by h at (Sample v) = h
head_by h at (Bin b n) = h
head_by h at (LastCell a b) = h
head_by h at (TimeBin t) = h
head_by h at (Text s) = h
head_by h at (StartEvent t ts n) = h
head_by h at (ContinueEvent n) = h
head_by h at (EndEvent n) = h

-- for the item whose first word is word w; 0 where no item begins there
unfoldable pub head_in : ℕ → ℕ → List Item → ℕ → ℕ
head_in h at [] w = 0
head_in h at (x ∷ xs) w = pick (eqb w at) (head_by h at x) (head_in (head_by h at x) (at + length (words_of x)) xs w)

-- before any header it is word 1, at which no item stands
abbrev pub head_for : Outcome Frame → ℕ → ℕ
head_for (accepted f) w = head_in 1 3 f.items w
head_for (refused n p) w = 0

unfoldable pub head : List ℕ → ℕ → ℕ
head s w = head_for (verdict s) w

-- the header that the item at word h is; none there
abbrev pub header_by : Option Shown → Header
header_by none = no_header
header_by (some r) = under no_header r.item

unfoldable pub header_at : List ℕ → ℕ → Header
header_at s h = header_by (shown_by (standing_at s h))

-- the spot by the word noted and the item that stands there
abbrev pub spot_by : List ℕ → ℕ → Option Shown → Option Spot
spot_by s zero o = none
spot_by s (suc h) none = none
spot_by s (suc h) (some r) = spot_of (header_at s (suc h)) r.item

-- an item that begins at word w lies between the first three words and the last
pub record Noted (s : List ℕ) (w : ℕ) : Type 0 where
  pub late : 3 ≤ w
  pub early : w < last_of s
  pub whole : next_at s w ≤ last_of s
