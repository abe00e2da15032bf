-- A listing hides nothing that it speaks of: two accepted records with the same listing have frames of the same kind, card, sequence word, length
-- and number of items, and the same entries, times and desks included; with an entry they are also of the same version (specs/Listing.antt,
-- `SameRecord`). Without entries a listing does not tell the version: front/Figures.antt has a record of each that list alike. Proved by one law.
-- Assumes nothing.
use Prim.Native.Nat.{ℕ}
use mathlib.Core.Path.{◌≡◌}
use mathlib.Core.List.{List}
use Rattle.format.specs.Words.{Bytes}
use Rattle.format.specs.Answers.{accepted}
use Rattle.format.specs.Frames.{Frame}
use Rattle.listing.specs.Listing.{frame_of, listing, SameRecord}
use Rattle.listing.proofs.SameListings as law

pub nothing_hidden : (b c : List ℕ) → Bytes b → Bytes c → (f g : Frame) → frame_of b ≡ accepted f → frame_of c ≡ accepted g → listing b ≡ listing c → SameRecord b c f g
nothing_hidden = law.nothing_hidden
