-- A word's class by prefixes of varying length, tried in the table's order: for any table and any kind of class. The laws are in proofs/book/PrefixLaws.
-- Assumes nothing.
use Rattle.std.specs.Prelude.{◌≡◌, Bool, true, not, ◌&&◌, ℕ, ◌/◌, ◌^◌, ◌-◌, eqb, leb}
use mathlib.Core.List.{List, [], ◌∷◌, Memᴰ}
use Rattle.std.proofs.Math.Option.{Option, none, some}
use Rattle.format.specs.Words.{pick}

-- a row: the 16-bit words whose `bits` high bits are `prefix` are of the class
pub record Row (A : Type 0) : Type 0 where
  pub prefix : ℕ
  pub bits : ℕ
  pub class : A

module _ {A : Type 0} where
  -- the word's high bits are the row's prefix
  abbrev pub matches : Row A → ℕ → Bool
  matches r w = eqb (w / 2 ^ (16 - r.bits)) r.prefix

  -- the class of the first row that the word matches
  unfoldable pub find : List (Row A) → ℕ → Option A
  find [] w = none
  find (r ∷ t) w = pick (matches r w) (some r.class) (find t w)

  -- p's prefix begins q's
  abbrev pub begins : Row A → Row A → Bool
  begins p q = leb p.bits q.bits && eqb (q.prefix / 2 ^ (q.bits - p.bits)) p.prefix

  -- neither p's prefix nor that of a row of the table begins the other
  abbrev pub apart : Row A → List (Row A) → Bool
  apart p [] = true
  apart p (q ∷ t) = not (begins p q) && (not (begins q p) && apart p t)

  -- no prefix begins another, and none is longer than a word
  abbrev pub prefix_free : List (Row A) → Bool
  prefix_free [] = true
  prefix_free (p ∷ t) = leb p.bits 16 && (apart p t && prefix_free t)

  -- a row of the table that the word matches, of class c
  pub record Matched (t : List (Row A)) (w : ℕ) (c : A) : Type 0 where
    pub row : Row A
    pub member : Memᴰ row t
    pub fits : matches row w ≡ true
    pub class : row.class ≡ c
