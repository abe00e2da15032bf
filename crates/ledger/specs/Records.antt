-- The plane record over bytes (document 01, "The plane record"): its header, its entries, and the order in which it is tested.
-- Assumes nothing.
use Rattle.std.specs.Prelude.{ℕ, zero, suc, ◌+◌, ◌-◌, ◌*◌, ◌≡◌, Bool, true, false, not, List, [], ◌∷◌, ◌++◌, length, take, drop, leb, eqb}
use Rattle.std.proofs.Math.Path.{refl}
use Rattle.std.proofs.Common.{ap}
use Rattle.std.proofs.Math.Option.{Option, none, some}
use Rattle.format.specs.Words.{bytes, word_at, long_at, long_words}
use Rattle.format.specs.Answers.{accepted, refused, Done, and_then, need, first_of}
use Rattle.format.specs.Spots.{Spot}
use Rattle.ledger.specs.Tests.{all}
use Rattle.ledger.specs.Frames.{FrameBook}
use Rattle.ledger.specs.Formats.{Entry, Format, size}

-- ---- header: version; frame count 1; frame offset 16; frame length; history offset; entry count; total length; 0
unfoldable pub header : Format → ℕ → ℕ → List ℕ
header F len n = bytes (F.version ∷ 1 ∷ 16 ∷ len ∷ (16 + len) ∷ n ∷ (16 + len + size F * n) ∷ 0 ∷ [])

unfoldable pub length_in : List ℕ → ℕ
length_in b = word_at b 3

unfoldable pub count_in : List ℕ → ℕ
count_in b = word_at b 5

abbrev pub total_in : Format → List ℕ → ℕ
total_in F b = 16 + length_in b + size F * count_in b

-- the frame as it now stands
abbrev pub frame_in : List ℕ → List ℕ
frame_in b = take (length_in b) (drop 16 b)

-- ---- entries: word index, kind, old value (4 bytes), new value (4), operator, reason, and what the format adds
unfoldable pub entry_bytes : Format → Entry → List ℕ
entry_bytes F e = bytes ((e.word ∷ e.kind ∷ []) ++ long_words e.old ++ long_words e.new ++ (e.operator ∷ e.reason ∷ [])) ++ F.written e.extra

-- the entry that a list of bytes begins with
unfoldable pub entry_of : Format → List ℕ → Entry
entry_of F s = record {
  word = word_at s 0;
  kind = word_at s 1;
  old = long_at s 2;
  new = long_at s 4;
  operator = word_at s 6;
  reason = word_at s 7;
  extra = F.read (drop 16 s);
}

-- entry j of a record, from 1 as the oldest
unfoldable pub numbered : Format → List ℕ → ℕ → Entry
numbered F b j = entry_of F (drop (16 + length_in b + size F * (j - 1)) b)

-- the first n entries of a record, newest first
unfoldable pub entries_to : Format → List ℕ → ℕ → List Entry
entries_to F b zero = []
entries_to F b (suc n) = numbered F b (suc n) ∷ entries_to F b n

pub entries_none : (F : Format) (b : List ℕ) → entries_to F b 0 ≡ []
unfolding entries_to
entries_none F b = refl

pub entries_more : (F : Format) (b : List ℕ) (n : ℕ) → entries_to F b (suc n) ≡ numbered F b (suc n) ∷ entries_to F b n
unfolding entries_to
entries_more F b n = refl

pub length_entries : (F : Format) (b : List ℕ) (n : ℕ) → length (entries_to F b n) ≡ n
unfolding entries_to
length_entries F b zero = refl
length_entries F b (suc n) = ap suc (length_entries F b n)

abbrev pub entries_in : Format → List ℕ → List Entry
entries_in F b = entries_to F b (count_in b)

-- ---- 20: the buffer, the header words, and how many entries may stand; sums are whole numbers, with no wrap
unfoldable pub header_right : Format → List ℕ → Bool
header_right F b =
    all
    (leb 16 (length b)
    ∷ eqb (word_at b 0) F.version
    ∷ eqb (word_at b 1) 1
    ∷ eqb (word_at b 2) 16
    ∷ eqb (word_at b 4) (16 + length_in b)
    ∷ eqb (word_at b 6) (total_in F b)
    ∷ eqb (word_at b 7) 0
    ∷ leb (total_in F b) (length b)
    ∷ F.limit (entries_in F b)
    ∷ [])

-- operator 1 to 65,535, reason 1 to 5
unfoldable pub signed : ℕ → ℕ → Bool
signed operator reason = all (leb 1 operator ∷ leb operator 65535 ∷ leb 1 reason ∷ leb reason 5 ∷ [])

-- an item stands there and passes the test
abbrev pub at_spot : Option Spot → (Spot → Bool) → Bool
at_spot none p = false
at_spot (some s) p = p s

-- the frame before an entry: its old value is taken as standing
abbrev pub before : FrameBook → List ℕ → Entry → List ℕ
before B f e = B.put f e.word e.old

module _ (B : FrameBook) (F : Format) where
  -- an entry against the item at its word: it is of that kind, the new value is the one standing, the old one is legal and different,
  -- operator and reason are legal, and so is what the format adds
  unfoldable pub fits_item : Entry → Spot → Bool
  fits_item e s =
      all
      (eqb s.kind e.kind
      ∷ eqb s.value e.new
      ∷ B.legal e.kind e.old
      ∷ not (eqb e.old e.new)
      ∷ signed e.operator e.reason
      ∷ F.good e.extra
      ∷ F.suits e.extra s
      ∷ [])

  -- an entry fits a frame: the item stands at that index and passes those tests
  unfoldable pub fits : List ℕ → Entry → Bool
  fits f e = at_spot (B.spot f e.word) (fits_item e)

  -- 21: entries from the newest back, each against the frame that the newer ones leave; the place is the entry's number from the oldest, 1
  unfoldable pub history_verdict : List ℕ → List Entry → Done
  history_verdict f [] = accepted tt
  history_verdict f (e ∷ es) = and_then (need (fits f e) 21 (suc (length es))) (λ u. history_verdict (before B f e) es)

  pub history_none : (f : List ℕ) → history_verdict f [] ≡ accepted tt
  unfolding history_verdict
  history_none f = refl

  pub history_fits : (f : List ℕ) (e : Entry) (es : List Entry) → fits f e ≡ true → history_verdict f (e ∷ es) ≡ history_verdict (before B f e) es
  unfolding history_verdict
  history_fits f e es h = rw h

  pub history_unfit : (f : List ℕ) (e : Entry) (es : List Entry) → fits f e ≡ false → history_verdict f (e ∷ es) ≡ refused 21 (suc (length es))
  unfolding history_verdict
  history_unfit f e es h = rw h

  -- a record is tested: 20, frame refusals, then the entries
  unfoldable pub record_verdict : List ℕ → Done
  record_verdict b = first_of (need (header_right F b) 20 0 ∷ B.judge (frame_in b) ∷ history_verdict (frame_in b) (entries_in F b) ∷ [])
