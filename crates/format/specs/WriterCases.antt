-- The answers of the writer, case by case in document 01's order: what stands in the buffer, and when each call gives which answer.
-- Assumes nothing.
use Rattle.std.specs.Prelude.{ℕ, ◌+◌, ◌/◌, ◌%◌, ◌<◌, ◌≤◌, ◌≡◌, List, [], ◌∷◌, ◌++◌, map, ◌⊎◌, Bool, true, false, ◌&&◌, ◌||◌, leb, eqb, length, take, drop}
use Rattle.format.specs.Words.{bytes, word_at}
use Rattle.format.specs.Answers.{Outcome, accepted, refused}
use Rattle.format.specs.Book.{Class}
use Rattle.format.specs.Items.{Item, words_of, Token, whole, broken, flawed}
use Rattle.format.specs.Rules.{Kind, may_end}
use Rattle.format.specs.Frames.{Frame, earlier_then, Allowed, Sound, encode, Legal, start_fits, verdict}
use Rattle.format.specs.Faults.{First, FirstFaulty, NewBroken, EmptyBroken}
use Rattle.format.specs.Writing.{Partial, partial_words, partial_verdict}

-- ---- partial frames

-- a partial frame's content, with the items xs in their order, stands in the first n bytes of the buffer
pub record Begun (buf : List ℕ) (n : ℕ) (f : Partial) (xs : List Item) : Type 0 where
  pub card : f.card ≤ 31
  pub sequence : f.sequence ≤ 0x0100
  pub sound : Sound f.kind f.card [] xs
  pub earlier : f.earlier ≡ earlier_then [] xs
  pub most : n ≤ 8190
  pub inside : n ≤ length buf
  pub written : take n buf ≡ bytes (partial_words f.kind f.card f.sequence xs)

-- rule 1 of the first n bytes: "even, at most the buffer's", "6 to 8,190 bytes"; and rules 1 to 4
abbrev pub partial_length : List ℕ → ℕ → Bool
partial_length buf n = eqb (n % 2) 0 && leb 6 n && leb n 8190 && leb n (length buf)

pub record PartialHead (buf : List ℕ) (n : ℕ) : Type 0 where
  pub measured : partial_length buf n ≡ true
  pub started : start_fits (word_at buf 0) ≡ true
  pub sized : word_at buf 1 ≡ 0
  pub sequence : word_at buf 2 ≤ 0x0100

-- the verdict, case by case: a partial frame stands there; or the first of rules 1 to 4 that is broken, at place 0; or the first faulty item, at its
-- word, of those before the word past the last one
pub data PartialAnswer (buf : List ℕ) (n : ℕ) : Outcome Partial → Type 0 where
  stands : (f : Partial) (xs : List Item) → Begun buf n f xs → PartialAnswer buf n (accepted f)
  wrong_length : partial_length buf n ≡ false → PartialAnswer buf n (refused 1 0)
  wrong_kind : partial_length buf n ≡ true → start_fits (word_at buf 0) ≡ false → PartialAnswer buf n (refused 2 0)
  wrong_size : partial_length buf n ≡ true → start_fits (word_at buf 0) ≡ true → (word_at buf 1 ≡ 0 → ⊥) → PartialAnswer buf n (refused 3 0)
  wrong_sequence : partial_length buf n ≡ true → start_fits (word_at buf 0) ≡ true → word_at buf 1 ≡ 0 → 0x0100 < word_at buf 2 → PartialAnswer buf n (refused 4 0)
  faulty : (k q : ℕ) → PartialHead buf n → FirstFaulty buf (n / 2) k q → PartialAnswer buf n (refused k q)

-- the content of a partial frame with the items xs, and a content with one item more
abbrev pub content : Kind → ℕ → ℕ → List Item → Partial
content kind card sequence xs = record { kind = kind; card = card; sequence = sequence; earlier = earlier_then [] xs }

abbrev pub with_item : Partial → Item → Partial
with_item f x = record { kind = f.kind; card = f.card; sequence = f.sequence; earlier = x ∷ f.earlier }

-- the frame of a partial frame's content, with the items xs in their order
abbrev pub framed : Partial → List Item → Frame
framed f xs = record { kind = f.kind; card = f.card; sequence = f.sequence; items = xs }

-- some continuation of the items xs is sound and may end
pub record Ends (kind : Kind) (card : ℕ) (xs : List Item) : Type 0 where
  pub more : List Item
  pub sound : Sound kind card [] (xs ++ more)
  pub ended : may_end (earlier_then [] (xs ++ more)) ≡ true

-- ---- numbers

-- the number is one of these
abbrev pub one_of : ℕ → List ℕ → Bool
one_of k [] = false
one_of k (n ∷ ns) = eqb k n || one_of k ns

-- the rules of a partial frame's first words, and those that an item in a frame can break
abbrev pub head_numbers : List ℕ
head_numbers = 1 ∷ 2 ∷ 3 ∷ 4 ∷ []

abbrev pub item_numbers : List ℕ
item_numbers = 6 ∷ 7 ∷ 8 ∷ 9 ∷ 10 ∷ []

-- refusal k at place q of a partial frame of n bytes: "the word index of the item for 6 to 10, .. else 0"
pub data PartialRefused (n k q : ℕ) : Type 0 where
  by_head : one_of k head_numbers ≡ true → q ≡ 0 → PartialRefused n k q
  by_item : one_of k item_numbers ≡ true → 3 ≤ q → q < n / 2 → PartialRefused n k q

-- ---- begin: "card over 31 by 9, sequence word by 4, a buffer under 8 bytes by 12, in that order"

pub data Begin (buf : List ℕ) (card sequence : ℕ) : Outcome ℕ → Type 0 where
  begins : card ≤ 31 → sequence ≤ 0x0100 → 8 ≤ length buf → Begin buf card sequence (accepted 6)
  card_wide : 31 < card → Begin buf card sequence (refused 9 0)
  sequence_wide : card ≤ 31 → 0x0100 < sequence → Begin buf card sequence (refused 4 0)
  begin_short : card ≤ 31 → sequence ≤ 0x0100 → length buf < 8 → Begin buf card sequence (refused 12 0)

-- ---- add: "Add then tests 8, 9, 10 for the new item and last 12"

-- a token that a caller can hand over: no fault of words read
abbrev pub handed : Token → Bool
handed (whole x) = true
handed (broken c) = true
handed (flawed n) = false

-- the length with the item
abbrev pub longer : ℕ → Item → ℕ
longer n x = n + length (bytes (words_of x))

pub data Add (buf : List ℕ) (n : ℕ) : Token → Outcome ℕ → Type 0 where
  adds : (f : Partial) (x : Item) → partial_verdict buf n ≡ accepted f → Allowed f.kind f.card f.earlier x
      → longer n x + 2 ≤ length buf → longer n x + 2 ≤ 8192 → Add buf n (whole x) (accepted (longer n x))
  add_partial : (t : Token) (k p : ℕ) → partial_verdict buf n ≡ refused k p → Add buf n t (refused k p)
  -- "8, 9, 10 for the new item": the first of them that it breaks, at "the word index it would start at"
  add_breaks : (f : Partial) (x : Item) (k : ℕ) → partial_verdict buf n ≡ accepted f → First (NewBroken f.kind f.card f.earlier x) k
      → Add buf n (whole x) (refused k (n / 2))
  add_empty : (f : Partial) (c : Class) (k : ℕ) → partial_verdict buf n ≡ accepted f → First (EmptyBroken f.kind f.earlier c) k → Add buf n (broken c) (refused k (n / 2))
  -- what no caller can hand over
  add_flawed : (f : Partial) (k : ℕ) → partial_verdict buf n ≡ accepted f → Add buf n (flawed k) (refused k (n / 2))
  add_short : (f : Partial) (x : Item) → partial_verdict buf n ≡ accepted f → Allowed f.kind f.card f.earlier x
      → (length buf < longer n x + 2) ⊎ (8192 < longer n x + 2) → Add buf n (whole x) (refused 12 0)

-- nothing else is wrong with the item, and the frame with it and an end word would pass the buffer or 8,192 bytes
pub record Short (buf : List ℕ) (n : ℕ) (t : Token) (p : ℕ) : Type 0 where
  pub partial : Partial
  pub item : Item
  pub token : t ≡ whole item
  pub judged : partial_verdict buf n ≡ accepted partial
  pub allowed : Allowed partial.kind partial.card partial.earlier item
  pub short : (length buf < longer n item + 2) ⊎ (8192 < longer n item + 2)
  pub at : p ≡ 0

-- ---- close: "Close refuses 11, then 12 if the end word doesn't fit"

pub data Close (buf : List ℕ) (n : ℕ) : Outcome ℕ → Type 0 where
  closes : (f : Partial) → partial_verdict buf n ≡ accepted f → may_end f.earlier ≡ true → n + 2 ≤ length buf → Close buf n (accepted (n + 2))
  close_partial : (k p : ℕ) → partial_verdict buf n ≡ refused k p → Close buf n (refused k p)
  close_open : (f : Partial) → partial_verdict buf n ≡ accepted f → may_end f.earlier ≡ false → Close buf n (refused 11 (n / 2))
  close_short : (f : Partial) → partial_verdict buf n ≡ accepted f → may_end f.earlier ≡ true → length buf < n + 2 → Close buf n (refused 12 0)

-- the buffer holds the frame f in its first m bytes, and is as it was behind them
pub record Holds (buf left : List ℕ) (f : Frame) (m : ℕ) : Type 0 where
  pub legal : Legal f
  pub reached : m ≡ length (encode f)
  pub written : left ≡ encode f ++ drop m buf

-- an accepted run of begin, adds of the tokens ts, and close
pub record WritingDone (buf : List ℕ) (kind : Kind) (card sequence : ℕ) (ts : List Token) (m : ℕ) (left : List ℕ) : Type 0 where
  pub items : List Item
  pub added : ts ≡ map whole items
  pub holds : Holds buf left (record { kind = kind; card = card; sequence = sequence; items = items }) m
  pub reads : verdict (take m left) ≡ accepted (record { kind = kind; card = card; sequence = sequence; items = items })
