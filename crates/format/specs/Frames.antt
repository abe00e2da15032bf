-- Frames: what one is, what it is written as, and the verdict on some bytes (document 01, "Shape of a frame", "Numbered refusals").
-- Assumes nothing.
use Rattle.std.specs.Prelude.{ℕ, ◌+◌, ◌-◌, ◌*◌, ◌/◌, ◌%◌, ◌≤◌, ◌≡◌, List, [], ◌∷◌, ◌++◌, Bool, true, ◌&&◌, ◌||◌, length, take, drop, leb, eqb}
use Rattle.format.specs.Words.{pick, words, bytes, word_at}
use Rattle.format.specs.Answers.{Outcome, accepted, refused, and_then}
use Rattle.format.specs.Book.{Class, data_frame, monitor_frame, command_frame, class_of}
use Rattle.format.specs.Items.{Item, class_for, words_of, Token, whole, broken, flawed, tokens}
use Rattle.format.specs.Rules.{Kind, data_kind, monitor_kind, command_kind, same, place, value, order, may_end, good, bad, check}

pub record Frame : Type 0 where
  pub kind : Kind
  pub card : ℕ
  pub sequence : ℕ
  pub items : List Item

-- ---- legal frames, and what they are written as

-- the items xs after those of p, the latest first
unfoldable pub earlier_then : List Item → List Item → List Item
earlier_then p [] = p
earlier_then p (x ∷ xs) = earlier_then (x ∷ p) xs

-- the rules hold of an item after those of p
pub record Allowed (kind : Kind) (card : ℕ) (p : List Item) (x : Item) : Type 0 where
  pub placed : place kind p (class_for x) ≡ true
  pub valued : value card p x ≡ true
  pub ordered : order p x ≡ true

-- and of each of some items
unfoldable pub Sound : Kind → ℕ → List Item → List Item → Type 0
Sound kind card p [] = Unit {0}
Sound kind card p (x ∷ xs) = Allowed kind card p x × Sound kind card (x ∷ p) xs

-- the start word of a frame of version 0
abbrev pub start_word : Kind → ℕ → ℕ
start_word data_kind card = 0x0800 + card
start_word monitor_kind card = 0x0600 + card
start_word command_kind card = 0x0400 + card

unfoldable pub all_words : List Item → List ℕ
all_words [] = []
all_words (x ∷ xs) = words_of x ++ all_words xs

-- the size word counts all bytes of the frame
unfoldable pub frame_words : Frame → List ℕ
frame_words f =
    start_word f.kind f.card ∷ (2 * (4 + length (all_words f.items))) ∷ f.sequence ∷ (all_words f.items ++ (0x000F ∷ []))

unfoldable pub encode : Frame → List ℕ
encode f = bytes (frame_words f)

pub record Legal (f : Frame) : Type 0 where
  pub card : f.card ≤ 31
  pub sequence : f.sequence ≤ 0x0100
  pub sound : Sound f.kind f.card [] f.items
  pub ended : may_end (earlier_then [] f.items) ≡ true
  pub short : length (encode f) ≤ 8192

-- ---- the verdict

abbrev pub is_start : Class → Bool
is_start c = same c data_frame || (same c monitor_frame || same c command_frame)

-- the kind of a frame start
abbrev pub kind_of : Class → Kind
kind_of c = pick (same c data_frame) data_kind (pick (same c monitor_frame) monitor_kind command_kind)

-- "odd, under 8 or over 8,192 bytes"
abbrev pub length_fits : ℕ → Bool
length_fits n = eqb (n % 2) 0 && leb 8 n && leb n 8192

-- "word 0 is no frame start, or version is not 0"
abbrev pub start_fits : ℕ → Bool
start_fits w = is_start (class_of w) && eqb (w / 32 % 16) 0

-- the index of the last word
abbrev pub last_of : List ℕ → ℕ
last_of s = length s / 2 - 1

-- the first of refusals 1 to 5, or 0
unfoldable pub head_fault : List ℕ → ℕ
head_fault s =
    pick (length_fits (length s))
    (pick (start_fits (word_at s 0))
    (pick (eqb (word_at s 1) (length s))
    (pick (leb (word_at s 2) 0x0100)
    (pick (eqb (word_at s (last_of s)) 0x000F) 0 5)
    4)
    3)
    2)
    1

abbrev pub kind_in : List ℕ → Kind
kind_in s = kind_of (class_of (word_at s 0))

abbrev pub card_in : List ℕ → ℕ
card_in s = word_at s 0 % 32

-- the words before the last one
unfoldable pub front : List ℕ → List ℕ
front s = take (last_of s) (words s)

-- what begins at the words between the first three and the last
abbrev pub body : List ℕ → List Token
body s = tokens 0 (drop 3 (front s))

-- how many words a token takes
abbrev pub width : Token → ℕ
width (whole x) = length (words_of x)
width (broken c) = 1
width (flawed n) = 1

-- item by item from the left, after those of p and from word `at` on: all items, latest first, or the first fault at its word
unfoldable pub walk : Kind → ℕ → List Item → ℕ → List Token → Outcome (List Item)
walk kind card p at [] = accepted p
walk kind card p at (t ∷ ts) = elim (check kind card p t) [ good q ↦ walk kind card q (at + width t) ts | bad n ↦ refused n at ]

-- a frame whose items are p, latest first, and end at the word `last`
abbrev pub ending : List ℕ → List Item → Outcome Frame
ending s p =
    pick (may_end p) (accepted (record { kind = kind_in s; card = card_in s; sequence = word_at s 2; items = earlier_then [] p })) (refused 11 (last_of s))

-- some bytes of which the first five rules hold
unfoldable pub judged : List ℕ → Outcome Frame
judged s = and_then (walk (kind_in s) (card_in s) [] 3 (body s)) (ending s)

unfoldable pub verdict : List ℕ → Outcome Frame
verdict s = pick (eqb (head_fault s) 0) (judged s) (refused (head_fault s) 0)
