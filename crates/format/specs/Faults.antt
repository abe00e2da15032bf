-- When each refusal of a frame is due and at what place, in document 01's words ("Numbered refusals") and with no word of a walk; a partial frame's
-- items and a new item of the writer are refused by the same words.
-- Assumes nothing.
use Rattle.std.specs.Prelude.{ℕ, suc, ◌+◌, ◌-◌, ◌/◌, ◌%◌, ◌<◌, ◌≤◌, ◌≡◌, List, [], true, false, length, take, drop}
use Rattle.format.specs.Words.{words, word_at}
use Rattle.format.specs.Answers.{accepted, refused}
use Rattle.format.specs.Book.{Class, unassigned, class_of, after}
use Rattle.format.specs.Items.{Item, class_for, words_of}
use Rattle.format.specs.Rules.{Kind, place, value, order, may_end}
use Rattle.format.specs.Frames.{Frame, earlier_then, Sound, all_words, encode, Legal, is_start, last_of, kind_in, card_in, front, verdict}

-- ---- rules 1 to 5: what breaks each
pub data HeadBroken (s : List ℕ) : ℕ → Type 0 where
  -- "odd, under 8 or over 8,192 bytes"
  odd : length s % 2 ≡ 1 → HeadBroken s 1
  under : length s < 8 → HeadBroken s 1
  over : 8192 < length s → HeadBroken s 1
  -- "word 0 is no frame start, or version is not 0"
  no_start : is_start (class_of (word_at s 0)) ≡ false → HeadBroken s 2
  other_version : (word_at s 0 / 32 % 16 ≡ 0 → ⊥) → HeadBroken s 2
  -- "word 1 differs from the length"
  other_size : (word_at s 1 ≡ length s → ⊥) → HeadBroken s 3
  -- "word 2 above 0x0100"
  high_sequence : 0x0100 < word_at s 2 → HeadBroken s 4
  -- "last word not 0x000F"
  no_end : (word_at s (last_of s) ≡ 0x000F → ⊥) → HeadBroken s 5

-- the number of the first broken rule
pub record First (Broken : ℕ → Type 0) (n : ℕ) : Type 0 where
  pub broken : Broken n
  pub earlier : (m : ℕ) → m < n → Broken m → ⊥

-- ---- rules 6 to 10, of the item that begins at word p of the bytes s, after the items q, latest first

-- how many words come after its first one, and all its words
abbrev pub after_at : List ℕ → ℕ → ℕ
after_at s p = after (class_of (word_at s p)) (word_at s p)

abbrev pub words_at : List ℕ → ℕ → List ℕ
words_at s p = take (suc (after_at s p)) (drop p (words s))

-- the items end before word `end`, which is a frame's last word, or the word past a partial frame's last one
pub data ItemBroken (s : List ℕ) (end : ℕ) (q : List Item) (p : ℕ) : ℕ → Type 0 where
  -- "unassigned word begins an item"
  no_class : class_of (word_at s p) ≡ unassigned → ItemBroken s end q p 6
  -- "the words after it reach the last word"; in a partial frame "words missing past the partial frame's end"
  cut : end ≤ p + after_at s p → ItemBroken s end q p 7
  -- "class not allowed here"
  misplaced : place (kind_in s) q (class_of (word_at s p)) ≡ false → ItemBroken s end q p 8
  -- "a value rule broken": they are the words of no item of which the value rules hold
  misvalued : ((x : Item) → words_at s p ≡ words_of x → value (card_in s) q x ≡ true → ⊥) → ItemBroken s end q p 9
  -- "an order rule broken"
  disordered : (x : Item) → words_at s p ≡ words_of x → value (card_in s) q x ≡ true → order q x ≡ false → ItemBroken s end q p 10

-- "item by item from the left: the first faulty item gives its first of 6 to 10", at "the word index of the item": the items before it are
-- faultless and stand from word 3 on, and it begins where they end
pub record FirstFaulty (s : List ℕ) (end n p : ℕ) : Type 0 where
  pub items : List Item
  pub sound : Sound (kind_in s) (card_in s) [] items
  pub stand : take (length (all_words items)) (drop 3 (words s)) ≡ all_words items
  pub begins : p ≡ 3 + length (all_words items)
  pub inside : p < end
  pub first : First (ItemBroken s end (earlier_then [] items) p) n

-- ---- rules 8 to 10, of a new item x that is handed to the writer after the items q
pub data NewBroken (kind : Kind) (card : ℕ) (q : List Item) (x : Item) : ℕ → Type 0 where
  -- "class not allowed here"
  out_of_place : place kind q (class_for x) ≡ false → NewBroken kind card q x 8
  -- "a value rule broken"
  wrong_value : value card q x ≡ false → NewBroken kind card q x 9
  -- "an order rule broken"
  out_of_order : order q x ≡ false → NewBroken kind card q x 10

-- and of one whose content is not there, as a text's without its bytes: it breaks a value rule wherever its class may stand
pub data EmptyBroken (kind : Kind) (q : List Item) (c : Class) : ℕ → Type 0 where
  empty_out_of_place : place kind q c ≡ false → EmptyBroken kind q c 8
  no_content : EmptyBroken kind q c 9

-- ---- the refusals
pub data Refused (s : List ℕ) : ℕ → ℕ → Type 0 where
  -- "A frame is tested 1 to 5 in order"; their place is 0
  of_head : (n : ℕ) → First (HeadBroken s) n → Refused s n 0
  -- "then item by item from the left", up to the last word
  of_item : (n p : ℕ) → ((m : ℕ) → HeadBroken s m → ⊥) → FirstFaulty s (last_of s) n p → Refused s n p
  -- "then 11", at "that of the last word": all items are faultless, and the last is a Channel or Time bin
  of_end : (xs : List Item) → ((m : ℕ) → HeadBroken s m → ⊥) → Sound (kind_in s) (card_in s) [] xs
      → drop 3 (front s) ≡ all_words xs → may_end (earlier_then [] xs) ≡ false → Refused s 11 (last_of s)

-- ---- its number, 1 to 11, and its place: "the word index of the item for 6 to 10, that of the last word for 11, .. else 0"
pub record Placed (s : List ℕ) (n p : ℕ) : Type 0 where
  pub least : 1 ≤ n
  pub most : n ≤ 11
  pub head : n ≤ 5 → p ≡ 0
  pub item : 6 ≤ n → n ≤ 10 → (3 ≤ p) × (p < length s / 2 - 1)
  pub last : n ≡ 11 → p ≡ length s / 2 - 1

-- ---- one answer: some bytes are read as the one legal frame that is written so and no refusal is due, or one refusal of 1 to 11 is due and they are
-- no legal frame's
pub data Answered (s : List ℕ) : Type 0 where
  reads : (f : Frame) → verdict s ≡ accepted f → Legal f → s ≡ encode f
      → ((g : Frame) → Legal g → s ≡ encode g → g ≡ f) → ((n p : ℕ) → Refused s n p → ⊥) → Answered s
  refuses : (n p : ℕ) → verdict s ≡ refused n p → 1 ≤ n → n ≤ 11
      → ((m r : ℕ) → Refused s m r → (m ≡ n) × (r ≡ p)) → ((f : Frame) → Legal f → s ≡ encode f → ⊥) → Answered s
