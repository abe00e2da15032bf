-- Partial frames, and the writer's calls as functions of the lent buffer and the arguments (document 01, "Reading and writing items").
-- Assumes nothing.
use Rattle.std.specs.Prelude.{ℕ, ◌+◌, ◌/◌, ◌%◌, ◌≡◌, List, [], ◌∷◌, Bool, ◌&&◌, length, take, drop, leb, eqb}
use Rattle.std.proofs.lemmas.List.Edits.{sets}
use Rattle.format.specs.Words.{pick, words, bytes, word_at}
use Rattle.format.specs.Answers.{Outcome, accepted, refused, and_then, leaves}
use Rattle.format.specs.Book.{text}
use Rattle.format.specs.Items.{ItemOf, Item, Channel, Histogram, HitCount, Sample, Bin, LastCell, TimeBin, Text, StartEvent, ContinueEvent, EndEvent, words_of, Token, whole, broken, flawed, tokens}
use Rattle.format.specs.Rules.{Kind, may_end, Checked, good, bad, check}
use Rattle.format.specs.Frames.{start_word, all_words, start_fits, kind_in, card_in, walk}

-- ---- partial frames: "size word 0, no end word, 6 to 8,190 bytes"

-- a partial frame's content; the items latest first
pub record Partial : Type 0 where
  pub kind : Kind
  pub card : ℕ
  pub sequence : ℕ
  pub earlier : List Item

-- what the items xs begin to be written as
unfoldable pub partial_words : Kind → ℕ → ℕ → List Item → List ℕ
partial_words kind card sequence xs = start_word kind card ∷ 0x0000 ∷ sequence ∷ all_words xs

-- rules 1 to 4 of the first n bytes of a buffer, "with this length (even, at most the buffer's) and size word and without rule 5"; or 0
unfoldable pub partial_fault : List ℕ → ℕ → ℕ
partial_fault buf n =
    pick (eqb (n % 2) 0 && leb 6 n && leb n 8190 && leb n (length buf))
    (pick (start_fits (word_at buf 0))
    (pick (eqb (word_at buf 1) 0)
    (pick (leb (word_at buf 2) 0x0100) 0 4)
    3)
    2)
    1

abbrev pub partial_body : List ℕ → ℕ → List Token
partial_body buf n = tokens 0 (drop 3 (words (take n buf)))

abbrev pub partial_of : List ℕ → List Item → Outcome Partial
partial_of buf p = accepted (record { kind = kind_in buf; card = card_in buf; sequence = word_at buf 2; earlier = p })

-- "7 here means words missing past the partial frame's end"
unfoldable pub partial_judged : List ℕ → ℕ → Outcome Partial
partial_judged buf n = and_then (walk (kind_in buf) (card_in buf) [] 3 (partial_body buf n)) (partial_of buf)

unfoldable pub partial_verdict : List ℕ → ℕ → Outcome Partial
partial_verdict buf n = pick (eqb (partial_fault buf n) 0) (partial_judged buf n) (refused (partial_fault buf n) 0)

-- ---- begin: "card over 31 by 9, sequence word by 4, a buffer under 8 bytes by 12, in that order"; it answers the length
unfoldable pub begin_answer : List ℕ → ℕ → ℕ → Outcome ℕ
begin_answer buf card sequence =
    pick (leb card 31) (pick (leb sequence 0x0100) (pick (leb 8 (length buf)) (accepted 6) (refused 12 0)) (refused 4 0)) (refused 9 0)

unfoldable pub begin_left : List ℕ → Kind → ℕ → ℕ → List ℕ
begin_left buf kind card sequence =
    leaves (begin_answer buf card sequence) buf (sets buf 0 (bytes (partial_words kind card sequence [])))

-- ---- add

-- an item as it is handed to the writer; a text's bytes are not there, so that it is one that breaks its rule
abbrev pub given : ItemOf ℕ → Token
given (Channel a b c) = whole (Channel a b c)
given (Histogram a b c) = whole (Histogram a b c)
given (HitCount a b c) = whole (HitCount a b c)
given (Sample v) = whole (Sample v)
given (Bin b n) = whole (Bin b n)
given (LastCell a b) = whole (LastCell a b)
given (TimeBin t) = whole (TimeBin t)
given (Text n) = broken text
given (StartEvent t ts n) = whole (StartEvent t ts n)
given (ContinueEvent n) = whole (ContinueEvent n)
given (EndEvent n) = whole (EndEvent n)

-- the bytes that a token is written as
abbrev pub token_bytes : Token → List ℕ
token_bytes (whole x) = bytes (words_of x)
token_bytes (broken c) = []
token_bytes (flawed n) = []

-- "given exactly when the frame with this item and an end word would pass the buffer or 8,192 bytes"
abbrev pub room_for : List ℕ → ℕ → Bool
room_for buf n = leb (n + 2) (length buf) && leb (n + 2) 8192

abbrev pub add_room : List ℕ → ℕ → Outcome ℕ
add_room buf n = pick (room_for buf n) (accepted n) (refused 12 0)

-- "Add then tests 8, 9, 10 for the new item and last 12"
abbrev pub add_checked : List ℕ → ℕ → Token → Checked (List Item) → Outcome ℕ
add_checked buf n t (good q) = add_room buf (n + length (token_bytes t))
add_checked buf n t (bad k) = refused k (n / 2)

unfoldable pub add_answer : List ℕ → ℕ → Token → Outcome ℕ
add_answer buf n t = and_then (partial_verdict buf n) (λ f. add_checked buf n t (check f.kind f.card f.earlier t))

unfoldable pub add_left : List ℕ → ℕ → Token → List ℕ
add_left buf n t = leaves (add_answer buf n t) buf (sets buf n (token_bytes t))

-- ---- close: "Close refuses 11, then 12 if the end word doesn't fit; it writes the size and end words"
unfoldable pub close_answer : List ℕ → ℕ → Outcome ℕ
close_answer buf n =
    and_then (partial_verdict buf n)
    (λ f. pick (may_end f.earlier) (pick (leb (n + 2) (length buf)) (accepted (n + 2)) (refused 12 0)) (refused 11 (n / 2)))

unfoldable pub close_left : List ℕ → ℕ → List ℕ
close_left buf n = leaves (close_answer buf n) buf (sets (sets buf 2 (bytes ((n + 2) ∷ []))) n (bytes (0x000F ∷ [])))

-- the promise of a call of the writer: its answer, and the whole buffer as it leaves it
pub record Wrote (answer : Outcome ℕ) (left : List ℕ) (answer' : Outcome ℕ) (left' : List ℕ) : Type 0 where
  pub answered : answer' ≡ answer
  pub written : left' ≡ left
