-- T33, T34. What the writer's calls leave: as found where refused, else runs of stores in the lent buffer, and every other byte as it was.
-- Assumes nothing.
use Prim.Native.Nat.{ℕ, ◌+◌, ◌*◌, ◌<◌, ◌≤◌}
use mathlib.Core.Path.{◌≡◌, refl, sym, ap, ap₂, ◌∙◌}
use mathlib.Core.List.{List, [], ◌∷◌, ◌++◌, append_assoc}
use mathlib.Core.Logic.{◌⊎◌, inl, inr}
use native.Mathlib.Omega.{arith}
use lib.ListN.{length, get_or, take, drop, take-append-drop}
use lib.Seq.{sets, length-sets, take_at, drop_at, drop-drop}
use Rattle.format.specs.Words.{bytes}
use Rattle.format.specs.Answers.{Outcome, accepted, refused, leaves}
use Rattle.format.specs.Items.{Item, words_of, Token, whole}
use Rattle.format.specs.Rules.{Kind}
use Rattle.format.specs.Frames.{start_word, all_words, frame_words, encode}
use Rattle.format.specs.Writing.{Partial, partial_words, begin_answer, begin_left, token_bytes, add_answer, add_left, close_answer, close_left}
use Rattle.format.specs.WriterCases.{Begun, framed}
use Rattle.format.proofs.items.WordLaws.{bytes_append, length_bytes}
use Rattle.format.proofs.items.StoringLaws.{sets_other, sets_front, sets_at, word_outside}
use Rattle.format.proofs.writer.PartialLaws.{begun_length}
use Rattle.format.proofs.writer.WriterLaws.{begin_accepted, add_accepted, close_accepted}

-- ---- T33: a refused call leaves the buffer as found

pub as_found : {A B : Type 0} (o : Outcome A) (found written : B) (k p : ℕ) → o ≡ refused k p → leaves o found written ≡ found
as_found o found written k p e = rw e

pub as_written : {A B : Type 0} (o : Outcome A) (found written : B) (a : A) → o ≡ accepted a → leaves o found written ≡ written
as_written o found written a e = rw e

-- what holds of the buffer as found and as written holds of what a call leaves
pub either_way : {A : Type 0} (P : List ℕ → Type 0) (o : Outcome A) {found written : List ℕ} → P found → P written → P (leaves o found written)
either_way P (accepted a) p q = q
either_way P (refused k r) p q = p

pub begin_found : (buf : List ℕ) (kind : Kind) (card sequence k p : ℕ) → begin_answer buf card sequence ≡ refused k p → begin_left buf kind card sequence ≡ buf
unfolding begin_left
begin_found buf kind card sequence k p e = as_found _ _ _ k p e

pub add_found : (buf : List ℕ) (n : ℕ) (t : Token) (k p : ℕ) → add_answer buf n t ≡ refused k p → add_left buf n t ≡ buf
unfolding add_left
add_found buf n t k p e = as_found _ _ _ k p e

pub close_found : (buf : List ℕ) (n k p : ℕ) → close_answer buf n ≡ refused k p → close_left buf n ≡ buf
unfolding close_left
close_found buf n k p e = as_found _ _ _ k p e

-- ---- the whole buffer after an accepted call

pub six : (kind : Kind) (card sequence : ℕ) → length (bytes (partial_words kind card sequence [])) ≡ 6
unfolding bytes partial_words all_words
six kind card sequence = refl

pub begin_left_lem : (buf : List ℕ) (kind : Kind) (card sequence m : ℕ) → begin_answer buf card sequence ≡ accepted m
    → begin_left buf kind card sequence ≡ bytes (partial_words kind card sequence []) ++ drop 6 buf
unfolding begin_left
begin_left_lem buf kind card sequence m e =
    let b = (begin_accepted buf card sequence m e).room in
    as_written _ _ _ m e ∙ sets_front (bytes (partial_words kind card sequence [])) buf 6 (six kind card sequence) (omega arith)

pub add_left_lem : (buf : List ℕ) (n : ℕ) (x : Item) (m : ℕ) → add_answer buf n (whole x) ≡ accepted m
    → add_left buf n (whole x) ≡ take n buf ++ (bytes (words_of x) ++ drop m buf)
unfolding add_left
add_left_lem buf n x m e =
    let a = add_accepted buf n (whole x) m e in
    let r = a.room in
    let k : a.item ≡ x = whole_is _ _ (sym a.token) in
    as_written _ _ _ m e ∙ sets_at (bytes (words_of x)) buf n m (a.reached ∙ ap (λ (y : Item). n + length (bytes (words_of y))) k) (omega arith)
  where
    whole_is : (x y : Item) → whole x ≡ whole y → x ≡ y
    whole_is x y e = cc

-- of close on a partial frame: the frame
frame_words_lem : (kind : Kind) (card sequence n : ℕ) (xs : List Item) → n ≡ 2 * (3 + length (all_words xs))
    → bytes (start_word kind card ∷ (n + 2) ∷ sequence ∷ all_words xs) ++ bytes (0x000F ∷ []) ≡ encode (record { kind = kind; card = card; sequence = sequence; items = xs })
unfolding encode frame_words
frame_words_lem kind card sequence n xs e =
    let k : n + 2 ≡ 2 * (4 + length (all_words xs)) = omega arith in
    sym (bytes_append (start_word kind card ∷ (n + 2) ∷ sequence ∷ all_words xs) (0x000F ∷ []))
    ∙ ap (λ (k : ℕ). bytes (start_word kind card ∷ k ∷ sequence ∷ (all_words xs ++ (0x000F ∷ [])))) k

-- the size word goes into the second word
size_in : (kind : Kind) (card sequence l : ℕ) (xs : List Item) (rest : List ℕ)
    → sets (bytes (partial_words kind card sequence xs) ++ rest) 2 (bytes (l ∷ [])) ≡ bytes (start_word kind card ∷ l ∷ sequence ∷ all_words xs) ++ rest
unfolding bytes partial_words
size_in kind card sequence l xs rest = refl

-- and the end word behind the words
end_in : (s rest : List ℕ) (n : ℕ) → length s ≡ n → n + 2 ≤ length (s ++ rest) → sets (s ++ rest) n (bytes (0x000F ∷ [])) ≡ (s ++ bytes (0x000F ∷ [])) ++ drop 2 rest
unfolding bytes
end_in s rest n e h =
    sets_at (0x0F ∷ 0 ∷ []) (s ++ rest) n (n + 2) refl h
    ∙ ap₂ (λ (t d : List ℕ). t ++ ((0x0F ∷ 0 ∷ []) ++ d)) (take_at s rest n e) (sym (drop-drop 2 n (s ++ rest)) ∙ ap (drop 2) (drop_at s rest n e))
    ∙ sym (append_assoc s (0x0F ∷ 0 ∷ []) (drop 2 rest))

pub close_left_lem : (buf : List ℕ) (n : ℕ) (f : Partial) (xs : List Item) (m : ℕ) → Begun buf n f xs → close_answer buf n ≡ accepted m
    → close_left buf n ≡ encode (framed f xs) ++ drop m buf
unfolding close_left
close_left_lem buf n f xs m b e =
    let c = close_accepted buf n m e in
    let r = c.room in
    let l = begun_length buf n f xs b in
    let rest = drop n buf in
    let s = bytes (start_word f.kind f.card ∷ (n + 2) ∷ f.sequence ∷ all_words xs) in
    let whole_buf : buf ≡ bytes (partial_words f.kind f.card f.sequence xs) ++ rest =
    sym (take-append-drop n buf) ∙ ap (λ (t : List ℕ). t ++ rest) b.written in
    let sized : sets buf 2 (bytes ((n + 2) ∷ [])) ≡ s ++ rest =
    ap (λ (l : List ℕ). sets l 2 (bytes ((n + 2) ∷ []))) whole_buf ∙ size_in f.kind f.card f.sequence (n + 2) xs rest in
    let k : length (s ++ rest) ≡ length buf = ap length (sym sized) ∙ length-sets buf 2 (bytes ((n + 2) ∷ [])) in
    as_written _ _ _ m e
    ∙ ap (λ (l : List ℕ). sets l n (bytes (0x000F ∷ []))) sized
    ∙ end_in s rest n (length_bytes (start_word f.kind f.card ∷ (n + 2) ∷ f.sequence ∷ all_words xs) ∙ omega arith) (omega arith)
    ∙ ap₂ ◌++◌ (frame_words_lem f.kind f.card f.sequence n xs l) (drop-drop 2 n buf ∙ ap (λ (k : ℕ). drop k buf) (sym c.reached))

-- ---- T34: begin writes bytes 0 to 5 only, add those of the item, close the size and end words

pub begin_bytes : (buf : List ℕ) (kind : Kind) (card sequence i : ℕ) → 6 ≤ i → get_or (begin_left buf kind card sequence) i 0 ≡ get_or buf i 0
unfolding begin_left
begin_bytes buf kind card sequence i h =
    let l = six kind card sequence in
    either_way (λ l. get_or l i 0 ≡ get_or buf i 0) (begin_answer buf card sequence) refl
    (sets_other (bytes (partial_words kind card sequence [])) buf 0 i (inr (omega arith)))

pub add_bytes : (buf : List ℕ) (n : ℕ) (t : Token) (m i : ℕ) → add_answer buf n t ≡ accepted m → (i < n) ⊎ (m ≤ i) → get_or (add_left buf n t) i 0 ≡ get_or buf i 0
unfolding add_left
add_bytes buf n t m i e h =
    let a = add_accepted buf n t m e in
    ap (λ (l : List ℕ). get_or l i 0) (as_written _ _ _ m e) ∙ sets_other (token_bytes t) buf n i (away (ap (λ (t : Token). length (token_bytes t)) a.token) a.reached h)
  where
    away : {l : ℕ} → length (token_bytes t) ≡ l → m ≡ n + l → (i < n) ⊎ (m ≤ i) → (i < n) ⊎ (n + length (token_bytes t) ≤ i)
    away p q (inl h) = inl h
    away p q (inr h) = inr (omega arith)

pub close_bytes : (buf : List ℕ) (n i : ℕ) → (i ≡ 2 → ⊥) → (i ≡ 3 → ⊥) → (i ≡ n → ⊥) → (i ≡ n + 1 → ⊥) → get_or (close_left buf n) i 0 ≡ get_or buf i 0
unfolding close_left
close_bytes buf n i a b c d =
    either_way (λ l. get_or l i 0 ≡ get_or buf i 0) (close_answer buf n) refl
    (word_outside (sets buf 2 (bytes ((n + 2) ∷ []))) 0x000F n i c d ∙ word_outside buf (n + 2) 2 i a b)

-- no call makes the buffer longer or shorter
pub begin_kept : (buf : List ℕ) (kind : Kind) (card sequence : ℕ) → length (begin_left buf kind card sequence) ≡ length buf
unfolding begin_left
begin_kept buf kind card sequence =
    either_way (λ l. length l ≡ length buf) (begin_answer buf card sequence) refl (length-sets buf 0 (bytes (partial_words kind card sequence [])))

pub add_kept : (buf : List ℕ) (n : ℕ) (t : Token) → length (add_left buf n t) ≡ length buf
unfolding add_left
add_kept buf n t = either_way (λ l. length l ≡ length buf) (add_answer buf n t) refl (length-sets buf n (token_bytes t))

pub close_kept : (buf : List ℕ) (n : ℕ) → length (close_left buf n) ≡ length buf
unfolding close_left
close_kept buf n =
    either_way (λ l. length l ≡ length buf) (close_answer buf n) refl
    (length-sets (sets buf 2 (bytes ((n + 2) ∷ []))) n (bytes (0x000F ∷ [])) ∙ length-sets buf 2 (bytes ((n + 2) ∷ [])))
