-- T10 and T11. The item at an ordinal, the index of the next one, and a text's bytes, of an accepted frame.
-- Assumes nothing.
use Prim.Native.Nat.{ℕ, zero, suc, ◌+◌, ◌*◌, ◌/◌, ◌<◌, ◌≤◌}
use mathlib.Core.Path.{◌≡◌, refl, sym, ap, subst, ◌∙◌}
use mathlib.Core.List.{List, [], ◌∷◌, ◌++◌, append-nil, append_assoc}
use mathlib.Core.Bool.{Bool, true, false, ◌&&◌, true≢false}
use mathlib.Core.Option.{Option, none, some}
use native.Mathlib.Omega.{arith}
use lib.Dec.{leb}
use lib.Pow.{are_bytes}
use lib.ListN.{length, take, drop, length-append}
use lib.Seq.{length-take-le, take-append-le, drop-append-add, take_all}
use borrow.Author.Tests.{leb-true, leb-false}
use Rattle.format.specs.Words.{Bytes, words, bytes, non_zero}
use Rattle.format.specs.Answers.{Outcome, accepted, refused}
use Rattle.format.specs.Book.{text}
use Rattle.format.specs.Items.{Item, Channel, Histogram, HitCount, Sample, Bin, LastCell, TimeBin, Text, StartEvent, ContinueEvent, EndEvent, class_for, words_of, fits}
use Rattle.format.specs.Rules.{Kind, same}
use Rattle.format.specs.Frames.{Frame, Sound, all_words, frame_words, encode, last_of, verdict}
use Rattle.format.specs.Questions.{IndexedItem, nth, item_at, text_in, text_found, text_at, pick_nth}
use Rattle.format.specs.Stands.{ItemIs, index_of}
use Rattle.format.proofs.book.PrefixLaws.{and_left, and_right}
use Rattle.format.proofs.items.WordLaws.{bytes_append, length_bytes, length_words}
use Rattle.format.proofs.items.TextLaws.{are_bytes_lem, text_there}
use Rattle.format.proofs.verdict.WalkLaws.{allowed_fits}
use Rattle.format.proofs.verdict.Acceptance.{exactly, length_s}

pub no_some : {A B : Type 0} (a : A) → ◌≡◌ {A = Option A} none (some a) → B
no_some a e = let z : ◌≡◌ {A = ℕ} 0 1 = cc in absurd (omega arith)

no_byte : {B : Type 0} (b : ℕ) (t : List ℕ) → ◌≡◌ {A = List ℕ} [] (b ∷ t) → B
no_byte b t e = let z : ◌≡◌ {A = ℕ} 0 1 = cc in absurd (omega arith)

pub some_is : {A : Type 0} (a b : A) → some a ≡ some b → a ≡ b
some_is a b e = cc

-- ---- what an ordinal picks

module _ {A : Type 0} where
  pub picked : (n : ℕ) (xs : List A) → n < length xs → (x : A) × (pick_nth n xs ≡ some x)
  unfolding pick_nth
  picked n [] h = absurd (omega arith)
  picked zero (x ∷ xs) h = (x, refl)
  picked (suc n) (x ∷ xs) h = picked n xs (omega arith)

  pub unpicked : (n : ℕ) (xs : List A) → length xs ≤ n → pick_nth n xs ≡ none
  unfolding pick_nth
  unpicked n [] h = refl
  unpicked zero (x ∷ xs) h = absurd (omega arith)
  unpicked (suc n) (x ∷ xs) h = unpicked n xs (omega arith)

  pub picked_below : (n : ℕ) (xs : List A) (x : A) → pick_nth n xs ≡ some x → n < length xs
  unfolding pick_nth
  picked_below n [] x e = no_some x e
  picked_below zero (y ∷ xs) x e = omega arith
  picked_below (suc n) (y ∷ xs) x e = omega (arith, picked_below n xs x e)

  -- the list is what stands before the element, the element, and what stands behind it
  pub picked_split : (n : ℕ) (xs : List A) (x : A) → pick_nth n xs ≡ some x → xs ≡ take n xs ++ (x ∷ drop (suc n) xs)
  unfolding pick_nth
  picked_split n [] x e = no_some x e
  picked_split zero (y ∷ xs) x e = ap (λ (z : A). z ∷ xs) (some_is y x e)
  picked_split (suc n) (y ∷ xs) x e = ap (λ (l : List A). y ∷ l) (picked_split n xs x e)

-- item n, as the questions look it up
abbrev Picks : List Item → ℕ → Item → Type 0
Picks xs n x = pick_nth n xs ≡ some x

-- is the item with n before it
to_pick : (n : ℕ) (before after : List Item) (x : Item) → length before ≡ n → Picks (before ++ (x ∷ after)) n x
unfolding pick_nth
to_pick zero [] after x e = refl
to_pick zero (y ∷ before) after x e = absurd (omega arith)
to_pick (suc n) [] after x e = absurd (omega arith)
to_pick (suc n) (y ∷ before) after x e = to_pick n before after x (omega arith)

picks : (xs : List Item) (n : ℕ) (x : Item) → ItemIs xs n x → Picks xs n x
picks xs n x h = ap (pick_nth n) h.items ∙ to_pick n h.before h.after x h.ordinal

stands : (xs : List Item) (n : ℕ) (x : Item) → Picks xs n x → ItemIs xs n x
stands xs n x e =
    let b = picked_below n xs x e in
    record { before = take n xs; after = drop (suc n) xs; items = picked_split n xs x e; ordinal = length-take-le n xs (omega arith) }

pub item_stands : (n : ℕ) (xs : List Item) → n < length xs → (x : Item) × ItemIs xs n x
item_stands n xs h =
    let (x, e) = picked n xs h in
    (x, stands xs n x e)

-- ---- the words of items

pub all_words_lem : (xs ys : List Item) → all_words (xs ++ ys) ≡ all_words xs ++ all_words ys
unfolding all_words
all_words_lem [] ys = refl
all_words_lem (x ∷ xs) ys = ap (λ (l : List ℕ). words_of x ++ l) (all_words_lem xs ys) ∙ sym (append_assoc (words_of x) (all_words xs) (all_words ys))

-- an item has a word
pub some_word : (x : Item) → 1 ≤ length (words_of x)
unfolding words_of
some_word (Channel a b c) = omega arith
some_word (Histogram a b c) = omega arith
some_word (HitCount a b c) = omega arith
some_word (Sample v) = omega arith
some_word (Bin b n) = omega arith
some_word (LastCell a b) = omega arith
some_word (TimeBin t) = omega arith
some_word (Text s) = omega arith
some_word (StartEvent t ts n) = omega arith
some_word (ContinueEvent n) = omega arith
some_word (EndEvent n) = omega arith

-- one item further, one item's words further
pub index_next : (n : ℕ) (xs : List Item) (x : Item) → Picks xs n x → index_of xs (suc n) ≡ index_of xs n + length (words_of x)
unfolding all_words pick_nth
index_next n [] x e = no_some x e
index_next zero (y ∷ xs) x e =
    let w : words_of y ≡ words_of x = ap words_of (some_is y x e) in
    ap (λ (l : List ℕ). 3 + length l) (append-nil (words_of y) ∙ w)
index_next (suc n) (y ∷ xs) x e =
    omega (arith, index_next n xs x e, length-append (words_of y) (all_words (take (suc n) xs)), length-append (words_of y) (all_words (take n xs)))

pub index_first : (xs : List Item) → index_of xs 0 ≡ 3
unfolding all_words
index_first xs = refl

pub index_rises : (n : ℕ) (xs : List Item) → n < length xs → index_of xs n < index_of xs (suc n)
index_rises n xs h =
    let (x, e) = picked n xs h in
    omega (arith, index_next n xs x e, some_word x)

found_alike : (i j : ℕ) (x y : Item) (k l : ℕ) → i ≡ j → x ≡ y → k ≡ l
    → ◌≡◌ {A = Outcome IndexedItem} (accepted (record { index = i; item = x; next = k })) (accepted (record { index = j; item = y; next = l }))
found_alike i j x y k l e f g = λ p. accepted (record { index = e p; item = f p; next = g p })

-- the item walked to, from word `at` on
nth_there : (n at : ℕ) (xs : List Item) (x : Item) → Picks xs n x
    → nth n at xs ≡ accepted (record { index = at + length (all_words (take n xs)); item = x; next = at + length (all_words (take (suc n) xs)) })
unfolding nth pick_nth all_words
nth_there n at [] x e = no_some x e
nth_there zero at (y ∷ xs) x e =
    found_alike _ _ _ _ _ _ (omega arith) (some_is y x e) (ap (λ (l : List ℕ). at + length l) (sym (append-nil (words_of y))))
nth_there (suc n) at (y ∷ xs) x e =
    nth_there n (at + length (words_of y)) xs x e
    ∙ found_alike _ _ _ _ _ _ (omega (arith, length-append (words_of y) (all_words (take n xs)))) refl
    (omega (arith, length-append (words_of y) (all_words (take (suc n) xs))))

nth_past : (n at : ℕ) (xs : List Item) → length xs ≤ n → nth n at xs ≡ refused 13 0
unfolding nth
nth_past n at [] h = refl
nth_past zero at (y ∷ xs) h = absurd (omega arith)
nth_past (suc n) at (y ∷ xs) h = nth_past n (at + length (words_of y)) xs (omega arith)

-- ---- T10

module _ (s : List ℕ) (f : Frame) (v : verdict s ≡ accepted f) where
  pub item_there : (n : ℕ) (x : Item) → ItemIs f.items n x → item_at s n ≡ accepted (record { index = index_of f.items n; item = x; next = index_of f.items (suc n) })
  unfolding item_at
  item_there n x h = rw v (nth_there n 3 f.items x (picks f.items n x h))

  pub item_past : (n : ℕ) → length f.items ≤ n → item_at s n ≡ refused 13 0
  unfolding item_at
  item_past n h = rw v (nth_past n 3 f.items h)

-- the frame's own refusal
pub item_refused : (s : List ℕ) (k p : ℕ) → verdict s ≡ refused k p → (n : ℕ) → item_at s n ≡ refused k p
unfolding item_at
item_refused s k p v n = rw v

-- behind the last item stands the end word
pub index_last : (s : List ℕ) → Bytes s → (f : Frame) → verdict s ≡ accepted f → index_of f.items (length f.items) ≡ last_of s
index_last s bs f v =
    let (l, e) = (exactly s bs f).0 v in
    let n = length_s f l in
    let m : length s ≡ length (encode f) = ap length e in
    let k : length (all_words (take (length f.items) f.items)) ≡ length (all_words f.items) =
    ap (λ (xs : List Item). length (all_words xs)) (take_all (length f.items) f.items (omega arith)) in
    omega arith

-- ---- T11

drop_bytes : (k : ℕ) (ws : List ℕ) → drop (2 * k) (bytes ws) ≡ bytes (drop k ws)
unfolding bytes
drop_bytes zero ws = refl
drop_bytes (suc k) [] = let e : 2 * suc k ≡ suc (suc (2 * k)) = omega arith in rw e
drop_bytes (suc k) (w ∷ ws) = let e : 2 * suc k ≡ suc (suc (2 * k)) = omega arith in rw e (drop_bytes k ws)

-- each item of a sound list fits its fields
pub sound_fits : (kind : Kind) (card n : ℕ) (p xs : List Item) (x : Item) → Sound kind card p xs → Picks xs n x → fits x ≡ true
unfolding Sound pick_nth
sound_fits kind card n p [] x h e = no_some x e
sound_fits kind card zero p (y ∷ xs) x h e = ap fits (sym (some_is y x e)) ∙ allowed_fits kind card p y h.0
sound_fits kind card (suc n) p (y ∷ xs) x h e = sound_fits kind card n (y ∷ p) xs x h.1 e

-- the bytes of a text's words begin with the text
text_first : (t : List ℕ) (r : List ℕ) → fits (Text t) ≡ true → take (length t) (bytes (words (t ++ (0 ∷ [])) ++ r)) ≡ t
text_first t r e =
    let g = and_left (leb (length t) 254 && non_zero t) (are_bytes t) e in
    let there = text_there t (and_right (leb (length t) 254) (non_zero t) g) (are_bytes_lem t (and_right (leb (length t) 254 && non_zero t) (are_bytes t) e)) in
    let b : length (bytes (words (t ++ (0 ∷ [])))) ≡ 2 * length (words (t ++ (0 ∷ []))) = length_bytes (words (t ++ (0 ∷ []))) in
    let n : length (words (t ++ (0 ∷ []))) ≡ (length (t ++ (0 ∷ [])) + 1) / 2 = length_words (t ++ (0 ∷ [])) in
    let m : length (t ++ (0 ∷ [])) ≡ length t + 1 = length-append t (0 ∷ []) in
    ap (take (length t)) (bytes_append (words (t ++ (0 ∷ []))) r)
    ∙ take-append-le (length t) (bytes (words (t ++ (0 ∷ [])))) (bytes r) (omega arith)
    ∙ there.1

-- the frame's words behind the first word of its item n
words_behind : (f : Frame) (n : ℕ) (t : List ℕ) → Picks f.items n (Text t)
    → drop (index_of f.items n + 1) (frame_words f) ≡ words (t ++ (0 ∷ [])) ++ (all_words (drop (suc n) f.items) ++ (0x000F ∷ []))
unfolding frame_words all_words words_of
words_behind f n t e =
    let xs : List Item = f.items in
    let a : List ℕ = all_words (take n xs) in
    let b : List ℕ = words (t ++ (0 ∷ [])) in
    let r : List ℕ = all_words (drop (suc n) xs) in
    let w : all_words xs ≡ a ++ (words_of (Text t) ++ r) = ap all_words (picked_split n xs (Text t) e) ∙ all_words_lem (take n xs) (Text t ∷ drop (suc n) xs) in
    let i : 3 + length a + 1 ≡ suc (suc (suc (length a + 1))) = omega arith in
    rw i
    (ap (λ (l : List ℕ). drop (length a + 1) (l ++ (0x000F ∷ []))) w
    ∙ ap (drop (length a + 1)) (append_assoc a (words_of (Text t) ++ r) (0x000F ∷ []))
    ∙ drop-append-add a ((words_of (Text t) ++ r) ++ (0x000F ∷ [])) 1
    ∙ append_assoc b r (0x000F ∷ []))

module _ (s : List ℕ) (bs : Bytes s) (f : Frame) (v : verdict s ≡ accepted f) where
  -- a text's bytes, in the frame's own
  text_part : (n : ℕ) (t : List ℕ) → Picks f.items n (Text t) → take (length t) (drop (2 * index_of f.items n + 2) s) ≡ t
  unfolding encode
  text_part n t e =
      let (l, q) = (exactly s bs f).0 v in
      let i : 2 * index_of f.items n + 2 ≡ 2 * (index_of f.items n + 1) = omega arith in
      rw i
      (ap (λ (u : List ℕ). take (length t) (drop (2 * (index_of f.items n + 1)) u)) q
      ∙ ap (take (length t)) (drop_bytes (index_of f.items n + 1) (frame_words f))
      ∙ ap (λ (u : List ℕ). take (length t) (bytes u)) (words_behind f n t e)
      ∙ text_first t (all_words (drop (suc n) f.items) ++ (0x000F ∷ [])) (sound_fits f.kind f.card n [] f.items (Text t) l.sound e))

module _ (s : List ℕ) (f : Frame) (v : verdict s ≡ accepted f) where
  -- what the text question gives of item n
  pub text_of : (n : ℕ) (x : Item) → ItemIs f.items n x → text_at s n ≡ text_in x
  unfolding text_at
  text_of n x e = ap text_found (item_there s f v n x e)

  pub text_past : (n : ℕ) → length f.items ≤ n → text_at s n ≡ []
  unfolding text_at
  text_past n h = ap text_found (item_past s f v n h)

pub text_refused : (s : List ℕ) (k p : ℕ) → verdict s ≡ refused k p → (n : ℕ) → text_at s n ≡ []
unfolding text_at
text_refused s k p v n = ap text_found (item_refused s k p v n)

-- another class has no text
no_text : (x : Item) → same text (class_for x) ≡ false → text_in x ≡ []
no_text (Channel a b c) e = refl
no_text (Histogram a b c) e = refl
no_text (HitCount a b c) e = refl
no_text (Sample v) e = refl
no_text (Bin b n) e = refl
no_text (LastCell a b) e = refl
no_text (TimeBin t) e = refl
no_text (Text s) e = absurd (true≢false e)
no_text (StartEvent t ts n) e = refl
no_text (ContinueEvent n) e = refl
no_text (EndEvent n) e = refl

-- what is not empty is a Text's
some_text : (x : Item) (b : ℕ) (t : List ℕ) → text_in x ≡ b ∷ t → x ≡ Text (b ∷ t)
some_text (Channel x y z) b t e = no_byte b t e
some_text (Histogram x y z) b t e = no_byte b t e
some_text (HitCount x y z) b t e = no_byte b t e
some_text (Sample v) b t e = no_byte b t e
some_text (Bin x n) b t e = no_byte b t e
some_text (LastCell x y) b t e = no_byte b t e
some_text (TimeBin u) b t e = no_byte b t e
some_text (Text s) b t e = ap Text e
some_text (StartEvent u ts n) b t e = no_byte b t e
some_text (ContinueEvent n) b t e = no_byte b t e
some_text (EndEvent n) b t e = no_byte b t e

pub other_text : (s : List ℕ) (f : Frame) → verdict s ≡ accepted f → (n : ℕ) (x : Item) → ItemIs f.items n x → same text (class_for x) ≡ false → text_at s n ≡ []
other_text s f v n x h d = text_of s f v n x h ∙ no_text x d

pub text_bytes : (s : List ℕ) → Bytes s → (f : Frame) → verdict s ≡ accepted f → (n : ℕ) (t : List ℕ) → ItemIs f.items n (Text t)
    → text_at s n ≡ take (length t) (drop (2 * index_of f.items n + 2) s)
text_bytes s bs f v n t h = text_of s f v n (Text t) h ∙ sym (text_part s bs f v n t (picks f.items n (Text t) h))

pub only_text : (s : List ℕ) (f : Frame) → verdict s ≡ accepted f → (n b : ℕ) (t : List ℕ) → text_at s n ≡ b ∷ t → ItemIs f.items n (Text (b ∷ t))
only_text s f v n b t e = go (leb (length f.items) n) refl
  where
    go : (q : Bool) → leb (length f.items) n ≡ q → ItemIs f.items n (Text (b ∷ t))
    go true h = no_byte b t (sym (text_past s f v n (leb-true _ _ h)) ∙ e)
    go false h =
        let (x, i) = item_stands n f.items (leb-false _ _ h) in
        subst (ItemIs f.items n) (some_text x b t (sym (text_of s f v n x i) ∙ e)) i
