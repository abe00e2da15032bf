-- The walk over the items refuses exactly at the first faulty item, by its first broken rule, at its word: in a frame and in a partial frame.
-- Assumes nothing.
use Prim.Native.Nat.{ℕ, zero, suc, ◌+◌, ◌*◌, ◌<◌, ◌≤◌}
use mathlib.Core.Path.{◌≡◌, refl, sym, ap, ap₂, subst, ◌∙◌}
use mathlib.Core.List.{List, [], ◌∷◌, ◌++◌, append_assoc}
use native.Mathlib.Omega.{arith}
use lib.ListN.{length, get_or, take, drop, length-append, length-drop, take-append-drop}
use lib.Seq.{drop_at, drop-drop, take-append_seam}
use Rattle.format.specs.Words.{Bytes, words, word_at}
use Rattle.format.specs.Answers.{Outcome, accepted, refused}
use Rattle.format.specs.Book.{class_of, after}
use Rattle.format.specs.Items.{Item, words_of, Token, whole, token_of, tokens}
use Rattle.format.specs.Rules.{Kind, Checked, good, bad, check}
use Rattle.format.specs.Frames.{earlier_then, Sound, all_words, kind_in, card_in, walk}
use Rattle.format.specs.Faults.{First, ItemBroken, FirstFaulty}
use Rattle.format.proofs.items.WordLaws.{below_drop}
use Rattle.format.proofs.items.PartLaws.{part_take}
use Rattle.format.proofs.items.ItemLaws.{tokens_skip, read_written, written_read}
use Rattle.format.proofs.verdict.WalkLaws.{allowed_fits, passed, passes, walk_good, walk_bad, not_whole}
use Rattle.format.proofs.verdict.FaultLaws.{one_first, up_to, left, up_to_length, up_to_below, from_word, ItemJudged, fine, faulty, item_judged}

-- ---- what a refused answer says

pub refused_is : {A : Type 0} (k n p q : ℕ) → ◌≡◌ {A = Outcome A} (refused k p) (refused n q) → (k ≡ n) × (p ≡ q)
refused_is k n p q e = (cc, cc)

pub not_refused : {A B : Type 0} (a : A) (n p : ℕ) → ◌≡◌ {A = Outcome A} (accepted a) (refused n p) → B
not_refused a n p e = let z : ◌≡◌ {A = ℕ} 0 1 = cc in absurd (omega arith)

no_check : {A : Type 0} (q : List Item) (n : ℕ) → good q ≡ bad n → A
no_check q n e = let z : ◌≡◌ {A = ℕ} 0 1 = cc in absurd (omega arith)

one_bad : (m n : ℕ) → ◌≡◌ {A = Checked (List Item)} (bad m) (bad n) → m ≡ n
one_bad m n e = cc

-- ---- where the walk stops

module _ (kind : Kind) (card : ℕ) where
  -- over the words of a sound list it goes on with what comes after them
  pub walk_over : (xs : List Item) (q : List Item) (at : ℕ) (rest : List ℕ) → Sound kind card q xs
      → walk kind card q at (tokens 0 (all_words xs ++ rest)) ≡ walk kind card (earlier_then q xs) (at + length (all_words xs)) (tokens 0 rest)
  unfolding Sound all_words earlier_then
  walk_over [] q at rest s = ap (λ (n : ℕ). walk kind card q n (tokens 0 rest)) (omega arith)
  walk_over (x ∷ xs) q at rest s =
      ap (λ (l : List ℕ). walk kind card q at (tokens 0 l)) (append_assoc (words_of x) (all_words xs) rest)
      ∙ ap (walk kind card q at) (read_written x (all_words xs ++ rest) (allowed_fits kind card q x s.0))
      ∙ walk_good kind card q (x ∷ q) at (whole x) (tokens 0 (all_words xs ++ rest)) (passes kind card q x s.0)
      ∙ walk_over xs (x ∷ q) (at + length (words_of x)) rest s.1
      ∙ ap (λ (n : ℕ). walk kind card (earlier_then (x ∷ q) xs) n (tokens 0 rest)) (omega (arith, length-append (words_of x) (all_words xs)))

  -- and it stops at the first item that does not pass
  pub record Stopped (q : List Item) (at : ℕ) (ws : List ℕ) (n p : ℕ) : Type 0 where
    pub items : List Item
    pub sound : Sound kind card q items
    pub word : ℕ
    pub rest : List ℕ
    pub written : ws ≡ all_words items ++ (word ∷ rest)
    pub reach : p ≡ at + length (all_words items)
    pub checked : check kind card (earlier_then q items) (token_of word rest) ≡ bad n

  pub walk_stops : (k : ℕ) (q : List Item) (at : ℕ) (ws : List ℕ) (n p : ℕ) → length ws ≤ k → ((i : ℕ) → get_or ws i 0 < 65536)
      → walk kind card q at (tokens 0 ws) ≡ refused n p → Stopped q at ws n p
  unfolding tokens Sound all_words earlier_then walk
  walk_stops zero q at [] n p l b e = let z : ◌≡◌ {A = ℕ} 0 1 = cc in absurd (omega arith)
  walk_stops zero q at (w ∷ ws) n p l b e = absurd (omega arith)
  walk_stops (suc k) q at [] n p l b e = let z : ◌≡◌ {A = ℕ} 0 1 = cc in absurd (omega arith)
  walk_stops (suc k) q at (w ∷ ws) n p l b e =
      go (check kind card q (token_of w ws)) refl
      (λ x r. walk_stops k (x ∷ q) (at + length (words_of x)) (drop (after (class_of w) w) ws) n p (omega (arith, shorter (after (class_of w) w) ws))
      (below_drop (after (class_of w) w) ws 65536 (λ i. b (suc i))) r)
    where
      shorter : (k : ℕ) (l : List ℕ) → length (drop k l) ≤ length l
      shorter zero l = omega arith
      shorter (suc k) [] = omega arith
      shorter (suc k) (x ∷ l) = omega (arith, shorter k l)

      go : (c : Checked (List Item)) → check kind card q (token_of w ws) ≡ c
          → ((x : Item) → walk kind card (x ∷ q) (at + length (words_of x)) (tokens 0 (drop (after (class_of w) w) ws)) ≡ refused n p
          → Stopped (x ∷ q) (at + length (words_of x)) (drop (after (class_of w) w) ws) n p)
          → Stopped q at (w ∷ ws) n p
      go (bad m) f h =
          let (i, j) = refused_is m n at p (sym (walk_bad kind card q m at (token_of w ws) (tokens (after (class_of w) w) ws) f) ∙ e) in
          record { items = []; sound = tt; word = w; rest = ws; written = refl; reach = omega arith; checked = f ∙ ap bad i }
      go (good r) f h =
          let (x, t) = not_whole kind card q (token_of w ws) r f in
          let (a, g) = passed kind card q x r (ap (check kind card q) (sym t) ∙ f) in
          let d = written_read w ws x (λ i. b (suc i)) t in
          let s = h x (sym (walk_good kind card q (x ∷ q) at (whole x) (tokens 0 (drop (after (class_of w) w) ws)) (passes kind card q x a))
          ∙ ap₂ (λ (t : Token) (ts : List Token). walk kind card q at (t ∷ ts)) (sym t) (sym (tokens_skip (after (class_of w) w) ws)) ∙ e) in
          record {
            items = x ∷ s.items;
            sound = (a, s.sound);
            word = s.word;
            rest = s.rest;
            written =
                ap (λ (l : List ℕ). w ∷ l) (sym (take-append-drop (after (class_of w) w) ws))
                ∙ ap₂ ◌++◌ d.words s.written
                ∙ sym (append_assoc (words_of x) (all_words s.items) (s.word ∷ s.rest));
            reach = s.reach ∙ omega (arith, length-append (words_of x) (all_words s.items));
            checked = s.checked;
          }

-- ---- of the words before word `end`

-- a word with the words after it, found by either way
same_word : (w v : ℕ) (ws vs : List ℕ) → w ∷ ws ≡ v ∷ vs → (w ≡ v) × (ws ≡ vs)
same_word w v ws vs e = (cc, cc)

tokens_at : (w : ℕ) (ws : List ℕ) → tokens 0 (w ∷ ws) ≡ token_of w ws ∷ tokens (after (class_of w) w) ws
unfolding tokens
tokens_at w ws = refl

module _ (s : List ℕ) (bs : Bytes s) (end : ℕ) (enough : 2 * end ≤ length s) where
  abbrev checked : List Item → ℕ → Checked (List Item)
  checked q p = check (kind_in s) (card_in s) q (token_of (word_at s p) (left s end p))

  -- at one item: the number that the checks give is that of the first broken rule
  check_first : (q : List Item) (p n : ℕ) → p < end → checked q p ≡ bad n → First (ItemBroken s end q p) n
  check_first q p n l e = go (item_judged s bs end enough q p l)
    where
      go : ItemJudged s end q p → First (ItemBroken s end q p) n
      go (fine x t a none) = no_check _ n (sym (passes (kind_in s) (card_in s) q x a) ∙ ap (check (kind_in s) (card_in s) q) (sym t) ∙ e)
      go (faulty m c f) = subst (First (ItemBroken s end q p)) (one_bad m n (sym c ∙ e)) f

  first_check : (q : List Item) (p n : ℕ) → p < end → First (ItemBroken s end q p) n → checked q p ≡ bad n
  first_check q p n l f = go (item_judged s bs end enough q p l)
    where
      go : ItemJudged s end q p → checked q p ≡ bad n
      go (fine x t a none) = absurd (none n f.broken)
      go (faulty m c g) = c ∙ ap bad (one_first (ItemBroken s end q p) m n g f)

  -- the words from word 3 on: those of the items that stand there, and those from word p on, where they end
  module _ (xs : List Item) (p : ℕ) (e : p ≡ 3 + length (all_words xs)) (l : p < end) where
    parted : take (length (all_words xs)) (drop 3 (words s)) ≡ all_words xs → drop 3 (up_to s end) ≡ all_words xs ++ (word_at s p ∷ left s end p)
    parted h =
        let n : ℕ = length (all_words xs) in
        sym (take-append-drop n (drop 3 (up_to s end)))
        ∙ ap₂ ◌++◌ (part_take n 3 end (words s) (omega arith) ∙ h)
        (drop-drop n 3 (up_to s end) ∙ ap (λ (m : ℕ). drop m (up_to s end)) (sym e) ∙ from_word s end p enough l)

    standing : (w : ℕ) (ws : List ℕ) → drop 3 (up_to s end) ≡ all_words xs ++ (w ∷ ws) → take (length (all_words xs)) (drop 3 (words s)) ≡ all_words xs
    standing w ws h =
        let n : ℕ = length (all_words xs) in
        sym (part_take n 3 end (words s) (omega arith)) ∙ ap (take n) h ∙ take-append_seam (all_words xs) (w ∷ ws)

    next_word : (w : ℕ) (ws : List ℕ) → drop 3 (up_to s end) ≡ all_words xs ++ (w ∷ ws) → (word_at s p ≡ w) × (left s end p ≡ ws)
    next_word w ws h =
        same_word _ _ _ _
        (sym (from_word s end p enough l)
        ∙ ap (λ (m : ℕ). drop m (up_to s end)) e
        ∙ sym (drop-drop (length (all_words xs)) 3 (up_to s end))
        ∙ ap (drop (length (all_words xs))) h
        ∙ drop_at (all_words xs) (w ∷ ws) (length (all_words xs)) refl)

  pub walk_refused : (n p : ℕ) → walk (kind_in s) (card_in s) [] 3 (tokens 0 (drop 3 (up_to s end))) ≡ refused n p → FirstFaulty s end n p
  walk_refused n p e =
      let ws : List ℕ = drop 3 (up_to s end) in
      let h = walk_stops (kind_in s) (card_in s) (length ws) [] 3 ws n p (omega arith) (below_drop 3 (up_to s end) 65536 (up_to_below s end bs)) e in
      let k : length ws ≡ length (all_words h.items) + suc (length h.rest) = ap length h.written ∙ length-append (all_words h.items) (h.word ∷ h.rest) in
      let l : p < end = omega (arith, h.reach, length-drop 3 (up_to s end), up_to_length s end enough) in
      let (i, j) = next_word h.items p h.reach l h.word h.rest h.written in
      record {
        items = h.items;
        sound = h.sound;
        stand = standing h.items p h.reach l h.word h.rest h.written;
        begins = h.reach;
        inside = l;
        first = check_first (earlier_then [] h.items) p n l (ap₂ (λ (w : ℕ) (ws : List ℕ). check (kind_in s) (card_in s) (earlier_then [] h.items) (token_of w ws)) i j ∙ h.checked);
      }

  pub walk_refuses : (n p : ℕ) → FirstFaulty s end n p → walk (kind_in s) (card_in s) [] 3 (tokens 0 (drop 3 (up_to s end))) ≡ refused n p
  walk_refuses n p f =
      let xs = f.items in
      ap (λ (l : List ℕ). walk (kind_in s) (card_in s) [] 3 (tokens 0 l)) (parted xs p f.begins f.inside f.stand)
      ∙ walk_over (kind_in s) (card_in s) xs [] 3 (word_at s p ∷ left s end p) f.sound
      ∙ ap (walk (kind_in s) (card_in s) (earlier_then [] xs) (3 + length (all_words xs))) (tokens_at (word_at s p) (left s end p))
      ∙ walk_bad (kind_in s) (card_in s) (earlier_then [] xs) n (3 + length (all_words xs)) (token_of (word_at s p) (left s end p)) _ (first_check (earlier_then [] xs) p n f.inside f.first)
      ∙ ap (refused n) (sym f.begins)
