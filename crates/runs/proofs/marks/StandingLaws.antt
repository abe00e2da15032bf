-- The words of an item in the bytes of its frame.
-- Assumes nothing.
use Prim.Native.Nat.{ℕ, ◌+◌, ◌*◌, ◌<◌}
use mathlib.Core.Path.{◌≡◌, sym, ap, ap₂, ◌∙◌}
use mathlib.Core.List.{List, [], ◌∷◌, ◌++◌, append_assoc}
use native.Mathlib.Omega.{arith}
use lib.ListN.{length, get_or, get_or-append}
use lib.Seq.{get_or-append-add}
use Rattle.format.specs.Words.{words, word_at, long_at}
use Rattle.format.specs.Items.{Item, StartEvent, ContinueEvent, EndEvent, words_of}
use Rattle.format.specs.Frames.{Frame, all_words, frame_words, encode}
use Rattle.format.proofs.items.WordLaws.{words_bytes, word_at_lem}
use Rattle.format.proofs.questions.ItemQuestions.{all_words_lem}

regroup : (a b c d : List ℕ) → (a ++ (b ++ c)) ++ d ≡ a ++ (b ++ (c ++ d))
regroup a b c d = simp append_assoc

module _ (s : List ℕ) (f : Frame) (written : s ≡ encode f) where
  word_of : (i : ℕ) → word_at s i ≡ get_or (frame_words f) i 0
  unfolding encode
  word_of i = sym (word_at_lem s i) ∙ ap (λ (l : List ℕ). get_or (words l) i 0) written ∙ ap (λ (l : List ℕ). get_or l i 0) (words_bytes (frame_words f))

  -- behind the first three
  word_behind : (i : ℕ) → word_at s (3 + i) ≡ get_or (all_words f.items ++ (0x000F ∷ [])) i 0
  unfolding frame_words
  word_behind i = word_of (3 + i) ∙ get_or-append-add (_ ∷ _ ∷ _ ∷ []) (all_words f.items ++ (0x000F ∷ [])) i 0

  -- of an item behind those of ys
  item_word : (ys : List Item) (x : Item) (zs : List Item) → f.items ≡ ys ++ (x ∷ zs) → (j : ℕ) → j < length (words_of x)
      → word_at s (3 + length (all_words ys) + j) ≡ get_or (words_of x) j 0
  unfolding all_words
  item_word ys x zs e j h =
      let i : 3 + length (all_words ys) + j ≡ 3 + (length (all_words ys) + j) = omega arith in
      let a : all_words f.items ++ (0x000F ∷ []) ≡ all_words ys ++ (words_of x ++ (all_words zs ++ (0x000F ∷ []))) =
      ap (λ (l : List ℕ). l ++ (0x000F ∷ [])) (ap all_words e ∙ all_words_lem ys (x ∷ zs)) ∙ regroup (all_words ys) (words_of x) (all_words zs) (0x000F ∷ []) in
      ap (word_at s) i ∙ word_behind (length (all_words ys) + j) ∙ ap (λ (l : List ℕ). get_or l (length (all_words ys) + j) 0) a
      ∙ get_or-append-add (all_words ys) (words_of x ++ (all_words zs ++ (0x000F ∷ []))) j 0
      ∙ get_or-append (words_of x) (all_words zs ++ (0x000F ∷ [])) 0 j h

  -- an End event's size, and the number of a Start event
  pub end_size_lem : (ys zs : List Item) (z : ℕ) → f.items ≡ ys ++ (EndEvent z ∷ zs) → long_at s (3 + length (all_words ys) + 1) ≡ z
  unfolding words_of
  end_size_lem ys zs z e =
      let a = item_word ys (EndEvent z) zs e 1 (omega arith) in
      let b = item_word ys (EndEvent z) zs e 2 (omega arith) in
      let i : 3 + length (all_words ys) + 1 + 1 ≡ 3 + length (all_words ys) + 2 = omega arith in
      ap₂ (λ (m n : ℕ). m + 65536 * n) a (ap (word_at s) i ∙ b) ∙ omega arith

  pub start_number_lem : (ys zs : List Item) (t ts n : ℕ) → f.items ≡ ys ++ (StartEvent t ts n ∷ zs) → long_at s (3 + length (all_words ys) + 4) ≡ n
  unfolding words_of
  start_number_lem ys zs t ts n e =
      let a = item_word ys (StartEvent t ts n) zs e 4 (omega arith) in
      let b = item_word ys (StartEvent t ts n) zs e 5 (omega arith) in
      let i : 3 + length (all_words ys) + 4 + 1 ≡ 3 + length (all_words ys) + 5 = omega arith in
      ap₂ (λ (m n : ℕ). m + 65536 * n) a (ap (word_at s) i ∙ b) ∙ omega arith

  -- the first item's word and, where it is a Continue event, its number
  pub first_word : (x : Item) (zs : List Item) → f.items ≡ x ∷ zs → 0 < length (words_of x) → word_at s 3 ≡ get_or (words_of x) 0 0
  unfolding all_words
  first_word x zs e h = item_word [] x zs e 0 h

  pub continue_number : (zs : List Item) (n : ℕ) → f.items ≡ ContinueEvent n ∷ zs → long_at s 4 ≡ n
  unfolding all_words words_of
  continue_number zs n e =
      let a = item_word [] (ContinueEvent n) zs e 1 (omega arith) in
      let b = item_word [] (ContinueEvent n) zs e 2 (omega arith) in
      ap₂ (λ (m n : ℕ). m + 65536 * n) a b ∙ omega arith

  pub no_item_word : f.items ≡ [] → word_at s 3 ≡ 0x000F
  unfolding all_words
  no_item_word e = word_behind 0 ∙ ap (λ (l : List Item). get_or (all_words l ++ (0x000F ∷ [])) 0 0) e
