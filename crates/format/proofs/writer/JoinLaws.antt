-- Sound lists made longer: one list after another, and one item more, with the bytes of the partial frame.
-- Assumes nothing.
use Prim.Native.Nat.{ℕ}
use mathlib.Core.Path.{◌≡◌, ap, ◌∙◌}
use mathlib.Core.List.{List, [], ◌∷◌, ◌++◌, append-nil}
use Rattle.format.specs.Words.{bytes}
use Rattle.format.specs.Items.{Item, words_of}
use Rattle.format.specs.Rules.{Kind}
use Rattle.format.specs.Frames.{earlier_then, Allowed, Sound, all_words}
use Rattle.format.specs.Writing.{partial_words}
use Rattle.format.proofs.items.WordLaws.{bytes_append}
use Rattle.format.proofs.rules.SoundLaws.{behind_append}
use Rattle.format.proofs.questions.ItemQuestions.{all_words_lem}

module _ (kind : Kind) (card : ℕ) where
  pub sound_join : (p xs ys : List Item) → Sound kind card p xs → Sound kind card (earlier_then p xs) ys → Sound kind card p (xs ++ ys)
  unfolding Sound earlier_then
  sound_join p [] ys s t = t
  sound_join p (x ∷ xs) ys s t = (s.0, sound_join (x ∷ p) xs ys s.1 t)

  pub sound_one : (p : List Item) (x : Item) → Allowed kind card p x → Sound kind card p (x ∷ [])
  unfolding Sound
  sound_one p x a = (a, tt)

  pub sound_none : (p : List Item) → Sound kind card p []
  unfolding Sound
  sound_none p = tt

  pub sound_more : (p : List Item) (x : Item) (xs : List Item) → Allowed kind card p x → Sound kind card (x ∷ p) xs → Sound kind card p (x ∷ xs)
  unfolding Sound
  sound_more p x xs a s = (a, s)

-- one item more
pub behind_one : (p xs : List Item) (x : Item) → earlier_then p (xs ++ (x ∷ [])) ≡ x ∷ earlier_then p xs
unfolding earlier_then
behind_one p xs x = behind_append p xs (x ∷ [])

pub words_one : (x : Item) → all_words (x ∷ []) ≡ words_of x
unfolding all_words
words_one x = append-nil (words_of x)

pub partial_one : (kind : Kind) (card sequence : ℕ) (xs : List Item) (x : Item)
    → bytes (partial_words kind card sequence (xs ++ (x ∷ []))) ≡ bytes (partial_words kind card sequence xs) ++ bytes (words_of x)
unfolding partial_words all_words
partial_one kind card sequence xs x =
    ap (λ (ws : List ℕ). bytes (partial_words kind card sequence [] ++ ws)) (all_words_lem xs (x ∷ []) ∙ ap (λ (ws : List ℕ). all_words xs ++ ws) (words_one x))
    ∙ bytes_append (partial_words kind card sequence xs) (words_of x)
