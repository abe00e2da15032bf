-- T39, T40. What an answer says on paper fixes the answer: each view is injective, so each promise of this crate has one answer, and leaves one
-- list of lent words.
-- Assumes nothing.
use Prim.Native.Nat.{ℕ}
use mathlib.Core.Path.{◌≡◌, refl, sym, ◌∙◌}
use mathlib.Core.List.{List}
use Rattle.std.specs.Prelude.{Result}
use Rattle.format.specs.Questions.{event_at, sample_word_at, bin_word_at}
use Rattle.book.specs.declared.refusal.Refusal.{Refusal}
use Rattle.book.proofs.Unique.{one, same_result, same_option}
use Rattle.questions.specs.declared.answers.Beginning.{Beginning}
use Rattle.questions.specs.declared.answers.Event.{Event}
use Rattle.questions.specs.Views.{itself, view_beginning, event_of, view_event, view_filled, view_word}
use Rattle.questions.specs.Promises.{EventAnswered, SamplesAnswered, CountsAnswered, SampleWordAnswered, BinWordAnswered}

-- ---- T40

same_number : (n m : ℕ) → itself n ≡ itself m → n ≡ m
same_number n m e = e

same_beginning : (b d : Beginning) → view_beginning b ≡ view_beginning d → b ≡ d
same_beginning b d e = λ i. record { kind = (e i).kind; timestamp = (e i).timestamp }

same_event : (v w : Event) → event_of v ≡ event_of w → v ≡ w
same_event v w e =
    let f = same_option view_beginning same_beginning v.began w.began (λ i. (e i).began) in
    let g = same_option itself same_number v.ended w.ended (λ i. (e i).size) in
    λ i. record { began = f i; number = (e i).number; ended = g i; index = (e i).index }

pub same_found : (r q : Result Event Refusal) → view_event r ≡ view_event q → r ≡ q
same_found = same_result event_of same_event

pub same_filled : (r q : Result (Unit {0}) Refusal) → view_filled r ≡ view_filled q → r ≡ q
same_filled = same_result _ (λ u v e. refl)

pub same_word : (r q : Result ℕ Refusal) → view_word r ≡ view_word q → r ≡ q
same_word = same_result itself same_number

-- ---- T39, function by function: each is over the promise that the function's contract names

pub event_once : (s : List ℕ) (e : ℕ) (r q : Result Event Refusal) → EventAnswered s e r → EventAnswered s e q → r ≡ q
event_once s e = one view_event same_found (event_at s e)

pub samples_once : (s : List ℕ) (e chip c : ℕ) (l : List ℕ) (r q : Result (Unit {0}) Refusal) (l₁ l₂ : List ℕ)
    → SamplesAnswered s e chip c l r l₁ → SamplesAnswered s e chip c l q l₂ → (r ≡ q) × (l₁ ≡ l₂)
samples_once s e chip c l r q l₁ l₂ a b = (same_filled r q (a.answered ∙ sym b.answered), a.filled ∙ sym b.filled)

pub counts_once : (s : List ℕ) (chip c : ℕ) (l : List ℕ) (r q : Result (Unit {0}) Refusal) (l₁ l₂ : List ℕ)
    → CountsAnswered s chip c l r l₁ → CountsAnswered s chip c l q l₂ → (r ≡ q) × (l₁ ≡ l₂)
counts_once s chip c l r q l₁ l₂ a b = (same_filled r q (a.answered ∙ sym b.answered), a.filled ∙ sym b.filled)

pub sample_word_once : (s : List ℕ) (e chip c t : ℕ) (r q : Result ℕ Refusal) → SampleWordAnswered s e chip c t r → SampleWordAnswered s e chip c t q → r ≡ q
sample_word_once s e chip c t = one view_word same_word (sample_word_at s e chip c t)

pub bin_word_once : (s : List ℕ) (chip c b : ℕ) (r q : Result ℕ Refusal) → BinWordAnswered s chip c b r → BinWordAnswered s chip c b q → r ≡ q
bin_word_once s chip c b = one view_word same_word (bin_word_at s chip c b)
