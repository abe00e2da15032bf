-- What each question promises, under a name: its answer, and the whole of what it leaves in the words lent to it. The functions' contracts and the
-- theorems of proofs/Unique.antt are over these same names.
-- Assumes nothing.
use Rattle.std.specs.Prelude.{ℕ, ◌≡◌, List, Result}
use Rattle.format.specs.Questions.{event_at, Sampled, Counted, sample_word_at, bin_word_at}
use Rattle.book.specs.declared.refusal.Refusal.{Refusal}
use Rattle.questions.specs.declared.answers.Event.{Event}
use Rattle.questions.specs.Views.{view_event, view_filled, view_word}

-- event e of the frame s
abbrev pub EventAnswered : List ℕ → ℕ → Result Event Refusal → Type 0
EventAnswered s e r = view_event r ≡ event_at s e

-- the samples of event e, a chip and a channel
abbrev pub SamplesAnswered : List ℕ → ℕ → ℕ → ℕ → List ℕ → Result (Unit {0}) Refusal → List ℕ → Type 0
SamplesAnswered s e chip channel found r exit = Sampled s e chip channel found (view_filled r) exit

-- the counts of a chip's and a channel's histogram
abbrev pub CountsAnswered : List ℕ → ℕ → ℕ → List ℕ → Result (Unit {0}) Refusal → List ℕ → Type 0
CountsAnswered s chip channel found r exit = Counted s chip channel found (view_filled r) exit

-- the word of the sample at a time, of event e, a chip and a channel
abbrev pub SampleWordAnswered : List ℕ → ℕ → ℕ → ℕ → ℕ → Result ℕ Refusal → Type 0
SampleWordAnswered s e chip channel time r = view_word r ≡ sample_word_at s e chip channel time

-- the word of the bin of a number, of a chip's and a channel's histogram
abbrev pub BinWordAnswered : List ℕ → ℕ → ℕ → ℕ → Result ℕ Refusal → Type 0
BinWordAnswered s chip channel bin r = view_word r ≡ bin_word_at s chip channel bin
