-- The samples question, by its ways out.
-- Assumes nothing.
use Prim.Native.Nat.{ℕ, suc, ◌<◌, ◌≤◌}
use mathlib.Core.Path.{◌≡◌, refl, sym, ap, ◌∙◌}
use mathlib.Core.List.{List, [], ◌∷◌}
use mathlib.Core.Bool.{Bool, true, false}
use mathlib.Core.Option.{Option, none}
use lib.ListN.{length, set}
use Rattle.format.specs.Words.{Bytes, pick, word_at}
use Rattle.format.specs.Answers.{Outcome, accepted, refused, and_then, Done}
use Rattle.format.specs.Book.{class_of, continue_event, end_event}
use Rattle.format.specs.Items.{Item, Channel, Histogram, HitCount, Sample, Bin, LastCell, TimeBin, Text, StartEvent, ContinueEvent, EndEvent}
use Rattle.format.specs.Rules.{Kind, same}
use Rattle.format.specs.Frames.{verdict}
use Rattle.format.specs.Questions.{Behind, Opened, events, pick_nth, present, until, past_at, is_channel, channel_at, done, cleared, fill_samples, channel_in, samples_at, samples_left, Sampled}
use Rattle.format.proofs.questions.FillQuestions.{samples_of, samples_room, samples_refused}
use Rattle.format.proofs.questions.WordFinds.{channel_items}
use Rattle.format.specs.Cursor.{items_from}
use Rattle.questions.specs.Sought.{started_at, continued_at, opened_at, inside_at, EventAt, ChannelFound, ChannelSought, SamplesSought, Filling}
use Rattle.std.specs.Prelude as found
use Rattle.questions.proofs.Reading.{Accepted, items_first}

-- ---- no such channel

abbrev behind_header : (chip c : ℕ) → Option Opened → Outcome Behind
behind_header chip c o = and_then (present o) (λ o. present (past_at (is_channel chip c) o.inside (until end_event o.items)))

pub no_event : (s : List ℕ) (e chip c : ℕ) → pick_nth e (events 3 (items_from s 3)) ≡ none → channel_at e chip c (items_from s 3) ≡ refused 13 0
unfolding channel_at
no_event s e chip c h = ap (behind_header chip c) h

-- the items behind the one that opens an event
opened_items : (s : List ℕ) (q : ℕ) → (opened_at s q).items ≡ items_from s (inside_at s q)
opened_items s q = go (same (class_of (word_at s q)) continue_event)
  where
    go : (b : Bool) → (pick b (continued_at s q) (started_at s q)).items ≡ items_from s (pick b (continued_at s q) (started_at s q)).inside
    go true = refl
    go false = refl

in_event : (s : List ℕ) (e chip c q : ℕ) → EventAt s e q → channel_at e chip c (items_from s 3) ≡ present (past_at (is_channel chip c) (inside_at s q) (until end_event (items_from s (inside_at s q))))
unfolding channel_at
in_event s e chip c q h = ap (behind_header chip c) h.picked ∙ ap (λ (xs : List Item). present (past_at (is_channel chip c) (inside_at s q) (until end_event xs))) (opened_items s q)

-- what the search in the event finds
pub sought : (s : List ℕ) (e chip c q : ℕ) → EventAt s e q → (r : found.Option ℕ) → ChannelSought s (inside_at s q) chip c r → SamplesSought s e chip c r
sought s e chip c q h (found.Some p) f = record { found = in_event s e chip c q h ∙ ap present f.passed; headed = f.headed }
sought s e chip c q h found.None f = in_event s e chip c q h ∙ ap present f

-- ---- among the items

samples_behind : (s : List ℕ) (e chip c : ℕ) (o : Outcome Behind) → channel_at e chip c (items_from s 3) ≡ o
    → channel_in e chip c (items_from s 3) ≡ and_then o (λ h. accepted h.items)
samples_behind s e chip c o i = channel_items e chip c (items_from s 3) ∙ ap (λ (o : Outcome Behind). and_then o (λ h. accepted h.items)) i

-- the samples end before the event does
fill_until : (t : ℕ) (xs : List Item) (l : List ℕ) → fill_samples t (until end_event xs) l ≡ fill_samples t xs l
unfolding fill_samples until
fill_until t [] l = refl
fill_until t (Channel a b c ∷ xs) l = refl
fill_until t (Histogram a b c ∷ xs) l = refl
fill_until t (HitCount a b c ∷ xs) l = refl
fill_until t (Sample v ∷ xs) l = fill_until (suc t) xs (set l t v)
fill_until t (Bin b n ∷ xs) l = refl
fill_until t (LastCell a b ∷ xs) l = refl
fill_until t (TimeBin u ∷ xs) l = fill_until u xs l
fill_until t (Text s ∷ xs) l = refl
fill_until t (StartEvent k ts n ∷ xs) l = refl
fill_until t (ContinueEvent n ∷ xs) l = refl
fill_until t (EndEvent n ∷ xs) l = refl

pub samples_missing : (s : List ℕ) (e chip c : ℕ) (l : List ℕ) (o : Done) → o ≡ refused 13 0 → channel_at e chip c (items_from s 3) ≡ refused 13 0
    → Filling (channel_in e chip c (items_from s 3)) samples_left l o l
samples_missing s e chip c l o r h =
    let i = samples_behind s e chip c (refused 13 0) h in
    record { answered = rw (r, i); filled = rw i }

pub samples_put : (s : List ℕ) (e chip c q : ℕ) (l l₁ l₂ : List ℕ) → ChannelFound s e chip c q → l₁ ≡ cleared 512 0xFFFF l → l₂ ≡ fill_samples 0 (items_from s q) l₁
    → Filling (channel_in e chip c (items_from s 3)) samples_left l (accepted tt) l₂
samples_put s e chip c q l l₁ l₂ h i f =
    let j = samples_behind s e chip c (accepted (record { index = q; items = until end_event (items_from s q) })) h.found in
    record {
      answered = rw j;
      filled =
          f ∙ ap (fill_samples 0 (items_from s q)) i ∙ sym (fill_until 0 (items_from s q) (cleared 512 0xFFFF l))
          ∙ sym (ap (λ (o : Outcome (List Item)). samples_left o l) j);
    }

-- ---- of a frame

pub samples_stopped : (s : List ℕ) (e chip c : ℕ) (l : List ℕ) (o : Done) (n p : ℕ) → o ≡ refused n p → verdict s ≡ refused n p → Sampled s e chip c l o l
samples_stopped s e chip c l o n p r v =
    let h = samples_refused s n p v e chip c (length l) in
    record { answered = rw (r, h); filled = rw h }

module _ (s : List ℕ) (kind : Kind) (e chip c : ℕ) (l : List ℕ) (a : Accepted s kind) where
  pub samples_short : length l < 512 → (o : Done) → o ≡ refused 12 0 → Sampled s e chip c l o l
  samples_short h o r =
      let i = samples_room s a.frame a.judged e chip c (length l) h in
      record { answered = rw (r, i); filled = rw i }

  pub samples_answered : Bytes s → 512 ≤ length l → (o : Done) (l' : List ℕ)
      → Filling (channel_in e chip c (items_from s 3)) samples_left l o l' → Sampled s e chip c l o l'
  samples_answered bs h o l' r =
      let i : channel_in e chip c (items_from s 3) ≡ samples_at s e chip c (length l) =
      ap (channel_in e chip c) (items_first s bs kind a) ∙ sym (samples_of s a.frame a.judged e chip c (length l) h) in
      record { answered = r.answered ∙ ap done i; filled = r.filled ∙ ap (λ (o : Outcome (List Item)). samples_left o l) i }
