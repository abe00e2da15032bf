-- The event question, by its ways out.
-- Assumes nothing.
use Prim.Native.Nat.{ℕ, ◌+◌, ◌%◌}
use mathlib.Core.Path.{◌≡◌, refl, sym, ap, ◌∙◌}
use mathlib.Core.List.{List, []}
use mathlib.Core.Bool.{Bool, true, false}
use mathlib.Core.Option.{Option, none, some}
use native.Mathlib.Omega.{arith}
use Rattle.format.specs.Words.{Bytes, pick, word_at, long_at, time_at}
use Rattle.format.specs.Answers.{Outcome, accepted, refused, and_then}
use Rattle.format.specs.Book.{class_of, continue_event}
use Rattle.format.specs.Items.{Item}
use Rattle.format.specs.Rules.{Kind, data_kind, same, gather}
use Rattle.format.specs.Frames.{earlier_then, verdict}
use Rattle.format.specs.Cursor.{items_from}
use Rattle.format.specs.Questions.{Event, Opened, end_size, head_of, events, pick_nth, present, event_at}
use Rattle.format.proofs.rules.SoundLaws.{no_openers}
use Rattle.format.proofs.questions.EventQuestions.{event_absent, event_of_lem, event_refused}
use Rattle.format.proofs.reader.CursorLaws.{on_sound}
use Rattle.questions.specs.Sought.{Amid, started_at, continued_at, opened_at, EventAt, event_in}
use Rattle.questions.proofs.Reading.{Accepted, items_first}

-- what was read at a Start event, and at a Continue event, is the event
pub start_read : (s : List ℕ) (at k w ts n : ℕ) (z : Option ℕ) → w ≡ word_at s at → k ≡ w % 16 → ts ≡ time_at s (at + 1) → n ≡ long_at s (at + 4)
    → z ≡ head_of (gather end_size (items_from s (at + 6))) → record { began = some (record { kind = k; timestamp = ts }); number = n; size = z; index = at } ≡ (started_at s at).event
start_read s at k w ts n z a b c d e =
    let f : k ≡ word_at s at % 16 = b ∙ ap (λ (w : ℕ). w % 16) a in
    λ i. record { began = some (record { kind = f i; timestamp = c i }); number = d i; size = e i; index = at }

pub continue_read : (s : List ℕ) (at n : ℕ) (z : Option ℕ) → n ≡ long_at s (at + 1) → z ≡ head_of (gather end_size (items_from s (at + 3)))
    → record { began = none; number = n; size = z; index = at } ≡ (continued_at s at).event
continue_read s at n z d e = λ i. record { began = none; number = d i; size = e i; index = at }

-- which of the two it is, by the word
module _ (s : List ℕ) (at w : ℕ) (b : Bool) (i : w ≡ word_at s at) (j : b ≡ same (class_of w) continue_event) where
  opened_by : opened_at s at ≡ pick b (continued_at s at) (started_at s at)
  opened_by = ap (λ (b : Bool). pick b (continued_at s at) (started_at s at)) (sym (j ∙ ap (λ (v : ℕ). same (class_of v) continue_event) i))

  module _ (h : b ≡ true) where
    pub is_continued : opened_at s at ≡ continued_at s at
    is_continued = opened_by ∙ ap (λ (b : Bool). pick b (continued_at s at) (started_at s at)) h

  module _ (h : b ≡ false) where
    pub is_started : opened_at s at ≡ started_at s at
    is_started = opened_by ∙ ap (λ (b : Bool). pick b (continued_at s at) (started_at s at)) h

-- no other kind of frame has events
pub no_events : (s : List ℕ) (kind : Kind) (e : ℕ) → (kind ≡ data_kind → ⊥) → Amid s kind 3 → pick_nth e (events 3 (items_from s 3)) ≡ none
no_events s kind e d a =
    let g = a.on in
    let n = no_openers g.frame.kind g.frame.card (λ k. d (sym a.kind_is ∙ k)) (earlier_then [] g.before) (items_from s 3) (on_sound s 3 g) in
    go (pick_nth e (events 3 (items_from s 3))) ((event_absent (items_from s 3) e).1 (omega arith))
  where
    go : (o : Option Opened) → and_then (present o) (λ o. accepted o.event) ≡ refused 13 0 → o ≡ none
    go none h = refl
    go (some o) h = let z : ◌≡◌ {A = ℕ} 0 1 = cc in absurd (omega arith)

pub event_found : (s : List ℕ) (e q : ℕ) (v : Event) → EventAt s e q → v ≡ (opened_at s q).event → accepted v ≡ event_in (items_from s 3) e
event_found s e q v h i = ap accepted i ∙ sym (ap (λ (o : Option Opened). and_then (present o) (λ o. accepted o.event)) h.picked)

pub event_missing : (s : List ℕ) (e : ℕ) → pick_nth e (events 3 (items_from s 3)) ≡ none → refused 13 0 ≡ event_in (items_from s 3) e
event_missing s e h = sym (ap (λ (o : Option Opened). and_then (present o) (λ o. accepted o.event)) h)

pub event_stopped : (s : List ℕ) (e n p : ℕ) → verdict s ≡ refused n p → refused n p ≡ event_at s e
event_stopped s e n p v = sym (event_refused s n p v e)

pub event_answered : (s : List ℕ) (bs : Bytes s) (kind : Kind) (e : ℕ) (o : Outcome Event) (a : Accepted s kind) → o ≡ event_in (items_from s 3) e → o ≡ event_at s e
event_answered s bs kind e o a h = h ∙ ap (λ (xs : List Item). event_in xs e) (items_first s bs kind a) ∙ sym (event_of_lem s a.frame a.judged e)
