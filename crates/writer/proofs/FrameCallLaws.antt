-- A run of the code's calls is the run that the crate `format` speaks of, and what a caller hands over who copies a frame is what its answers say.
-- Assumes nothing.
use Prim.Native.Nat.{ℕ, suc, ◌+◌, ◌/◌}
use mathlib.Core.Path.{◌≡◌, refl, sym, ap, ap₂, ◌∙◌}
use mathlib.Core.List.{List, [], ◌∷◌, map}
use mathlib.Core.Bool.{Bool, true, false}
use native.Mathlib.Omega.{arith}
use denote.Ref.{Bor}
use lib.Dec.{leb}
use lib.ListN.{length}
use Rattle.std.specs.Prelude.{Result, Ok, Err}
use Rattle.format.specs.Words.{pick}
use Rattle.format.specs.Answers.{accepted, refused}
use Rattle.format.specs.Items.{Item, Token, whole, broken, flawed}
use Rattle.format.specs.Rules.{Checked, good, bad, may_end, check}
use Rattle.format.specs.Questions.{text_at}
use Rattle.format.specs.Writing.{partial_verdict, begin_answer, begin_left, token_bytes, room_for, add_checked, add_answer, add_left, close_answer, close_left, Wrote}
use Rattle.format.specs.WriterCases.{handed}
use Rattle.format.specs.WriterCalls.{calls_done, add_all}
use Rattle.format.specs.Handing.{ItemAnswer, Answers, token_of_call, call_of, write_calls}
use Rattle.format.specs.Handing as handing
use Rattle.format.proofs.writer.WriterNumbers.{given_handed}
use Rattle.format.proofs.writer.Completeness.{begin_on, begin_stops, add_on, add_stops, close_on}
use Rattle.book.specs.declared.refusal.Fault.TheVariants as fault
use Rattle.book.specs.declared.refusal.Refusal.{Refusal}
use Rattle.book.specs.Refusals.{number_of}
use Rattle.book.specs.Views.{view_item}
use Rattle.book.proofs.Named.{Named, answer_for, named_then, Fair, Checks, checks, partial_named}
use Rattle.rules.specs.declared.state.Kind.{Kind}
use Rattle.rules.specs.Views.{view_kind}
use Rattle.frame.specs.Views.{view_indexed_item}
use Rattle.writer.specs.Views.{view_written}
use Rattle.writer.specs.FrameCalls.{Argument, an_item, a_text, call_in, Handed, Adds, closes, adds, refuses, FrameCalls, begins, begin_refuses, Copies, no_more, with_item, with_text}

-- the tokens that are handed over
abbrev tokens_in : List Argument → List Token
tokens_in gs = map token_of_call (map call_in gs)

-- each call promises what `format` says of its token
promised : (b : List ℕ) (n : ℕ) (g : Argument) (r : Result ℕ Refusal) (left : List ℕ) → Handed b n g r left
    → Wrote (add_answer b n (token_of_call (call_in g))) (add_left b n (token_of_call (call_in g))) (view_written r) left
promised b n (an_item x) r left w = w
promised b n (a_text s) r left w = w

-- THE LAW of the runs
adds_ran : {b left : List ℕ} {n : ℕ} {gs : List Argument} {r : Result ℕ Refusal} → Adds b n gs r left → add_all b n (tokens_in gs) ≡ calls_done (view_written r) left
adds_ran {b = b} {n = n} (closes w) = close_on b n ∙ ap₂ calls_done (sym w.answered) (sym w.written)
adds_ran {b = b} {n = n} (adds {c = c} {m = m} {g = g} {gs = gs} h k) =
    let w = promised b n g (Ok m) c h in
    add_on b n (token_of_call (call_in g)) (tokens_in gs) m (sym w.answered) ∙ ap (λ (c : List ℕ). add_all c m (tokens_in gs)) (sym w.written) ∙ adds_ran k
adds_ran {b = b} {left = left} {n = n} (refuses {g = g} {gs = gs} {q = q} h) =
    let w = promised b n g (Err q) left h in
    add_stops b n (token_of_call (call_in g)) (tokens_in gs) (number_of q.fault) q.place (sym w.answered) ∙ ap (calls_done (view_written (Err q))) (sym w.written)

pub run_ran : {b left : List ℕ} {kind : Kind} {card sequence : ℕ} {gs : List Argument} {r : Result ℕ Refusal} → FrameCalls b kind card sequence gs r left
    → write_calls b (view_kind kind) card sequence (map call_in gs) ≡ calls_done (view_written r) left
run_ran {b = b} {kind = kind} {card = card} {sequence = sequence} {gs = gs} (begins {n = n} w k) =
    begin_on b (view_kind kind) card sequence (tokens_in gs) n (sym w.answered) ∙ ap (λ (c : List ℕ). add_all c n (tokens_in gs)) (sym w.written) ∙ adds_ran k
run_ran {b = b} {kind = kind} {card = card} {sequence = sequence} {gs = gs} (begin_refuses {q = q} w) =
    begin_stops b (view_kind kind) card sequence (tokens_in gs) (number_of q.fault) q.place (sym w.answered) ∙ ap (calls_done (view_written (Err q))) (sym w.written)

-- the calls always answer, so that there is a run of whatever is handed over: each refusal is by the number of a fault
not_flawed : (g : Argument) → handed (token_of_call (call_in g)) ≡ true
not_flawed (an_item x) = given_handed (view_item x)
not_flawed (a_text s) = refl

begin_named : (b : List ℕ) (card sequence : ℕ) → Named (begin_answer b card sequence)
unfolding begin_answer
begin_named b card sequence = go (leb card 31) (leb sequence 0x0100) (leb 8 (length b))
  where
    go : (c s r : Bool) → Named {A = ℕ} (pick c (pick s (pick r (accepted 6) (refused 12 0)) (refused 4 0)) (refused 9 0))
    go true true true = tt
    go true true false = (fault.Room, refl)
    go true false r = (fault.Sequence, refl)
    go false s r = (fault.Value, refl)

add_named : (b : List ℕ) (n : ℕ) (t : Token) → handed t ≡ true → Named (add_answer b n t)
unfolding add_answer
add_named b n t h =
    named_then (partial_verdict b n) (λ f. add_checked b n t (check f.kind f.card f.earlier t)) (partial_named b n) (λ f. go (check f.kind f.card f.earlier t) (checks f.kind f.card f.earlier t (fair t h)))
  where
    fair : (t : Token) → handed t ≡ true → Fair t
    fair (whole x) e = tt
    fair (broken c) e = tt
    fair (flawed k) e = let z : ◌≡◌ {A = ℕ} 0 1 = cc in absurd (omega arith)

    room : (b : Bool) (m : ℕ) → Named (pick b (accepted m) (refused 12 0))
    room true m = tt
    room false m = (fault.Room, refl)

    go : (c : Checked (List Item)) → Checks c → Named (add_checked b n t c)
    go (good q) k = room (room_for b (n + length (token_bytes t))) (n + length (token_bytes t))
    go (bad k) j = j

close_named : (b : List ℕ) (n : ℕ) → Named (close_answer b n)
unfolding close_answer
close_named b n = named_then (partial_verdict b n) _ (partial_named b n) (λ f. go (may_end f.earlier) (leb (n + 2) (length b)))
  where
    go : (e r : Bool) → Named {A = ℕ} (pick e (pick r (accepted (n + 2)) (refused 12 0)) (refused 11 (n / 2)))
    go true true = tt
    go true false = (fault.Room, refl)
    go false r = (fault.Open, refl)

a_call : (b : List ℕ) (n : ℕ) (g : Argument) (r : Result ℕ Refusal) → view_written r ≡ add_answer b n (token_of_call (call_in g)) → Handed b n g r (add_left b n (token_of_call (call_in g)))
a_call b n (an_item x) r e = record { answered = e; written = refl }
a_call b n (a_text s) r e = record { answered = e; written = refl }

some_adds : (gs : List Argument) (b : List ℕ) (n : ℕ) → (r : Result ℕ Refusal) × (left : List ℕ) × Adds b n gs r left
some_adds [] b n =
    let (r, e) = answer_for (close_answer b n) (close_named b n) in
    (r, close_left b n, closes (record { answered = e; written = refl }))
some_adds (g ∷ gs) b n =
    go (some_adds gs (add_left b n (token_of_call (call_in g)))) (answer_for (add_answer b n (token_of_call (call_in g))) (add_named b n (token_of_call (call_in g)) (not_flawed g)))
  where
    go : ((m : ℕ) → (r : Result ℕ Refusal) × (left : List ℕ) × Adds (add_left b n (token_of_call (call_in g))) m gs r left)
        → (r : Result ℕ Refusal) × (view_written r ≡ add_answer b n (token_of_call (call_in g)))
        → (r : Result ℕ Refusal) × (left : List ℕ) × Adds b n (g ∷ gs) r left
    go later (Ok m, e) =
        let (r, left, k) = later m in
        (r, left, adds (a_call b n g (Ok m) e) k)
    go later (Err q, e) = (Err q, add_left b n (token_of_call (call_in g)), refuses (a_call b n g (Err q) e))

pub some_run : (b : List ℕ) (kind : Kind) (card sequence : ℕ) (gs : List Argument) → (r : Result ℕ Refusal) × (left : List ℕ) × FrameCalls b kind card sequence gs r left
some_run b kind card sequence gs = go (answer_for (begin_answer b card sequence) (begin_named b card sequence))
  where
    go : (r : Result ℕ Refusal) × (view_written r ≡ begin_answer b card sequence) → (r : Result ℕ Refusal) × (left : List ℕ) × FrameCalls b kind card sequence gs r left
    go (Ok n, e) =
        let (r, left, k) = some_adds gs (begin_left b (view_kind kind) card sequence) n in
        (r, left, begins (record { answered = e; written = refl }) k)
    go (Err q, e) = (Err q, begin_left b (view_kind kind) card sequence, begin_refuses (record { answered = e; written = refl }))

-- what a caller who copies is item_answers
pub record Asked (s : List ℕ) (n : ℕ) (gs : List Argument) : Type 0 where
  pub item_answers : List ItemAnswer
  pub answers : Answers s n item_answers
  pub handed : map call_of item_answers ≡ map call_in gs
  pub count : length item_answers ≡ length gs

-- THE LAW of the copies
pub asked : {s : Bor (List ℕ)} {n : ℕ} {gs : List Argument} → Copies s n gs → Asked s.now n gs
asked no_more = record { item_answers = []; answers = handing.no_more; handed = refl; count = refl }
asked {s = s} {n = n} (with_item x a e k) =
    let q = asked k in
    record {
      item_answers = record { answer = view_indexed_item x; text = text_at s.now n } ∷ q.item_answers;
      answers = handing.then (sym a) refl q.answers;
      handed = ap₂ ◌∷◌ (rw e) q.handed;
      count = ap suc q.count;
    }
asked {s = s} {n = n} (with_text x t a e b k) =
    let q = asked k in
    record {
      item_answers = record { answer = view_indexed_item x; text = t.now } ∷ q.item_answers;
      answers = handing.then (sym a) (sym b.0) q.answers;
      handed = ap₂ ◌∷◌ (rw e) q.handed;
      count = ap suc q.count;
    }
