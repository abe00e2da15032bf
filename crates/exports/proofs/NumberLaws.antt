-- No call refuses by 0.
-- Assumes nothing.
use Prim.Native.Nat.{ℕ, zero, suc, ◌+◌, ◌≤◌}
use mathlib.Core.Path.{◌≡◌, refl, sym, subst, ◌∙◌}
use mathlib.Core.Logic.{◌⊎◌, inl, inr, ⊎_elim}
use mathlib.Core.Bool.{Bool, true, false}
use mathlib.Core.List.{List, [], ◌∷◌, map}
use mathlib.Core.Option.{Option, none, some}
use native.Mathlib.Omega.{arith}
use lib.Dec.{leb}
use Rattle.format.specs.Words.{Bytes, pick}
use Rattle.format.specs.Answers.{Outcome, accepted, refused, and_then}
use Rattle.format.specs.Book.{Class, channel, histogram, hit_count, sample, bin, last_cell, time_bin, data_frame, monitor_frame, command_frame, text, start_event, continue_event, end_event, frame_end, unassigned, class_at}
use Rattle.format.specs.Items.{Item, Text, Token, whole, flawed}
use Rattle.format.specs.Rules.{Kind, check}
use Rattle.format.specs.Frames.{verdict}
use Rattle.format.specs.Steps.{read_of}
use Rattle.format.specs.Questions.{nth, item_at, shown_at, present, events, pick_nth, event_at, until, past, is_channel, is_histogram, channel_in, samples_at, counts_at, done, past_at, channel_at, sample_word, bin_word, sample_word_at, bin_word_at}
use Rattle.format.specs.Writing.{partial_verdict, add_answer, close_answer}
use Rattle.format.specs.WriterCases.{one_of, handed}
use Rattle.format.proofs.front.Refusals.{places}
use Rattle.format.proofs.front.Writing.{partial_list, begin_list, add_list, close_list}
use Rattle.runs.specs.Assembly.{Assembler, take}
use Rattle.runs.proofs.front.Runs.{take_list}
use Rattle.ledger.specs.Calls.{record_answer, entry_answer, open_answer, edit_answer, edit_exit, restore_answer}
use Rattle.ledger.specs.VersionTwo.{version_two}
use Rattle.ledger.specs.Versions.{v2, format_in}
use Rattle.ledger.specs.PlaneFrames.{plane_frames, plane_frames_judge}
use Rattle.ledger.proofs.answers.Refusals as ledger
use Rattle.ledger.proofs.calls.Changing.{edit_bytes}
use Rattle.ledger.proofs.plane.PlaneFrames.{plane_lawful}
use Rattle.book.specs.declared.refusal.Fault.{Fault}
use Rattle.book.specs.Refusals.{number_of}
use Rattle.book.proofs.Named.{Named}
use Rattle.editor.specs.declared.editing.Correction.{Correction}
use Rattle.editor.specs.Views.{asked}
use Rattle.editor.proofs.NamedLaws.{edit_named}
use Rattle.corrections.specs.Lists.{ListAnswer, done as none-refused, stopped, answer_from}
use Rattle.corrections.proofs.Turns.{answer_none, answer_made, answer_refused}
use Rattle.exports.specs.declared.answers.PlaneItem.{PlaneItem}
use Rattle.exports.specs.Given.{begun, said, token_of}
use Rattle.exports.specs.FlatTells.{Numbered}

granted : {A : Type 0} (a : A) → Numbered (accepted a)
granted a = record { least = λ n p e. let z : ◌≡◌ {A = ℕ} 0 1 = cc in absurd (omega arith) }

by : {A : Type 0} (n p : ℕ) → 1 ≤ n → Numbered {A = A} (refused n p)
by n p h = record { least = λ m q e. let i : n ≡ m = cc in omega arith }

module _ {A : Type 0} where
  numbered_then : {B : Type 0} (o : Outcome A) (f : A → Outcome B) → Numbered o → ((a : A) → Numbered (f a)) → Numbered (and_then o f)
  numbered_then (accepted a) f h g = g a
  numbered_then {B} (refused n p) f h g = record { least = λ m q e. let i : n ≡ m = cc in let l = h.least n p refl in omega arith }

  numbered_pick : (b : Bool) (o q : Outcome A) → Numbered o → Numbered q → Numbered (pick b o q)
  numbered_pick true o q h g = h
  numbered_pick false o q h g = g

  numbered_present : (o : Option A) → Numbered (present o)
  numbered_present none = by 13 0 (omega arith)
  numbered_present (some a) = granted a

  numbered_asked : {B : Type 0} (o : Option A) (f : A → Outcome B) → ((a : A) → Numbered (f a)) → Numbered (and_then (present o) f)
  numbered_asked none f h = by 13 0 (omega arith)
  numbered_asked (some a) f h = h a

  numbered_done : (o : Outcome A) → Numbered o → Numbered (done o)
  numbered_done (accepted a) h = granted tt
  numbered_done (refused n p) h = record { least = λ m q e. let i : n ≡ m = cc in let l = h.least n p refl in omega arith }

-- a number that is one of a list without 0
from_one : (ns : List ℕ) → one_of 0 ns ≡ false → (k : ℕ) → one_of k ns ≡ true → 1 ≤ k
from_one ns f zero e = let z : false ≡ true = sym f ∙ e in let y : ◌≡◌ {A = ℕ} 0 1 = cc in absurd (omega arith)
from_one ns f (suc k) e = omega arith

-- ---- frames

module _ (s : List ℕ) (bs : Bytes s) where
  verdict_numbered : Numbered (verdict s)
  verdict_numbered = record { least = λ n p e. (places s bs n p e).least }

  pub read_numbered : Numbered (read_of s)
  unfolding read_of
  read_numbered = numbered_then (verdict s) _ verdict_numbered (λ f. granted _)

  pub take_numbered : (a : Assembler) → Numbered (take a s)
  take_numbered a = record { least = λ n p e. ⊎_elim (λ h. h.least) (λ h. ⊎_elim (λ i. omega arith) (λ i. omega arith) h.0) (take_list a s bs n p e) }

  nth_numbered : (n at : ℕ) (xs : List Item) → Numbered (nth n at xs)
  unfolding nth
  nth_numbered n at [] = by 13 0 (omega arith)
  nth_numbered zero at (x ∷ xs) = granted _
  nth_numbered (suc n) at (x ∷ xs) = nth_numbered n _ xs

  pub item_numbered : (n : ℕ) → Numbered (shown_at s n)
  unfolding shown_at item_at
  item_numbered n = numbered_then (item_at s n) _ (numbered_then (verdict s) _ verdict_numbered (λ f. nth_numbered n 3 f.items)) (λ r. granted _)

  pub event_numbered : (e : ℕ) → Numbered (event_at s e)
  unfolding event_at
  event_numbered e = numbered_then (verdict s) _ verdict_numbered (λ f. numbered_asked (pick_nth e (events 3 f.items)) _ (λ o. granted _))

  pub samples_numbered : (e chip c room : ℕ) → Numbered (done (samples_at s e chip c room))
  unfolding samples_at channel_in
  samples_numbered e chip c room =
      numbered_done _ (numbered_then (verdict s) _ verdict_numbered
      (λ f. numbered_pick (leb 512 room) _ _ (numbered_asked (pick_nth e (events 3 f.items)) _ (λ o. numbered_present (past (is_channel chip c) (until end_event o.items)))) (by 12 0 (omega arith))))

  pub counts_numbered : (chip c room : ℕ) → Numbered (done (counts_at s chip c room))
  unfolding counts_at
  counts_numbered chip c room =
      numbered_done _ (numbered_then (verdict s) _ verdict_numbered (λ f. numbered_pick (leb 4096 room) _ _ (numbered_present (past (is_histogram chip c) f.items)) (by 12 0 (omega arith))))

  pub sample_word_numbered : (e chip c t : ℕ) → Numbered (sample_word_at s e chip c t)
  unfolding sample_word_at channel_at
  sample_word_numbered e chip c t =
      numbered_then (verdict s) _ verdict_numbered
      (λ f. numbered_then (channel_at e chip c f.items) _
      (numbered_asked (pick_nth e (events 3 f.items)) _ (λ o. numbered_present (past_at (is_channel chip c) _ (until end_event o.items))))
      (λ h. numbered_present (sample_word t 0 h.index h.items)))

  pub bin_word_numbered : (chip c b : ℕ) → Numbered (bin_word_at s chip c b)
  unfolding bin_word_at
  bin_word_numbered chip c b =
      numbered_then (verdict s) _ verdict_numbered
      (λ f. numbered_asked (past_at (is_histogram chip c) 3 f.items) _ (λ h. numbered_present (bin_word b h.index h.items)))

-- ---- the writer

pub begin_numbered : (kind : Option Kind) (buf : List ℕ) (card sequence : ℕ) → Numbered (begun kind buf card sequence)
begin_numbered none buf card sequence = by 2 0 (omega arith)
begin_numbered (some k) buf card sequence =
    record { least = λ n p e. from_one (9 ∷ 4 ∷ 12 ∷ []) refl n (begin_list buf card sequence n p e).0 }

-- what a flat item says is handed over, or refused by a number
abbrev Sayable : Token → Type 0
Sayable t = (handed t ≡ true) ⊎ ((k : ℕ) × (t ≡ flawed k) × (1 ≤ k))

sayable : (x : PlaneItem) (c : Class) → Sayable (said x c)
sayable x channel = inl refl
sayable x histogram = inl refl
sayable x hit_count = inl refl
sayable x sample = inl refl
sayable x bin = inl refl
sayable x last_cell = inl refl
sayable x time_bin = inl refl
sayable x data_frame = inr (8, refl, omega arith)
sayable x monitor_frame = inr (8, refl, omega arith)
sayable x command_frame = inr (8, refl, omega arith)
sayable x text = inl refl
sayable x start_event = inl refl
sayable x end_event = inl refl
sayable x frame_end = inr (8, refl, omega arith)
sayable x continue_event = inl refl
sayable x unassigned = inr (6, refl, omega arith)

module _ (buf : List ℕ) (bs : Bytes buf) (n : ℕ) where
  handed_numbered : (t : Token) → handed t ≡ true → Numbered (add_answer buf n t)
  handed_numbered t h = record { least = λ k p e. from_one (1 ∷ 2 ∷ 3 ∷ 4 ∷ 6 ∷ 7 ∷ 8 ∷ 9 ∷ 10 ∷ 12 ∷ []) refl k (add_list buf bs n t h k p e) }

  flawed_numbered : (j : ℕ) → 1 ≤ j → Numbered (add_answer buf n (flawed j))
  unfolding add_answer check
  flawed_numbered j h =
      numbered_then (partial_verdict buf n) _
      (record { least = λ k p e. from_one (1 ∷ 2 ∷ 3 ∷ 4 ∷ 6 ∷ 7 ∷ 8 ∷ 9 ∷ 10 ∷ []) refl k (partial_list buf bs n k p e) }) (λ f. by j _ h)

  pub add_numbered : (x : PlaneItem) → Numbered (add_answer buf n (token_of x))
  unfolding token_of
  add_numbered x =
      ⊎_elim (handed_numbered (token_of x)) (λ w. subst (λ (t : Token). Numbered (add_answer buf n t)) (sym w.1) (flawed_numbered w.0 w.2)) (sayable x (class_at x.item_class))

  pub add_text_numbered : (s : List ℕ) → Numbered (add_answer buf n (whole (Text s)))
  add_text_numbered s = handed_numbered (whole (Text s)) refl

  pub close_numbered : Numbered (close_answer buf n)
  close_numbered = record { least = λ k p e. from_one (1 ∷ 2 ∷ 3 ∷ 4 ∷ 6 ∷ 7 ∷ 8 ∷ 9 ∷ 10 ∷ 11 ∷ 12 ∷ []) refl k (close_list buf bs n k p e) }

-- ---- records

done_refused : {A : Type 0} (o : Outcome A) (n p : ℕ) → done o ≡ refused n p → o ≡ refused n p
done_refused (accepted a) n p e = let z : ◌≡◌ {A = ℕ} 0 1 = cc in absurd (omega arith)
done_refused (refused m q) n p e = cc

judge_numbers : (f : List ℕ) (n p : ℕ) → Bytes f → plane_frames.judge f ≡ refused n p → (1 ≤ n) × (n ≤ 11)
judge_numbers f n p bs e =
    let h = places f bs n p (done_refused (verdict f) n p (sym (plane_frames_judge f) ∙ e)) in
    (h.least, h.most)

-- the format of document 01 asks nothing of its own
first_asks : (c : Correction) (n p : ℕ) → version_two.asked (asked c).extra ≡ refused n p → 1 ≤ n
unfolding version_two
first_asks c n p e = let z : ◌≡◌ {A = ℕ} 0 1 = cc in absurd (omega arith)

module _ (b : List ℕ) (bs : Bytes b) where
  low : {n : ℕ} → ((1 ≤ n) × (n ≤ 11)) ⊎ ((20 ≤ n) × (n ≤ 21)) → 1 ≤ n
  low = ⊎_elim (λ h. h.0) (λ h. let q = h.0 in omega arith)

  pub record_numbered : Numbered (record_answer plane_frames (format_in b) b)
  record_numbered =
      record { least = λ n p e. low (ledger.record_numbers plane_frames (format_in b) judge_numbers b n p bs (ledger.record_question_refusals plane_frames (format_in b) b n p e)) }

  pub entry_numbered : (j : ℕ) → Numbered (entry_answer plane_frames (format_in b) b j)
  entry_numbered j =
      record { least = λ n p e. ⊎_elim (λ h. h.0) (⊎_elim (λ h. let q = h.0 in omega arith) (λ h. omega arith)) (ledger.entry_numbers plane_frames (format_in b) judge_numbers b j n p bs e) }

  pub open_numbered : (buf : List ℕ) → Numbered (open_answer plane_frames version_two b buf)
  open_numbered buf = record { least = λ n p e. (ledger.open_numbers plane_frames version_two judge_numbers b buf n p bs e).0 }

  pub edit_numbered : (c : Correction) → Numbered (edit_answer plane_frames version_two b (asked c))
  edit_numbered c =
      record { least = λ n p e. ⊎_elim (⊎_elim (λ h. h.0) (λ h. let q = h.0 in omega arith)) (first_asks c n p) (ledger.edit_numbers plane_frames version_two judge_numbers b (asked c) n p bs e) }

  pub restore_numbered : (k : ℕ) (out : List ℕ) → Numbered (restore_answer plane_frames (format_in b) b k out)
  restore_numbered k out =
      record { least = λ n p e. ⊎_elim (λ h. h.0) (⊎_elim (λ h. let q = h.0 in omega arith) (λ h. omega arith)) (ledger.restore_numbers plane_frames (format_in b) judge_numbers b k out n p bs e) }

-- ---- a list of corrections stops by the refusal of one of them
pub edit_all_numbered : (cs : List Correction) (i : ℕ) (b : List ℕ) → Bytes b → (j n p : ℕ) → answer_from plane_frames version_two i b (map asked cs) ≡ stopped j n p → 1 ≤ n
edit_all_numbered [] i b bs j n p h = none_stops (sym (answer_none plane_frames version_two i b) ∙ h)
  where
    none_stops : none-refused ≡ stopped j n p → 1 ≤ n
    none_stops e = let z : ◌≡◌ {A = ℕ} 0 1 = cc in absurd (omega arith)
edit_all_numbered (c ∷ cs) i b bs j n p h = go (edit_answer plane_frames version_two b (asked c)) refl (edit_all_numbered cs (i + 1) (edit_exit plane_frames version_two b (asked c)))
  where
    go : (d : Outcome (Unit {0})) → edit_answer plane_frames version_two b (asked c) ≡ d
        → (Bytes (edit_exit plane_frames version_two b (asked c)) → (j n p : ℕ) → answer_from plane_frames version_two (i + 1) (edit_exit plane_frames version_two b (asked c)) (map asked cs) ≡ stopped j n p → 1 ≤ n)
        → 1 ≤ n
    go (accepted u) e later = later (edit_bytes plane_frames version_two (plane_lawful v2) b (asked c) bs e) j n p (sym (answer_made plane_frames version_two i b (asked c) (map asked cs) e) ∙ h)
    go (refused m q) e later =
        let l : 1 ≤ m = (edit_numbered b bs c).least m q e in
        same (sym (answer_refused plane_frames version_two i b (asked c) (map asked cs) m q e) ∙ h) l
      where
        same : stopped i m q ≡ stopped j n p → 1 ≤ m → 1 ≤ n
        same s l = let z : m ≡ n = cc in omega arith

-- and its number is that of a fault
pub edit_all_named : (cs : List Correction) (i : ℕ) (b : List ℕ) (j n p : ℕ) → answer_from plane_frames version_two i b (map asked cs) ≡ stopped j n p → (f : Fault) × (number_of f ≡ n)
edit_all_named [] i b j n p h = none_stops (sym (answer_none plane_frames version_two i b) ∙ h)
  where
    none_stops : none-refused ≡ stopped j n p → (f : Fault) × (number_of f ≡ n)
    none_stops e = let z : ◌≡◌ {A = ℕ} 0 1 = cc in absurd (omega arith)
edit_all_named (c ∷ cs) i b j n p h = go (edit_answer plane_frames version_two b (asked c)) refl (edit_named b (asked c)) (edit_all_named cs (i + 1) (edit_exit plane_frames version_two b (asked c)))
  where
    go : (d : Outcome (Unit {0})) → edit_answer plane_frames version_two b (asked c) ≡ d → Named d
        → ((j n p : ℕ) → answer_from plane_frames version_two (i + 1) (edit_exit plane_frames version_two b (asked c)) (map asked cs) ≡ stopped j n p → (f : Fault) × (number_of f ≡ n))
        → (f : Fault) × (number_of f ≡ n)
    go (accepted u) e w later = later j n p (sym (answer_made plane_frames version_two i b (asked c) (map asked cs) e) ∙ h)
    go (refused m q) e w later = same (sym (answer_refused plane_frames version_two i b (asked c) (map asked cs) m q e) ∙ h) w
      where
        same : stopped i m q ≡ stopped j n p → (f : Fault) × (number_of f ≡ m) → (f : Fault) × (number_of f ≡ n)
        same s (f, k) = let z : m ≡ n = cc in (f, k ∙ z)
