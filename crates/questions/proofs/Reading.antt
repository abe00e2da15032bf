-- From the reader's verdict to the items: in an accepted frame the cursor stands before its first item at word 3.
-- Assumes nothing.
use Prim.Native.Nat.{ℕ}
use mathlib.Core.Path.{◌≡◌, refl, sym, ap, ◌∙◌}
use mathlib.Core.List.{List}
use native.Mathlib.Omega.{arith}
use Rattle.format.specs.Words.{Bytes}
use Rattle.format.specs.Answers.{Outcome, accepted, refused, and_then}
use Rattle.format.specs.Rules.{Kind, data_kind, monitor_kind, command_kind}
use Rattle.format.specs.Frames.{Frame, verdict}
use Rattle.format.specs.Steps.{Overview, overview, read_of}
use Rattle.format.specs.Cursor.{items_from}
use Rattle.format.proofs.reader.CursorLaws.{from_first, on_start}
use Rattle.questions.specs.Judged.{kind_number, number_read}
use Rattle.questions.specs.Sought.{Amid}

-- an accepted frame of the kind
pub record Accepted (s : List ℕ) (kind : Kind) : Type 0 where
  pub frame : Frame
  pub judged : verdict s ≡ accepted frame
  pub kind_is : kind ≡ frame.kind

pub read_accepted : (s : List ℕ) (o : Overview) → accepted o ≡ read_of s → Accepted s o.kind
unfolding read_of
read_accepted s o e = go (verdict s) refl e
  where
    inner : (a b : Overview) → accepted a ≡ accepted b → a ≡ b
    inner a b f = cc

    go : (v : Outcome Frame) → verdict s ≡ v → accepted o ≡ and_then v (λ f. accepted (overview f)) → Accepted s o.kind
    go (accepted f) v h =
        let q = inner o (overview f) h in
        record { frame = f; judged = v; kind_is = ap (λ (a : Overview). a.kind) q }
    go (refused n p) v h = let z : ◌≡◌ {A = ℕ} 0 1 = cc in absurd (omega arith)

pub read_refused : (s : List ℕ) (n p : ℕ) → refused n p ≡ read_of s → verdict s ≡ refused n p
unfolding read_of
read_refused s n p e = go (verdict s) refl e
  where
    go : (v : Outcome Frame) → verdict s ≡ v → refused n p ≡ and_then v (λ f. accepted (overview f)) → verdict s ≡ refused n p
    go (accepted f) v h = let z : ◌≡◌ {A = ℕ} 0 1 = cc in absurd (omega arith)
    go (refused m q) v h = v ∙ sym (inner n p m q h)
      where
        inner : (n p m q : ℕ) → ◌≡◌ {A = Outcome Overview} (refused n p) (refused m q) → ◌≡◌ {A = Outcome Frame} (refused n p) (refused m q)
        inner n p m q f = cc

module _ (s : List ℕ) (bs : Bytes s) (kind : Kind) (a : Accepted s kind) where
  -- the cursor stands before its first item
  pub amid_first : Amid s kind 3
  amid_first =
      let g = on_start s bs a.frame a.judged in
      record { on = g; kind_is = ap (λ (f : Frame). f.kind) (one_frame _ _ (sym g.accepted ∙ a.judged)) ∙ sym a.kind_is }
    where
      one_frame : (f h : Frame) → accepted f ≡ accepted h → f ≡ h
      one_frame f h e = cc

  pub items_first : items_from s 3 ≡ a.frame.items
  items_first = from_first s bs a.frame a.judged

-- ---- the same as an equation of numbers

same_kind : (a b : Kind) → kind_number a ≡ kind_number b → a ≡ b
same_kind data_kind data_kind e = refl
same_kind data_kind monitor_kind e = absurd (omega arith)
same_kind data_kind command_kind e = absurd (omega arith)
same_kind monitor_kind data_kind e = absurd (omega arith)
same_kind monitor_kind monitor_kind e = refl
same_kind monitor_kind command_kind e = absurd (omega arith)
same_kind command_kind data_kind e = absurd (omega arith)
same_kind command_kind monitor_kind e = absurd (omega arith)
same_kind command_kind command_kind e = refl

pub number_is : (s : List ℕ) (kind : Kind) → Accepted s kind → number_read (verdict s) ≡ kind_number kind
number_is s kind a = ap number_read a.judged ∙ ap kind_number (sym a.kind_is)

pub accepted_of : (s : List ℕ) (kind : Kind) → number_read (verdict s) ≡ kind_number kind → Accepted s kind
accepted_of s kind e = go (verdict s) refl e
  where
    none : (k : Kind) → 0 ≡ kind_number k → Accepted s kind
    none data_kind f = absurd (omega arith)
    none monitor_kind f = absurd (omega arith)
    none command_kind f = absurd (omega arith)

    go : (v : Outcome Frame) → verdict s ≡ v → number_read v ≡ kind_number kind → Accepted s kind
    go (accepted f) v h = record { frame = f; judged = v; kind_is = same_kind kind f.kind (sym h) }
    go (refused n p) v h = none kind h

pub amid_of : (s : List ℕ) → Bytes s → (kind : Kind) → number_read (verdict s) ≡ kind_number kind → Amid s kind 3
amid_of s bs kind e = amid_first s bs kind (accepted_of s kind e)
