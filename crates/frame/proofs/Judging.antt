-- From the walk to the verdict, for the reader of src/reading.rt.
-- Assumes nothing.
use Prim.Native.Nat.{ℕ}
use mathlib.Core.Path.{◌≡◌, refl, sym, ◌∙◌}
use mathlib.Core.List.{List}
use mathlib.Core.Bool.{Bool, true, false}
use native.Mathlib.Omega.{arith}
use Rattle.book.specs.declared.refusal.Fault.{Fault}
use Rattle.book.specs.declared.refusal.Fault.TheVariants as fault
use Rattle.book.specs.Refusals.{number_of}
use Rattle.format.specs.Words.{pick, word_at}
use Rattle.format.specs.Answers.{Outcome, accepted, refused}
use Rattle.format.specs.Rules.{Kind}
use Rattle.format.specs.Frames.{last_of, head_fault, kind_in, card_in}
use Rattle.format.specs.Steps.{ended_by, Summary, summed, read_of, Indexed, index_of}
use Rattle.format.proofs.reader.JudgeLaws.{walk_refused, WalkedThrough, walked_through, still_open, all_read, read_index}
use Rattle.frame.specs.Views.{ending_of}

-- no fault has the number of none
pub no_fault : (f : Fault) → number_of f ≡ 0 → ⊥
no_fault fault.Length e = omega arith
no_fault fault.Kind e = omega arith
no_fault fault.Size e = omega arith
no_fault fault.Sequence e = omega arith
no_fault fault.End e = omega arith
no_fault fault.Class e = omega arith
no_fault fault.Cut e = omega arith
no_fault fault.Place e = omega arith
no_fault fault.Value e = omega arith
no_fault fault.Order e = omega arith
no_fault fault.Open e = omega arith
no_fault fault.Room e = omega arith
no_fault fault.Absent e = omega arith
no_fault fault.NoStart e = omega arith
no_fault fault.Link e = omega arith
no_fault fault.Header e = omega arith
no_fault fault.Entry e = omega arith
no_fault fault.Target e = omega arith
no_fault fault.NewValue e = omega arith
no_fault fault.Signer e = omega arith
no_fault fault.Full e = omega arith
no_fault fault.NoEntry e = omega arith

module _ (s : List ℕ) (n : ℕ) (e : 0 ≡ head_fault s) (kind : Kind) (card last : ℕ) (k : kind ≡ kind_in s) (c : card ≡ card_in s) (l : last ≡ last_of s)
    (o : Outcome Summary) (f : o ≡ summed kind card s last n) where
  here : o ≡ summed (kind_in s) (card_in s) s (last_of s) n
  here = f ∙ (rw (k, c, l))

  pub stopped : (j p : ℕ) → o ≡ refused j p → refused j p ≡ index_of s n
  stopped j p g = walk_refused s n e j p (sym g ∙ here)

  pub ended : (x : Summary) → o ≡ accepted x → ending_of s last kind card x ≡ index_of s n
  unfolding ending_of
  ended x g = rw (k, c, l) (go (ended_by x.state.mode) refl)
    where
      t : WalkedThrough s n e x
      t = walked_through s n e x (sym g ∙ here)

      go : (b : Bool) → ended_by x.state.mode ≡ b
          → pick (ended_by x.state.mode) (accepted (record { frame = record { kind = kind_in s; card = card_in s; sequence = word_at s 2; items = x.count; state = x.state }; index = x.index })) (refused 11 (last_of s)) ≡ index_of s n
      go true b = rw b (all_read s n e x t b)
      go false b = rw b (still_open s n e x t b)

-- reading asks for no index
module _ (s : List ℕ) (n : ℕ) where
  pub read_refused : (k p : ℕ) → refused k p ≡ index_of s n → refused k p ≡ read_of s
  read_refused k p e = sym (read_index s n ∙ (rw (← e)))

  pub read_accepted : (x : Indexed) → accepted x ≡ index_of s n → accepted x.frame ≡ read_of s
  read_accepted x e = sym (read_index s n ∙ (rw (← e)))
