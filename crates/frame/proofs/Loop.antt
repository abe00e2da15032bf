-- The one loop: what it keeps, for whatever kind of frame its first state is the start of.
-- Assumes nothing.
use Prim.Native.Nat.{ℕ, zero, suc, ◌+◌, ◌*◌, ◌≤◌, ◌<◌}
use mathlib.Core.Path.{◌≡◌, refl, sym, ap, subst, ◌∙◌}
use mathlib.Core.List.{List}
use mathlib.Core.Bool.{Bool, true, false}
use native.Mathlib.Nat.{add-zero}
use native.Mathlib.Omega.{arith}
use lib.ListN.{length}
use lib.Dec.{eqb, ltb}
use borrow.Author.Tests.{ltb-true}
use Rattle.format.specs.Words.{pick}
use Rattle.format.specs.Answers.{accepted, refused}
use Rattle.format.specs.Rules.{Kind, data_kind, monitor_kind, command_kind, fresh, unheaded, commands}
use Rattle.format.specs.Steps.{ReaderState, start, Stepped, moved, stopped, step_of, summed}
use Rattle.frame.specs.Repeats.{onward, turns_of}
use Rattle.format.proofs.reader.StepLaws.{Going, going_start, going_moved, going_stopped, going_end}

-- two kinds with one first state are one
start_one : (j k : Kind) → start j ≡ start k → j ≡ k
start_one data_kind data_kind e = refl
start_one data_kind monitor_kind e = let f : fresh ≡ unheaded = ap (λ (s : ReaderState). s.mode) e in cc
start_one data_kind command_kind e = let f : fresh ≡ commands = ap (λ (s : ReaderState). s.mode) e in cc
start_one monitor_kind data_kind e = let f : unheaded ≡ fresh = ap (λ (s : ReaderState). s.mode) e in cc
start_one monitor_kind monitor_kind e = refl
start_one monitor_kind command_kind e = let f : unheaded ≡ commands = ap (λ (s : ReaderState). s.mode) e in cc
start_one command_kind data_kind e = let f : commands ≡ fresh = ap (λ (s : ReaderState). s.mode) e in cc
start_one command_kind monitor_kind e = let f : commands ≡ unheaded = ap (λ (s : ReaderState). s.mode) e in cc
start_one command_kind command_kind e = refl

pub record Live (s : List ℕ) (last card n : ℕ) (st₀ : ReaderState) (at count index : ℕ) (st : ReaderState) : Type 0 where
  pub room : 2 * last ≤ length s + 1
  pub kind : Kind
  pub from : st₀ ≡ start kind
  pub going : Going s last room kind card n at count index st

pub live_start : (s : List ℕ) (last card n : ℕ) (st₀ : ReaderState) (kind : Kind) → 2 * last ≤ length s → st₀ ≡ start kind → Live s last card n st₀ 3 0 0 st₀
live_start s last card n st₀ kind h e =
    let r : 2 * last ≤ length s + 1 = omega arith in
    record { room = r; kind = kind; from = e; going = subst (Going s last r kind card n 3 0 0) (sym e) (going_start s last r kind card n) }

module _ (s : List ℕ) (last card n : ℕ) (st₀ : ReaderState) (at count index : ℕ) (st : ReaderState) (l : Live s last card n st₀ at count index st) (h : at < last) (o : Stepped) (q : o ≡ step_of card s last at st) where
  pub live_moved : (st' : ReaderState) (next index' : ℕ) → o ≡ moved st' next → index' ≡ pick (eqb count n) at index
      → (at < next) × (next ≤ last) × Live s last card n st₀ next (count + 1) index' st'
  live_moved st' next index' m i =
      let g = going_moved s last l.room l.kind card n at count index st l.going h st' next (sym m ∙ q) in (
        g.0,
        g.1,
        record {
          room = l.room;
          kind = l.kind;
          from = l.from;
          going = subst (λ (j : ℕ). Going s last l.room l.kind card n next (count + 1) j st') (sym i) g.2;
        },
      )

  pub live_stopped : (k : ℕ) (kind : Kind) → o ≡ stopped k → st₀ ≡ start kind → refused k at ≡ summed kind card s last n
  live_stopped k kind m e =
      subst (λ (j : Kind). refused k at ≡ summed j card s last n) (start_one l.kind kind (sym l.from ∙ e))
      (going_stopped s last l.room l.kind card n at count index st l.going h k (sym m ∙ q))

-- one turn more of a run, whose item is not the one asked for
live_more : (s : List ℕ) (last card n : ℕ) (st₀ : ReaderState) (count index : ℕ) (o : Stepped)
    → ((st₁ : ReaderState) (i : ℕ) → o ≡ moved st₁ i → Live s last card n st₀ i count index st₁) → eqb count n ≡ false → (st' : ReaderState) (at' : ℕ) → onward card s last o ≡ moved st' at'
    → Live s last card n st₀ at' (count + 1) index st'
live_more s last card n st₀ count index (stopped m) l f st' at' e = cc
live_more s last card n st₀ count index (moved st₁ i) l f st' at' e = go (ltb i last) refl e
  where
    go : (b : Bool) → ltb i last ≡ b → pick b (step_of card s last i st₁) (stopped 0) ≡ moved st' at' → Live s last card n st₀ at' (count + 1) index st'
    go false h e = cc
    go true h e = (live_moved s last card n st₀ i count index st₁ (l st₁ i refl) (ltb-true i last h) (step_of card s last i st₁) refl st' at' index e (ap (λ (b : Bool). pick b i index) (sym f))).2

-- the turns of a run, none of whose items is the one asked for
pub live_run : (s : List ℕ) (last card n : ℕ) (st₀ : ReaderState) (at count index : ℕ) (st : ReaderState) → Live s last card n st₀ at count index st
    → (k : ℕ) → ((i : ℕ) → i < k → eqb (count + i) n ≡ false) → (st' : ReaderState) (at' : ℕ) → turns_of card s last k at st ≡ moved st' at' → Live s last card n st₀ at' (count + k) index st'
unfolding turns_of
live_run s last card n st₀ at count index st l zero f st' at' e =
    let a : at ≡ at' = cc in
    let b : st ≡ st' = cc in
    rw (sym a, sym b, add-zero count) l
live_run s last card n st₀ at count index st l (suc k) f st' at' e =
    subst (λ (c : ℕ). Live s last card n st₀ at' c index st') (let z : count + k + 1 ≡ count + suc k = omega arith in z)
    (live_more s last card n st₀ (count + k) index (turns_of card s last k at st)
    (λ st₁ i q. live_run s last card n st₀ at count index st l k (λ j g. f j (omega arith)) st₁ i q) (f k (omega arith)) st' at' e)

pub live_end : (s : List ℕ) (last card n : ℕ) (st₀ : ReaderState) (at count index : ℕ) (st : ReaderState) → Live s last card n st₀ at count index st → last ≤ at
    → (kind : Kind) → st₀ ≡ start kind → accepted (record { count = count; index = index; state = st }) ≡ summed kind card s last n
live_end s last card n st₀ at count index st l h kind e =
    subst (λ (j : Kind). accepted (record { count = count; index = index; state = st }) ≡ summed j card s last n) (start_one l.kind kind (sym l.from ∙ e))
    (going_end s last l.room l.kind card n at count index st l.going h)

pub live_few : (s : List ℕ) (last card n : ℕ) (st₀ : ReaderState) (at count index : ℕ) (st : ReaderState) → Live s last card n st₀ at count index st → (count ≤ at) × (2 * last ≤ length s + 1)
live_few s last card n st₀ at count index st l = (l.going.few, l.room)
