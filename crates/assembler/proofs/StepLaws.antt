-- One step, way out by way out: what the code has worked out is what the definitions of `runs` say.
-- Assumes nothing.
use Prim.Native.Nat.{ℕ, ◌+◌, ◌-◌, ◌*◌, max, ◌<◌}
use mathlib.Core.Path.{◌≡◌, refl, sym, ap, ap₂, ◌∙◌}
use mathlib.Core.List.{List}
use mathlib.Core.Bool.{Bool, true, false, not, ◌&&◌}
use mathlib.Core.Option.{Option, none, some}
use lib.Dec.{ltb, eqb}
use lib.ListN.{length}
use borrow.Author.Tests.{eq-eqb, ne_eqb, ltb-true}
use Rattle.std.specs.Prelude.{Err}
use Rattle.follower.specs.Follow as follower
use Rattle.follower.specs.Paper.{number_of}
use Rattle.follower.specs.declared.SequenceError.{SequenceError}
use Rattle.follower.specs.declared.SequenceError.TheVariants.{NoSequence, NoStart}
use Rattle.book.specs.Refusals as refusals
use Rattle.book.specs.Refusals.{fault_of}
use Rattle.book.specs.declared.refusal.Fault.{Fault}
use Rattle.book.specs.declared.refusal.Refusal.{Refusal}
use denote.Enum.Bare.{sameb}
use Rattle.rules.specs.contracts.state.Kind.{the_type}
use Rattle.rules.specs.declared.state.Kind.{Kind}
use Rattle.rules.specs.declared.state.Kind.TheVariants.{Data, Monitor, Command}
use Rattle.rules.specs.Views.{view_kind}
use Rattle.format.specs.Words.{pick, Bytes, long_at}
use Rattle.format.specs.Answers.{Outcome, accepted, refused, and_then}
use Rattle.format.specs.Steps.{Marks, ReaderState, open_in, Overview, read_of}
use Rattle.format.proofs.book.PrefixLaws.{and_right}
use Rattle.runs.specs.Assembly.{Open, Assembler, is_data, Taken, take}
use Rattle.runs.specs.Marked.{continues_at, rises_by, item_bytes, size_by, goes_on_by, linked_by, sized_by, begun_by, open_by, linking_by, take_by}
use Rattle.runs.proofs.front.Runs.{take_by_marks}
use Rattle.runs.proofs.marks.TakeByLaws.{linked_sized}
use Rattle.assembler.specs.Views.{view_followed}

-- ---- its size

-- the event goes on
pub goes_on_sized : (size : ℕ) (s : List ℕ) (lead : ℕ) → lead ≡ 0 → ltb (size + (length s - 8)) 4294967296 ≡ size_by size s lead
unfolding size_by
goes_on_sized size s lead z =
    sym (ap (λ (b : Bool). pick b (ltb (size + item_bytes s) 4294967296) (eqb (long_at s (lead + 1)) (size + 2 * lead))) (eq-eqb lead 0 z))

-- it ends here
pub ends_sized : (told size : ℕ) (s : List ℕ) (lead : ℕ) → told ≡ long_at s (lead + 1) → (lead ≡ 0 → ⊥) → eqb told (size + 2 * lead) ≡ size_by size s lead
unfolding size_by
ends_sized told size s lead e z =
    ap (λ (n : ℕ). eqb n (size + 2 * lead)) e ∙ sym (ap (λ (b : Bool). pick b (ltb (size + item_bytes s) 4294967296) (eqb (long_at s (lead + 1)) (size + 2 * lead))) (ne_eqb lead 0 z))

-- so that a size that goes on has 32 bits
pub sized_fits : (o : Open) (s : List ℕ) (m : Marks) → sized_by (some o) s m ≡ true → (n : ℕ) → n ≡ item_bytes s → m.lead ≡ 0 → o.size + n < 4294967296
unfolding sized_by
sized_fits o s m e n i z = rw i (ltb-true (o.size + (length s - 8)) 4294967296 (goes_on_sized o.size s m.lead z ∙ e))

-- ---- whether it links

pub goes_on_told : (o : Open) (lost : ℕ) (s : List ℕ) (m : Marks) (number : ℕ) (continued rising sizes : Bool) → continued ≡ continues_at s → number ≡ long_at s 4
    → rising ≡ rises_by o.key m.first → sizes ≡ size_by o.size s m.lead
    → eqb lost 0 && continued && eqb o.number number && rising && sizes ≡ goes_on_by o lost s m
unfolding goes_on_by
goes_on_told o lost s m number continued rising sizes c n r z = rw (c, n, r, z)

pub none_linked : (o : Option Open) (lost : ℕ) (s : List ℕ) (m : Marks) (continued : Bool) → o ≡ none → continued ≡ continues_at s → not continued ≡ linked_by o lost s m
unfolding linked_by
none_linked o lost s m continued e c = ap not c ∙ sym (ap (λ (o : Option Open). linked_by o lost s m) e)

pub some_linked : (o : Option Open) (p : Open) (lost : ℕ) (s : List ℕ) (m : Marks) (r : Bool) → o ≡ some p → r ≡ goes_on_by p lost s m → r ≡ linked_by o lost s m
unfolding linked_by
some_linked o p lost s m r e g = g ∙ sym (ap (λ (o : Option Open). linked_by o lost s m) e)

-- ---- what is open then

-- the event of the latest Start event
abbrev latest_open : List ℕ → ReaderState → Option Open
latest_open s st = some (record { number = long_at s (st.marks.opener + 4); size = length s - 2 - 2 * st.marks.opener; key = st.key })

pub none_begun : (s : List ℕ) (st : ReaderState) → st.marks.opener ≡ 0 → none ≡ begun_by s st
unfolding begun_by
none_begun s st z = sym (ap (λ (b : Bool). pick (open_in st.mode && not b) (latest_open s st) none) (eq-eqb st.marks.opener 0 z) ∙ go (open_in st.mode))
  where
    go : (b : Bool) → pick (b && false) (latest_open s st) none ≡ none
    go true = refl
    go false = refl

-- it has ended
pub shut_begun : (s : List ℕ) (st : ReaderState) (o : Bool) → o ≡ open_in st.mode → o ≡ false → none ≡ begun_by s st
unfolding begun_by
shut_begun s st o e f = sym (ap (λ (b : Bool). pick (b && not (eqb st.marks.opener 0)) (latest_open s st) none) (sym e ∙ f))

pub some_begun : (s : List ℕ) (st : ReaderState) (number size : ℕ) (o : Bool) → number ≡ long_at s (st.marks.opener + 4) → size ≡ length s - 2 - 2 * st.marks.opener
    → (st.marks.opener ≡ 0 → ⊥) → o ≡ open_in st.mode → o ≡ true → some (record { number = number; size = size; key = st.key }) ≡ begun_by s st
unfolding begun_by
some_begun s st number size o n e z m t =
    (λ i. some (record { number = n i; size = e i; key = st.key }))
    ∙ sym (ap₂ (λ (a b : Bool). pick (a && not b) (latest_open s st) none) (sym m ∙ t) (ne_eqb st.marks.opener 0 z))

pub ended : (o : Open) (s : List ℕ) (st : ReaderState) (r : Option Open) → r ≡ begun_by s st → (st.marks.lead ≡ 0 → ⊥) → r ≡ open_by (some o) s st
unfolding open_by
ended o s st r e z =
    e ∙ sym (ap (λ (b : Bool). pick b (some (record { number = o.number; size = o.size + item_bytes s; key = max o.key st.key })) (begun_by s st)) (ne_eqb st.marks.lead 0 z))

pub goes_on_open : (o : Open) (s : List ℕ) (st : ReaderState) (number size key : ℕ) → number ≡ o.number → size ≡ o.size + (length s - 8) → key ≡ max o.key st.key
    → st.marks.lead ≡ 0 → some (record { number = number; size = size; key = key }) ≡ open_by (some o) s st
unfolding open_by
goes_on_open o s st number size key n e k z =
    (λ i. some (record { number = n i; size = e i; key = k i }))
    ∙ sym (ap (λ (b : Bool). pick b (some (record { number = o.number; size = o.size + item_bytes s; key = max o.key st.key })) (begun_by s st)) (eq-eqb st.marks.lead 0 z))

pub none_open : (o : Option Open) (s : List ℕ) (st : ReaderState) (r : Option Open) → o ≡ none → r ≡ begun_by s st → r ≡ open_by o s st
unfolding open_by
none_open o s st r e b = b ∙ sym (ap (λ (o : Option Open). open_by o s st) e)

-- ---- the step

pub data_told : (k : Kind) → sameb the_type k Data ≡ is_data (view_kind k)
data_told Data = refl
data_told Monitor = refl
data_told Command = refl

pub sized_link : (o : Option Open) (lost : ℕ) (s : List ℕ) (m : Marks) (d l : Bool) → l ≡ linked_by o lost s m → d && l ≡ true → sized_by o s m ≡ true
sized_link o lost s m d l e t = linked_sized o lost s m (sym e ∙ and_right d l t)

module _ (a : Assembler) (s : List ℕ) (v : Overview) (lost : ℕ) (st : follower.State) (d l : Bool) (told : d ≡ is_data v.kind) (linked : l ≡ linked_by a.event lost s v.state.marks) where
  tests : d && eqb v.card a.card && l ≡ is_data v.kind && eqb v.card a.card && linked_by a.event lost s v.state.marks
  tests = ap₂ (λ (d l : Bool). d && eqb v.card a.card && l) told linked

  pub link_accepted : (o : Option Open) → d && eqb v.card a.card && l ≡ true → o ≡ open_by a.event s v.state
      → accepted (record { lost = lost; next = record { card = a.card; follower = st; event = o } }) ≡ linking_by a s v (follower.accepted lost st)
  unfolding linking_by
  link_accepted o t e =
      ap (λ (o : Option Open). accepted (record { lost = lost; next = record { card = a.card; follower = st; event = o } })) e
      ∙ sym (ap (λ (b : Bool). pick b (accepted (record { lost = lost; next = record { card = a.card; follower = st; event = open_by a.event s v.state } })) (refused 15 0)) (sym tests ∙ t))

  pub link_refused : d && eqb v.card a.card && l ≡ false → refused 15 0 ≡ linking_by a s v (follower.accepted lost st)
  unfolding linking_by
  link_refused t =
      sym (ap (λ (b : Bool). pick b (accepted (record { lost = lost; next = record { card = a.card; follower = st; event = open_by a.event s v.state } })) (refused 15 0)) (sym tests ∙ t))

same_number : (e : SequenceError) → refusals.number_of (fault_of e) ≡ number_of e
same_number NoSequence = refl
same_number NoStart = refl

pub fault_told : (e : SequenceError) (f : Fault) (r : Refusal) (o : follower.Answer) → f ≡ fault_of e → r ≡ record { fault = f; place = 0 }
    → follower.refused (number_of e) 0 ≡ o → view_followed (Err r) ≡ o
fault_told e f r o g h t =
    ap (λ (r : Refusal). view_followed (Err r)) h
    ∙ ap (λ (f : Fault). follower.refused (refusals.number_of f) 0) g
    ∙ ap (λ (n : ℕ). follower.refused n 0) (same_number e)
    ∙ t

pub follow_refused : (a : Assembler) (s : List ℕ) (v : Overview) (o : follower.Answer) (n p : ℕ) → follower.refused n p ≡ o → refused n p ≡ linking_by a s v o
unfolding linking_by
follow_refused a s v o n p f = ap (linking_by a s v) f

pub read_refused : (a : Assembler) (s : List ℕ) → Bytes s → (n p : ℕ) → refused n p ≡ read_of s → refused n p ≡ take a s
unfolding take_by
read_refused a s bytes n p e =
    ap (λ (o : Outcome Overview). and_then o (λ v. linking_by a s v (follower.follow a.follower v.sequence))) e ∙ sym (take_by_marks a s bytes)

pub read_accepted : (a : Assembler) (s : List ℕ) → Bytes s → (v : Overview) (r : Outcome Taken) → accepted v ≡ read_of s
    → r ≡ linking_by a s v (follower.follow a.follower v.sequence) → r ≡ take a s
unfolding take_by
read_accepted a s bytes v r e h =
    h ∙ ap (λ (o : Outcome Overview). and_then o (λ v. linking_by a s v (follower.follow a.follower v.sequence))) e ∙ sym (take_by_marks a s bytes)
