-- Items as the events of a run have them: a Start event outside an event, any other item inside one.
-- Assumes nothing.
use Prim.Native.Nat.{ℕ, ◌+◌, ◌<◌}
use mathlib.Core.Path.{◌≡◌, refl, sym, ap, subst, ◌∙◌}
use mathlib.Core.List.{List, [], ◌∷◌, ◌++◌}
use mathlib.Core.Bool.{Bool, true, false, not, true≢false}
use native.Mathlib.Omega.{arith}
use lib.Dec.{leb}
use borrow.Author.Tests.{le-leb}
use Rattle.format.specs.Words.{pick}
use Rattle.format.specs.Book.{start_event, end_event}
use Rattle.format.specs.Items.{Item, StartEvent, EndEvent, class_for, fits}
use Rattle.format.specs.Rules.{same, since, count, begun}
use Rattle.format.specs.Frames.{earlier_then}
use Rattle.format.specs.Questions.{end_size, until}

-- ---- items as the events of a run have them

-- an item that neither begins nor ends an event
pub record Within (x : Item) : Type 0 where
  pub no_start : same start_event (class_for x) ≡ false
  pub no_end : same end_event (class_for x) ≡ false
  pub no_size : end_size x ≡ []
  pub fitting : fits x ≡ true

-- an item behind others, where an event is open or not
pub data Turn (o : Bool) (x : Item) : Type 0 where
  a_start : (t ts n : ℕ) → x ≡ StartEvent t ts n → o ≡ false → Turn o x
  an_end : (n : ℕ) → x ≡ EndEvent n → n < 4294967296 → o ≡ true → Turn o x
  another : Within x → o ≡ true → Turn o x

unfoldable pub Formed : Bool → List Item → Type 0
Formed o [] = Unit {0}
Formed o (x ∷ xs) = Turn o x × Formed (not (same end_event (class_for x))) xs

-- whether an event is open then
pub begun_nil : begun [] ≡ false
unfolding since count
begun_nil = refl

pub begun_start : (t ts n : ℕ) (p : List Item) → begun (StartEvent t ts n ∷ p) ≡ true
unfolding since count
begun_start t ts n p = le-leb 1 (1 + count start_event (since end_event p)) (omega arith)

pub begun_end : (n : ℕ) (p : List Item) → begun (EndEvent n ∷ p) ≡ false
unfolding since count
begun_end n p = refl

pub begun_within : (x : Item) (p : List Item) → Within x → begun (x ∷ p) ≡ begun p
unfolding since count
begun_within x p h = rw (h.no_end, h.no_start) (ap (leb 1) (zero_plus (count start_event (since end_event p))))
  where
    zero_plus : (n : ℕ) → 0 + n ≡ n
    zero_plus n = omega arith

pub turned : (p : List Item) (x : Item) → Turn (begun p) x → begun (x ∷ p) ≡ not (same end_event (class_for x))
turned p x (a_start t ts n i o) = ap (λ (y : Item). begun (y ∷ p)) i ∙ begun_start t ts n p ∙ sym (ap (λ (y : Item). not (same end_event (class_for y))) i)
turned p x (an_end n i l o) = ap (λ (y : Item). begun (y ∷ p)) i ∙ begun_end n p ∙ sym (ap (λ (y : Item). not (same end_event (class_for y))) i)
turned p x (another h o) = begun_within x p h ∙ o ∙ sym (ap not h.no_end)

pub formed_append : (p xs ys : List Item) → Formed (begun p) xs → Formed (begun (earlier_then p xs)) ys → Formed (begun p) (xs ++ ys)
unfolding Formed earlier_then
formed_append p [] ys f g = g
formed_append p (x ∷ xs) ys f g =
    let e = turned p x f.0 in
    (f.0, subst (λ (b : Bool). Formed b (xs ++ ys)) e (formed_append (x ∷ p) xs ys (subst (λ (b : Bool). Formed b xs) (sym e) f.1) g))

-- outside an event a Start event comes next, or nothing
pub outside_next : (xs : List Item) → Formed false xs → until start_event xs ≡ []
unfolding Formed until
outside_next [] f = refl
outside_next (x ∷ xs) f = go f.0
  where
    go : Turn false x → pick (same start_event (class_for x)) [] (x ∷ until start_event xs) ≡ []
    go (a_start t ts n i o) = rw i
    go (an_end n i l o) = absurd (true≢false (sym o))
    go (another h o) = absurd (true≢false (sym o))
