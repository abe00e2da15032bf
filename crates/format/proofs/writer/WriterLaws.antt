-- T17. The writer's calls: every answer with exactly what it says of the buffer and the arguments, in the order of the refusals.
-- Assumes nothing.
use Prim.Native.Nat.{ℕ, suc, ◌+◌, ◌/◌, ◌<◌, ◌≤◌}
use mathlib.Core.Path.{◌≡◌, refl, sym, ap, subst, ◌∙◌}
use mathlib.Core.List.{List}
use mathlib.Core.Logic.{◌↔◌, ◌⊎◌, inl, inr, ⊎_elim}
use mathlib.Core.Bool.{Bool, true, false, ◌&&◌, true≢false}
use native.Mathlib.Omega.{arith}
use lib.Dec.{leb}
use lib.ListN.{length}
use borrow.Author.Tests.{leb-true, leb-false, le-leb, lt-leb}
use Rattle.format.specs.Words.{pick, bytes}
use Rattle.format.specs.Answers.{Outcome, accepted, refused, and_then}
use Rattle.format.specs.Book.{Class}
use Rattle.format.specs.Items.{Item, class_for, words_of, Token, whole, broken, flawed}
use Rattle.format.specs.Rules.{Kind, place, value, order, may_end, Checked, bad, check}
use Rattle.format.specs.Frames.{Allowed}
use Rattle.format.specs.Faults.{First, NewBroken, out_of_place, wrong_value, out_of_order, EmptyBroken, empty_out_of_place, no_content}
use Rattle.format.specs.Writing.{Partial, partial_verdict, begin_answer, room_for, add_room, add_checked, add_answer, close_answer}
use Rattle.format.specs.WriterCases.{Begin, begins, card_wide, sequence_wide, begin_short, longer, Add, adds, add_partial, add_breaks, add_empty, add_flawed, add_short, Close, closes, close_partial, close_open, close_short}
use Rattle.format.proofs.book.PrefixLaws.{and_left, and_right}
use Rattle.format.proofs.items.WordLaws.{pick_elim}
use Rattle.format.proofs.verdict.WalkLaws.{passes}
use Rattle.format.proofs.verdict.FaultLaws.{one_first, no}
use Rattle.format.proofs.writer.PartialLaws.{accepted_is}

-- ---- begin

begin_is : (buf : List ℕ) (card sequence : ℕ) → Begin buf card sequence (begin_answer buf card sequence)
unfolding begin_answer
begin_is buf card sequence =
    pick_elim (Begin buf card sequence) (leb card 31)
    (λ a. pick_elim (Begin buf card sequence) (leb sequence 0x0100)
    (λ b. pick_elim (Begin buf card sequence) (leb 8 (length buf))
    (λ c. begins (leb-true _ _ a) (leb-true _ _ b) (leb-true _ _ c))
    (λ c. begin_short (leb-true _ _ a) (leb-true _ _ b) (leb-false _ _ c)))
    (λ b. sequence_wide (leb-true _ _ a) (leb-false _ _ b)))
    (λ a. card_wide (leb-false _ _ a))

begin_only : (buf : List ℕ) (card sequence : ℕ) (o : Outcome ℕ) → Begin buf card sequence o → begin_answer buf card sequence ≡ o
unfolding begin_answer
begin_only buf card sequence o (begins a b c) = rw (le-leb card 31 a, le-leb sequence 0x0100 b, le-leb 8 (length buf) c)
begin_only buf card sequence o (card_wide a) = rw (lt-leb card 31 a)
begin_only buf card sequence o (sequence_wide a b) = rw (le-leb card 31 a, lt-leb sequence 0x0100 b)
begin_only buf card sequence o (begin_short a b c) = rw (le-leb card 31 a, le-leb sequence 0x0100 b, lt-leb 8 (length buf) c)

pub begin_exactly : (buf : List ℕ) (card sequence : ℕ) (o : Outcome ℕ) → (begin_answer buf card sequence ≡ o) ↔ Begin buf card sequence o
begin_exactly buf card sequence o = (λ e. subst (Begin buf card sequence) e (begin_is buf card sequence), begin_only buf card sequence o)

-- ---- a new item

data NewJudged (kind : Kind) (card : ℕ) (q : List Item) (x : Item) : Type 0 where
  fine : Allowed kind card q x → NewJudged kind card q x
  faulty : (n : ℕ) → check kind card q (whole x) ≡ bad n → First (NewBroken kind card q x) n → NewJudged kind card q x

data EmptyJudged (kind : Kind) (card : ℕ) (q : List Item) (c : Class) : Type 0 where
  empty : (n : ℕ) → check kind card q (broken c) ≡ bad n → First (EmptyBroken kind q c) n → EmptyJudged kind card q c

module _ (kind : Kind) (card : ℕ) (q : List Item) where
  -- where the tests below n hold, no rule below n is broken
  new_holds : (x : Item) (n : ℕ) → (8 < n → place kind q (class_for x) ≡ true) → (9 < n → value card q x ≡ true) → (10 < n → order q x ≡ true)
      → (m : ℕ) → m < n → NewBroken kind card q x m → ⊥
  new_holds x n a b c m l (out_of_place e) = true≢false (sym (a l) ∙ e)
  new_holds x n a b c m l (wrong_value e) = true≢false (sym (b l) ∙ e)
  new_holds x n a b c m l (out_of_order e) = true≢false (sym (c l) ∙ e)

  -- the tests' answer is the first broken rule, or no rule is broken
  new_judged : (x : Item) → NewJudged kind card q x
  unfolding check
  new_judged x = go (place kind q (class_for x)) refl (value card q x) refl (order q x) refl
    where
      go : (a : Bool) → place kind q (class_for x) ≡ a → (b : Bool) → value card q x ≡ b → (c : Bool) → order q x ≡ c → NewJudged kind card q x
      go true a true b true c = fine (record { placed = a; valued = b; ordered = c })
      go true a true b false c = faulty 10 (rw (a, b, c)) (record { broken = out_of_order c; earlier = new_holds x 10 (λ l. a) (λ l. b) (no tt) })
      go true a false b c d = faulty 9 (rw (a, b)) (record { broken = wrong_value b; earlier = new_holds x 9 (λ l. a) (no tt) (no tt) })
      go false a b c d e = faulty 8 (rw a) (record { broken = out_of_place a; earlier = new_holds x 8 (no tt) (no tt) (no tt) })

  empty_judged : (c : Class) → EmptyJudged kind card q c
  unfolding check
  empty_judged c = go (place kind q c) refl
    where
      holds : (n : ℕ) → (8 < n → place kind q c ≡ true) → n ≤ 9 → (m : ℕ) → m < n → EmptyBroken kind q c m → ⊥
      holds n a h m l (empty_out_of_place e) = true≢false (sym (a l) ∙ e)
      holds n a h m l no_content = omega arith

      go : (a : Bool) → place kind q c ≡ a → EmptyJudged kind card q c
      go true a = empty 9 (rw a) (record { broken = no_content; earlier = holds 9 (λ l. a) (omega arith) })
      go false a = empty 8 (rw a) (record { broken = empty_out_of_place a; earlier = holds 8 (no tt) (omega arith) })

  new_breaks : (x : Item) (k : ℕ) → First (NewBroken kind card q x) k → check kind card q (whole x) ≡ bad k
  new_breaks x k f = go (new_judged x)
    where
      go : NewJudged kind card q x → check kind card q (whole x) ≡ bad k
      go (fine a) = absurd (new_holds x (suc k) (λ l. a.placed) (λ l. a.valued) (λ l. a.ordered) k (omega arith) f.broken)
      go (faulty n c g) = c ∙ ap bad (one_first (NewBroken kind card q x) n k g f)

  empty_breaks : (c : Class) (k : ℕ) → First (EmptyBroken kind q c) k → check kind card q (broken c) ≡ bad k
  empty_breaks c k f = go (empty_judged c)
    where
      go : EmptyJudged kind card q c → check kind card q (broken c) ≡ bad k
      go (empty n d g) = d ∙ ap bad (one_first (EmptyBroken kind q c) n k g f)

  flawed_check : (k : ℕ) → check kind card q (flawed k) ≡ bad k
  unfolding check
  flawed_check k = refl

-- ---- add

-- of two tests, both hold or one fails
two_tests : (a b : Bool) → a && b ≡ false → (a ≡ false) ⊎ (b ≡ false)
two_tests true b e = inr e
two_tests false b e = inl refl

no_room : (l m : ℕ) → (l < m) ⊎ (8192 < m) → leb m l && leb m 8192 ≡ false
no_room l m (inl h) = rw (lt-leb m l h)
no_room l m (inr h) = go (leb m l)
  where
    go : (b : Bool) → b && leb m 8192 ≡ false
    go true = lt-leb m 8192 h
    go false = refl

add_is : (buf : List ℕ) (n : ℕ) (t : Token) → Add buf n t (add_answer buf n t)
unfolding add_answer check
add_is buf n t = go (partial_verdict buf n) refl
  where
    room : (f : Partial) (x : Item) → partial_verdict buf n ≡ accepted f → Allowed f.kind f.card f.earlier x → Add buf n (whole x) (add_room buf (longer n x))
    room f x e a =
        pick_elim (Add buf n (whole x)) (room_for buf (longer n x))
        (λ r. adds f x e a (leb-true _ _ (and_left (leb (longer n x + 2) (length buf)) _ r)) (leb-true _ _ (and_right (leb (longer n x + 2) (length buf)) _ r)))
        (λ r. add_short f x e a (⊎_elim (λ s. inl (leb-false _ _ s)) (λ s. inr (leb-false _ _ s)) (two_tests (leb (longer n x + 2) (length buf)) (leb (longer n x + 2) 8192) r)))

    new : (f : Partial) (x : Item) → partial_verdict buf n ≡ accepted f → NewJudged f.kind f.card f.earlier x
        → Add buf n (whole x) (add_checked buf n (whole x) (check f.kind f.card f.earlier (whole x)))
    new f x e (fine a) = subst (λ (c : Checked (List Item)). Add buf n (whole x) (add_checked buf n (whole x) c)) (sym (passes f.kind f.card f.earlier x a)) (room f x e a)
    new f x e (faulty k c b) = subst (λ (c : Checked (List Item)). Add buf n (whole x) (add_checked buf n (whole x) c)) (sym c) (add_breaks f x k e b)

    bare : (f : Partial) (c : Class) → partial_verdict buf n ≡ accepted f → EmptyJudged f.kind f.card f.earlier c
        → Add buf n (broken c) (add_checked buf n (broken c) (check f.kind f.card f.earlier (broken c)))
    bare f c e (empty k d b) = subst (λ (d : Checked (List Item)). Add buf n (broken c) (add_checked buf n (broken c) d)) (sym d) (add_empty f c k e b)

    item : (f : Partial) → partial_verdict buf n ≡ accepted f → (t : Token) → Add buf n t (add_checked buf n t (check f.kind f.card f.earlier t))
    item f e (whole x) = new f x e (new_judged f.kind f.card f.earlier x)
    item f e (broken c) = bare f c e (empty_judged f.kind f.card f.earlier c)
    item f e (flawed k) = add_flawed f k e

    go : (o : Outcome Partial) → partial_verdict buf n ≡ o → Add buf n t (and_then o (λ f. add_checked buf n t (check f.kind f.card f.earlier t)))
    go (accepted f) e = item f e t
    go (refused k p) e = add_partial t k p e

add_only : (buf : List ℕ) (n : ℕ) (t : Token) (o : Outcome ℕ) → Add buf n t o → add_answer buf n t ≡ o
unfolding add_answer
add_only buf n t o (adds f x e a r s) =
    rw (e, passes f.kind f.card f.earlier x a, le-leb (longer n x + 2) (length buf) r, le-leb (longer n x + 2) 8192 s)
add_only buf n t o (add_partial u k p e) = rw e
add_only buf n t o (add_breaks f x k e b) = rw (e, new_breaks f.kind f.card f.earlier x k b)
add_only buf n t o (add_empty f c k e b) = rw (e, empty_breaks f.kind f.card f.earlier c k b)
add_only buf n t o (add_flawed f k e) = rw (e, flawed_check f.kind f.card f.earlier k)
add_only buf n t o (add_short f x e a r) =
    rw (e, passes f.kind f.card f.earlier x a, no_room (length buf) (longer n x + 2) r)

pub add_exactly : (buf : List ℕ) (n : ℕ) (t : Token) (o : Outcome ℕ) → (add_answer buf n t ≡ o) ↔ Add buf n t o
add_exactly buf n t o = (λ e. subst (Add buf n t) e (add_is buf n t), add_only buf n t o)

-- an accepted add: the partial frame was accepted, the item is allowed behind its items, and it fits with an end word
pub record Added (buf : List ℕ) (n : ℕ) (t : Token) (m : ℕ) : Type 0 where
  pub content : Partial
  pub item : Item
  pub token : t ≡ whole item
  pub judged : partial_verdict buf n ≡ accepted content
  pub allowed : Allowed content.kind content.card content.earlier item
  pub reached : m ≡ n + length (bytes (words_of item))
  pub room : m + 2 ≤ length buf
  pub most : m + 2 ≤ 8192

pub add_accepted : (buf : List ℕ) (n : ℕ) (t : Token) (m : ℕ) → add_answer buf n t ≡ accepted m → Added buf n t m
add_accepted buf n t m e = go t _ (add_is buf n t) e
  where
    go : (t : Token) (o : Outcome ℕ) → Add buf n t o → o ≡ accepted m → Added buf n t m
    go t o (adds f x e a r s) q =
        let l : longer n x ≡ m = accepted_is _ _ q in
        record { content = f; item = x; token = refl; judged = e; allowed = a; reached = sym l; room = omega arith; most = omega arith }
    go t o (add_partial u k p e) q = let z : ◌≡◌ {A = ℕ} 0 1 = cc in absurd (omega arith)
    go t o (add_breaks f x k e b) q = let z : ◌≡◌ {A = ℕ} 0 1 = cc in absurd (omega arith)
    go t o (add_empty f c k e b) q = let z : ◌≡◌ {A = ℕ} 0 1 = cc in absurd (omega arith)
    go t o (add_flawed f k e) q = let z : ◌≡◌ {A = ℕ} 0 1 = cc in absurd (omega arith)
    go t o (add_short f x e a r) q = let z : ◌≡◌ {A = ℕ} 0 1 = cc in absurd (omega arith)

-- ---- close

close_is : (buf : List ℕ) (n : ℕ) → Close buf n (close_answer buf n)
unfolding close_answer
close_is buf n = go (partial_verdict buf n) refl
  where
    go : (o : Outcome Partial) → partial_verdict buf n ≡ o
        → Close buf n (and_then o (λ f. pick (may_end f.earlier) (pick (leb (n + 2) (length buf)) (accepted (n + 2)) (refused 12 0)) (refused 11 (n / 2))))
    go (accepted f) e =
        pick_elim (Close buf n) (may_end f.earlier)
        (λ m. pick_elim (Close buf n) (leb (n + 2) (length buf)) (λ r. closes f e m (leb-true _ _ r)) (λ r. close_short f e m (leb-false _ _ r)))
        (λ m. close_open f e m)
    go (refused k p) e = close_partial k p e

close_only : (buf : List ℕ) (n : ℕ) (o : Outcome ℕ) → Close buf n o → close_answer buf n ≡ o
unfolding close_answer
close_only buf n o (closes f e m r) = rw (e, m, le-leb (n + 2) (length buf) r)
close_only buf n o (close_partial k p e) = rw e
close_only buf n o (close_open f e m) = rw (e, m)
close_only buf n o (close_short f e m r) = rw (e, m, lt-leb (n + 2) (length buf) r)

pub close_exactly : (buf : List ℕ) (n : ℕ) (o : Outcome ℕ) → (close_answer buf n ≡ o) ↔ Close buf n o
close_exactly buf n o = (λ e. subst (Close buf n) e (close_is buf n), close_only buf n o)

pub record Closed (buf : List ℕ) (n m : ℕ) : Type 0 where
  pub content : Partial
  pub judged : partial_verdict buf n ≡ accepted content
  pub ended : may_end content.earlier ≡ true
  pub reached : m ≡ n + 2
  pub room : n + 2 ≤ length buf

pub close_accepted : (buf : List ℕ) (n m : ℕ) → close_answer buf n ≡ accepted m → Closed buf n m
close_accepted buf n m e = go _ (close_is buf n) e
  where
    go : (o : Outcome ℕ) → Close buf n o → o ≡ accepted m → Closed buf n m
    go o (closes f e d r) q = record { content = f; judged = e; ended = d; reached = sym (accepted_is _ _ q); room = r }
    go o (close_partial k p e) q = let z : ◌≡◌ {A = ℕ} 0 1 = cc in absurd (omega arith)
    go o (close_open f e d) q = let z : ◌≡◌ {A = ℕ} 0 1 = cc in absurd (omega arith)
    go o (close_short f e d r) q = let z : ◌≡◌ {A = ℕ} 0 1 = cc in absurd (omega arith)

pub record Beginning (buf : List ℕ) (card sequence m : ℕ) : Type 0 where
  pub card_fits : card ≤ 31
  pub sequence_fits : sequence ≤ 0x0100
  pub reached : m ≡ 6
  pub room : 8 ≤ length buf

pub begin_accepted : (buf : List ℕ) (card sequence m : ℕ) → begin_answer buf card sequence ≡ accepted m → Beginning buf card sequence m
begin_accepted buf card sequence m e = go _ (begin_is buf card sequence) e
  where
    go : (o : Outcome ℕ) → Begin buf card sequence o → o ≡ accepted m → Beginning buf card sequence m
    go o (begins a b c) q = record { card_fits = a; sequence_fits = b; reached = sym (accepted_is _ _ q); room = c }
    go o (card_wide a) q = let z : ◌≡◌ {A = ℕ} 0 1 = cc in absurd (omega arith)
    go o (sequence_wide a b) q = let z : ◌≡◌ {A = ℕ} 0 1 = cc in absurd (omega arith)
    go o (begin_short a b c) q = let z : ◌≡◌ {A = ℕ} 0 1 = cc in absurd (omega arith)
