-- T2, last sentence: "All other words, 3,295 of them, are unassigned." The words of a high byte other than 0 are counted a page at a time.
-- Assumes nothing.
use mathlib.Core.Path.{◌≡◌, refl, sym, ap, ap₂, ◌∙◌}
use mathlib.Core.Bool.{true}
use mathlib.Core.Option.{Option}
use Prim.Native.Nat.{ℕ, zero, suc, ◌+◌, ◌*◌, ◌<◌}
use native.Mathlib.Nat.{add-zero, add-suc, suc-add, zero-add, suc-mul, add_comm, zero-mul, add_assoc}
use native.Mathlib.Omega.{arith}
use Rattle.format.specs.Words.{pick}
use Rattle.format.specs.Prefix.{find}
use Rattle.format.specs.Book.{Class, book, or_unassigned, class_of, assigned, sum, unread}
use Rattle.format.proofs.book.PageLaws.{paged, by_page}

-- the book is such a table
pub book_paged : paged book ≡ true
book_paged = refl

module _ (f : ℕ → ℕ) where
  sum_append : (m a n : ℕ) → sum f a (m + n) ≡ sum f a m + sum f (a + m) n
  unfolding sum
  sum_append zero a n = rw (zero-add n, add-zero, zero-add)
  sum_append (suc m) a n = rw (suc-add, sum_append m (suc a) n, add_assoc, suc-add, add-suc)

  -- where f is the same at each
  sum_same : (v n a : ℕ) → ((i : ℕ) → i < n → f (a + i) ≡ v) → sum f a n ≡ n * v
  unfolding sum
  sum_same v zero a h = rw zero-mul
  sum_same v (suc n) a h =
      ap₂ ◌+◌ (ap f (sym (add-zero a)) ∙ h 0 (omega arith))
      (sum_same v n (suc a) (λ i k. ap f (suc-add a i ∙ sym (add-suc a i)) ∙ h (suc i) (omega arith)))
      ∙ add_comm v (n * v) ∙ sym (suc-mul n v)

-- a page's 256 words are as its first
page : (h : ℕ) → (h ≡ 0 → ⊥) → sum unread (h * 256) 256 ≡ 256 * unread (h * 256)
unfolding class_of
page h n =
    sum_same unread (unread (h * 256)) 256 (h * 256)
    (λ i k. ap (λ (o : Option Class). pick (assigned (or_unassigned o)) 0 1) (by_page book book_paged (h * 256 + i) (h * 256) (omega arith) (λ e. n (omega arith))))

pages : (n h : ℕ) → (h ≡ 0 → ⊥) → sum unread (h * 256) (n * 256) ≡ sum (λ (k : ℕ). 256 * unread (k * 256)) h n
unfolding sum
pages zero h z = refl
pages (suc n) h z =
    let e : suc n * 256 ≡ 256 + n * 256 = omega arith in
    let g : h * 256 + 256 ≡ suc h * 256 = omega arith in
    ap (sum unread (h * 256)) e ∙ sum_append unread 256 (h * 256) (n * 256)
    ∙ ap₂ ◌+◌ (page h z) (ap (λ (a : ℕ). sum unread a (n * 256)) g ∙ pages n (suc h) (λ i. omega arith))

low : sum unread 0 256 ≡ 223
unfolding sum class_of find
low = refl

high : sum (λ (k : ℕ). 256 * unread (k * 256)) 1 255 ≡ 3072
unfolding sum class_of find
high = refl

-- of the 65,536 words, 3,295 are unassigned
pub unassigned_count : sum unread 0 65536 ≡ 3295
unassigned_count = sum_append unread 256 0 65280 ∙ ap₂ ◌+◌ low (pages 255 1 (λ i. omega arith) ∙ high)
