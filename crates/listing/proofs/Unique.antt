-- T39, T40. What an answer says on paper fixes the answer: the view is injective, so the promise has one answer and one exit list.
-- Assumes nothing.
use Prim.Native.Nat.{ℕ}
use mathlib.Core.Path.{◌≡◌, refl, sym, ◌∙◌}
use mathlib.Core.List.{List}
use Rattle.std.specs.Prelude.{Result}
use Rattle.format.specs.Answers.{Outcome}
use Rattle.book.proofs.Unique.{one, undone, result_back, result_back_lem}
use Rattle.book.specs.declared.refusal.Refusal.{Refusal}
use Rattle.listing.specs.Listing.{listing_answer}
use Rattle.listing.specs.Promises.{Listed}
use Rattle.listing.specs.Views.{view_listing}

abbrev listing_back : Outcome ℕ → Result ℕ Refusal
listing_back = result_back (λ n. n)

listing_back_lem : (r : Result ℕ Refusal) → listing_back (view_listing r) ≡ r
listing_back_lem = result_back_lem (λ n. n) (λ n. n) (λ n. refl)

pub same_listing : (r q : Result ℕ Refusal) → view_listing r ≡ view_listing q → r ≡ q
same_listing = undone view_listing listing_back listing_back_lem

pub listing_once : (b found : List ℕ) (r q : Result ℕ Refusal) (left kept : List ℕ) → Listed b found (view_listing r) left → Listed b found (view_listing q) kept
    → (r ≡ q) × (left ≡ kept)
listing_once b found r q left kept h k =
    (one view_listing same_listing (listing_answer b found) r q h.answered k.answered, h.left ∙ sym k.left)
