-- T40: what an answer says on paper fixes the answer, since each view is injective. So each promise has one answer (Once.antt).
-- Assumes nothing.
use mathlib.Core.Path.{◌≡◌, ap}
use Rattle.std.specs.Prelude as found
use Rattle.format.specs.Questions.{Shown}
use Rattle.book.proofs.Unique.{same_item, same_option}
use Rattle.cursor.specs.declared.standing.FoundItem.{FoundItem}
use Rattle.cursor.specs.Views.{view_found_item, view_standing}

pub same_found_item : (r q : FoundItem) → view_found_item r ≡ view_found_item q → r ≡ q
same_found_item r q e =
    let a = same_item r.item q.item (ap (λ (x : Shown). x.item) e) in
    let b : r.next ≡ q.next = ap (λ (x : Shown). x.next) e in
    λ i. record { item = a i; next = b i }

pub same_standing : (r q : found.Option FoundItem) → view_standing r ≡ view_standing q → r ≡ q
same_standing = same_option view_found_item same_found_item
