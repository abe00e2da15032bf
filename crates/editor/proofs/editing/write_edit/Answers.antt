-- `editor::editing::write_edit` meets its contract.
-- Assumes nothing.
use native.Mathlib.Omega.{arith}
use Rattle.editor.proofs.KnownLaws.{inside, short}
use Rattle.editor.proofs.EditLaws.{sum_two, few_two, value_length, word_fits, signer_fits, one_more, entry_room, written}
use Rattle.editor.proofs.editing.write_edit.Goals as goal

pub slice_bounds-put_value-end : goal.slice_bounds-put_value-end
slice_bounds-put_value-end c =
    let k = c.requires.known in
    omega (arith, inside _ _ _ k, sum_two _ _ k)

pub overflow_cast-count : goal.overflow_cast-count
overflow_cast-count c = omega (arith, one_more _ _ _ _ _ c.requires)

pub overflow_add-total : goal.overflow_add-total
overflow_add-total c =
    omega (arith, entry_room _ _ _ _ _ c.requires)

pub overflow_cast-total : goal.overflow_cast-total
overflow_cast-total c =
    let k = c.requires.known in
    omega (arith, sum_two _ _ k, few_two _ _ k, short _ _ _ k (λ i. (c.slice_known-1.given i).fits))

pub put_words-requires : goal.put_words-requires
put_words-requires c =
    omega (arith, value_length _ _ _ _ _ c.requires _ _ _ _ c.put_value.ensures, entry_room _ _ _ _ _ c.requires, sum_two _ _ c.requires.known)

pub overflow_cast-entry : goal.overflow_cast-entry
overflow_cast-entry c =
    omega (arith, word_fits _ _ _ _ _ c.requires (λ i. (c.slice_known-1.given i).fits))

pub overflow_cast-entry-2 : goal.overflow_cast-entry-2
overflow_cast-entry-2 c =
    omega (arith, (signer_fits _ _ _ _ _ c.requires).0)

pub overflow_cast-entry-3 : goal.overflow_cast-entry-3
overflow_cast-entry-3 c =
    omega (arith, (signer_fits _ _ _ _ _ c.requires).1)

pub returns : goal.returns
returns c =
    let e = rw c.numbered-number.ensures at c.put_value.ensures in
    let f = rw c.numbered-number.ensures at c.put_entry.ensures in
    written _ _ _ _ _ c.requires (λ i. (c.slice_known-1.given i).fits) _ e _ _ c.put_words.ensures f
