-- `writer::stores::put_letters` meets its contract.
-- Assumes nothing.
use native.Mathlib.Omega.{arith}
use Rattle.writer.proofs.StoreTurns.{text_length, text_stored}
use Rattle.writer.proofs.stores.put_letters.Goals as goal

pub overflow_add-to : goal.overflow_add-to
overflow_add-to c =
    let l = text_length c.args.w c.args.letters.now in
    let p = c.requires in
    omega (arith, l, p)

pub put_word-requires : goal.put_word-requires
put_word-requires c =
    let l = text_length c.args.w c.args.letters.now in
    let p = c.requires in
    omega (arith, l, p)

pub put_bytes-requires : goal.put_bytes-requires
put_bytes-requires c =
    let l = text_length c.args.w c.args.letters.now in
    let p = c.requires in
    omega (arith, l, p)

pub put_zero-requires : goal.put_zero-requires
put_zero-requires c =
    let l = text_length c.args.w c.args.letters.now in
    let p = c.requires in
    omega (arith, l, p)

pub returns : goal.returns
returns c =
    text_stored _ _ _ _ _ _ _ c.put_word.ensures c.put_bytes.ensures c.put_zero.ensures
