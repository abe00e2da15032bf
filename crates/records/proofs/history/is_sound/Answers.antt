-- `records::history::is_sound` meets its contract.
-- Assumes nothing.
use Rattle.records.specs.Views.{as_entry}
use Rattle.records.proofs.UndoLaws.{unchanged_sound, unsigned_sound, kept_sound}
use Rattle.records.proofs.history.is_sound.Goals as goal

pub returns-then-e : goal.returns-then-e
returns-then-e c = unchanged_sound _ (as_entry c.args.e) c.if-e.true

pub returns-then-not-signed : goal.returns-then-not-signed
returns-then-not-signed c =
    unsigned_sound _ (as_entry c.args.e) _ c.signed.ensures c.if-not-signed.true

pub returns : goal.returns
returns c =
    kept_sound _ (as_entry c.args.e) c.if-e.false _ c.signed.ensures c.if-not-signed.false _ c.stamp_fits.ensures
