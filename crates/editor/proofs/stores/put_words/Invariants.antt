use mathlib.Core.Path.{◌≡◌}
use lib.ListN.{length}
use lib.Seq.{sets}
use Rattle.format.specs.Words.{bytes}
use Rattle.format.proofs.items.StoringLaws.{Left}
use Rattle.editor.proofs.stores.put_words.Given as goal

abbrev pub invariant-loop-i : goal.invariant-loop-i
invariant-loop-i l = (length l.buf ≡ length l.initial.buf) × Left l.at l.ws l.buf l.i (sets l.initial.buf l.at (bytes l.ws))
