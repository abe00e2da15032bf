-- The lines of the first j entries stand, the next line goes behind them, and the next entry begins at `from`.
use Prim.Native.Nat.{◌+◌, ◌*◌}
use mathlib.Core.Path.{◌≡◌}
use Rattle.ledger.specs.Formats.{size}
use Rattle.ledger.specs.Records.{length_in}
use Rattle.ledger.specs.Versions.{format_for}
use Rattle.listing.specs.Listing.{entry_lines}
use Rattle.listing.specs.Writes.{Put}
use Rattle.listing.proofs.pieces.Lines.entry_lines.Given as goal

abbrev pub invariant-loop-j : goal.invariant-loop-j
invariant-loop-j l = record {
  begins : l.from ≡ 16 + length_in l.buf + size (format_for l.version) * l.j;
  stands : Put (180 * l.j) l.initial.self.bytes l.initial.self.at (entry_lines l.buf l.j) l.self.bytes l.self.at;
}
