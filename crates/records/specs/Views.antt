-- What the answers of this crate say in the documents.
-- Assumes nothing.
use Rattle.std.specs.Prelude.{ℕ, List, [], ◌∷◌, Result, ⊤}
use Rattle.std.specs.Prelude as answer
use Rattle.std.proofs.Math.Option.{Option}
use Rattle.format.specs.Answers.{Outcome, accepted, Done, need, and_then}
use Rattle.format.specs.Spots as spots
use Rattle.book.specs.declared.refusal.Refusal.{Refusal}
use Rattle.book.specs.Views.{view_option, view_result}
use Rattle.ledger.specs.Formats as formats
use Rattle.ledger.specs.Calls.{Summary}
use Rattle.ledger.specs.Judged as judged
use Rattle.ledger.specs.Records.{length_in, count_in, total_in, frame_in, header_right, entries_to, history_verdict}
use Rattle.ledger.specs.PlaneFrames.{plane_frames}
use Rattle.records.specs.declared.answers.Header.{Header}
use Rattle.records.specs.declared.answers.SpotKind.{SpotKind}
use Rattle.records.specs.declared.answers.SpotKind.TheVariants as kind
use Rattle.records.specs.declared.answers.Spot.{Spot}
use Rattle.records.specs.declared.answers.Record.{Record}
use Rattle.records.specs.declared.answers.Judged.{Judged}
use Rattle.records.specs.declared.answers.Stamp.{Stamp}
use Rattle.records.specs.declared.answers.Entry.{Entry}

abbrev pub view_header : Header → spots.Header
view_header h = record { card = h.card; chip = h.chip; channel = h.channel }

-- a kind's number in an entry
abbrev pub view_spot_kind : SpotKind → ℕ
view_spot_kind kind.Sample = 1
view_spot_kind kind.Bin = 2

abbrev pub view_found_spot : Spot → spots.Spot
view_found_spot p = record { kind = view_spot_kind p.kind; value = p.value; header = view_header p.header }

abbrev pub view_spot : answer.Option Spot → Option spots.Spot
view_spot = view_option view_found_spot

abbrev pub summary_of : Record → Summary
summary_of r = record { length = r.length; count = r.count; total = r.total }

abbrev pub view_record : Result Record Refusal → Outcome Summary
view_record = view_result summary_of

abbrev pub judged_of : Judged → judged.Judged
judged_of x = record { length = x.«record».length; count = x.«record».count; total = x.«record».total; spot = view_spot x.spot }

abbrev pub view_judged : Result Judged Refusal → Outcome judged.Judged
view_judged = view_result judged_of

-- after the reason stands nothing, or a time and a desk
abbrev pub view_stamp : answer.Option Stamp → List ℕ
view_stamp answer.None = []
view_stamp (answer.Some x) = x.time ∷ x.desk ∷ []

abbrev pub as_entry : Entry → formats.Entry
as_entry e = record { word = e.word; kind = e.kind; old = e.old; new = e.new; operator = e.operator; reason = e.reason; extra = view_stamp e.stamp }

abbrev pub view_entry : Result Entry Refusal → Outcome formats.Entry
view_entry = view_result as_entry

-- whether each entry fits, or the refusal with the number of the newest that does not
abbrev pub unfit : Result ⊤ Refusal → Done
unfit = view_result (λ u. u)

-- what the header and the frame of a record tell, with no entry tested
unfoldable pub framed_answer : formats.Format → List ℕ → Outcome Summary
framed_answer F b =
    and_then (need (header_right F b) 20 0)
    (λ u. and_then (plane_frames.judge (frame_in b)) (λ v. accepted (record { length = length_in b; count = count_in b; total = total_in F b })))

-- what is told of a record of a format, with these lengths and this count, whose header and frame f are right
unfoldable pub history_judged : formats.Format → List ℕ → List ℕ → Summary → ℕ → Outcome judged.Judged
history_judged F f b x w =
    and_then (history_verdict plane_frames F f (entries_to F b x.count))
    (λ u. accepted (record { length = x.length; count = x.count; total = x.total; spot = plane_frames.spot f w }))
