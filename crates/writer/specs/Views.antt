-- What the writer's answers say in document 01, and what its inner steps are made of.
-- Assumes nothing.
use Rattle.std.specs.Prelude.{ℕ, ◌+◌, ◌/◌, ◌%◌, ◌≤◌, List, [], ◌∷◌, ◌++◌, Bool, ◌&&◌, leb, eqb, length, Result}
use Rattle.std.proofs.lemmas.List.Edits.{sets}
use Rattle.format.specs.Words.{pick, bytes, long_words}
use Rattle.format.specs.Answers.{Outcome, accepted, refused, leaves}
use Rattle.format.specs.Steps.{Stepped, moved, stopped}
use Rattle.format.specs.PartialSteps as steps
use Rattle.book.specs.Views.{view_result}
use Rattle.book.specs.Fields.{channel_word, histogram_word, hits_word, sample_word, bin_word, cell_word, time_bin_word, start_word}
use Rattle.book.specs.declared.items.Item.{Item}
use Rattle.book.specs.declared.items.Item.TheVariants as item
use Rattle.book.specs.declared.refusal.Refusal.{Refusal}
use Rattle.rules.specs.Views.{view_state}
use Rattle.writer.specs.declared.answers.Put.{Put}
use Rattle.writer.specs.declared.stores.Piece.{Piece}
use Rattle.writer.specs.declared.stores.Piece.TheVariants as piece

-- a new length
abbrev pub view_written : Result ℕ Refusal → Outcome ℕ
view_written = view_result (λ n. n)

-- a new length and the state behind the item
abbrev pub view_reached : Put → steps.Put
view_reached x = record { reached = x.length; state = view_state x.state }

abbrev pub view_put : Result Put Refusal → Outcome steps.Put
view_put = view_result view_reached

-- the words of a number, cut to its 48 bits
abbrev pub time_cut : ℕ → List ℕ
time_cut n = (n % 65536) ∷ (n / 65536 % 65536) ∷ (n / 4294967296 % 65536) ∷ []

abbrev pub piece_bytes : Piece → List ℕ
piece_bytes (piece.Word w) = bytes (w ∷ [])
piece_bytes (piece.Long w n) = bytes (w ∷ long_words n)
piece_bytes (piece.Event w t n) = bytes (w ∷ (time_cut t ++ long_words n))
piece_bytes piece.Nothing = []

-- the bytes of an item that is handed over, its fields cut to their widths; a text's are not in it
abbrev pub item_bytes : Item → List ℕ
item_bytes (item.Channel x) = bytes (channel_word x ∷ [])
item_bytes (item.Histogram x) = bytes (histogram_word x ∷ [])
item_bytes (item.HitCount x) = bytes (hits_word x ∷ [])
item_bytes (item.Sample x) = bytes (sample_word x ∷ [])
item_bytes (item.Bin x) = bytes (bin_word x ∷ long_words x.count)
item_bytes (item.LastCell x) = bytes (cell_word x ∷ [])
item_bytes (item.TimeBin x) = bytes (time_bin_word x ∷ [])
item_bytes (item.Text x) = []
item_bytes (item.StartEvent x) = bytes (start_word x ∷ (time_cut x.timestamp ++ long_words x.number))
item_bytes (item.ContinueEvent x) = bytes (0x0A00 ∷ long_words x.number)
item_bytes (item.EndEvent x) = bytes (0x00E0 ∷ long_words x.size)

-- what stands behind the letters of a text, n of them: the final zero, and a padding byte to fill its word
abbrev pub final_zero : ℕ → List ℕ
final_zero n = pick (eqb (n % 2) 0) (0 ∷ 0 ∷ []) (0 ∷ [])

unfoldable pub text_bytes : ℕ → List ℕ → List ℕ
text_bytes w s = bytes (w ∷ []) ++ (s ++ final_zero (length s))

-- a text as an item: its first word counts the final zero
abbrev pub lettered : List ℕ → List ℕ
lettered s = text_bytes (0x0100 + (length s + 1) % 256) s

abbrev pub Short : List ℕ → Type 0
Short s = length s ≤ 254

-- ---- an item of some bytes behind n bytes, by the turn that the rules took at it

abbrev pub room_in : ℕ → ℕ → ℕ → Bool
room_in room n size = leb (n + size + 2) room && leb (n + size + 2) 8192

unfoldable pub answered_by : ℕ → ℕ → ℕ → Stepped → Outcome steps.Put
answered_by room n size (moved st next) = pick (room_in room n size) (accepted (record { reached = n + size; state = st })) (refused 12 0)
answered_by room n size (stopped k) = refused k (n / 2)

abbrev pub placed : List ℕ → ℕ → List ℕ → Stepped → Outcome steps.Put
placed buf n bs o = answered_by (length buf) n (length bs) o

abbrev pub placed_left : List ℕ → ℕ → List ℕ → Stepped → List ℕ
placed_left buf n bs o = leaves (placed buf n bs o) buf (sets buf n bs)
