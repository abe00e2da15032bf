-- T38. "Cases 1 to 9 and 12 are proved together as a single table over the written rules": what the rules answer to each row's question is
-- the answer beside it.
-- Assumes nothing.
use mathlib.Core.Path.{◌≡◌, refl}
use mathlib.Core.List.{map}
use Rattle.follower.specs.Follow.{numbered, follow}
use Rattle.follower.specs.Sender.{answers}
use Rattle.format.specs.Words.{words, bytes, non_zero, all_zero}
use Rattle.format.specs.Prefix.{find}
use Rattle.format.specs.Book.{class_of}
use Rattle.format.specs.Items.{words_of, decode, token_of, tokens}
use Rattle.format.specs.Rules.{since, count, total, gather, above, check}
use Rattle.format.specs.Frames.{earlier_then, head_fault, front, walk, judged, verdict}
use Rattle.format.specs.Questions.{nth, item_at, shown_at, events, pick_nth, event_at, until, past, cleared, fill_samples, fill_counts, channel_in, samples_at, counts_at}
use Rattle.format.specs.Table.{Row, ask, table}

pub figures : map (λ (r : Row). ask r.asked) table ≡ map (λ (r : Row). r.answer) table
unfolding bytes words non_zero all_zero find class_of words_of decode token_of tokens since count total gather above check earlier_then head_fault front walk judged verdict nth item_at shown_at events pick_nth event_at until past cleared fill_samples fill_counts channel_in samples_at counts_at numbered follow answers
figures = refl
