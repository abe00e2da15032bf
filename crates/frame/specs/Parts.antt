-- Where the part lies that the text question gives: in the caller's own frame, right after the text's word.
-- Assumes nothing.
use Rattle.std.specs.Prelude.{ℕ, ◌+◌, ◌*◌, ◌-◌, List, length}
use Rattle.format.specs.Answers.{Outcome, accepted, refused}
use Rattle.format.specs.Items.{ItemOf, Item, Channel, Histogram, HitCount, Sample, Bin, LastCell, TimeBin, Text, StartEvent, ContinueEvent, EndEvent, words_of}
use Rattle.format.specs.Questions.{IndexedItem, item_at}

-- the n of a text as it is answered, 0 for another class
abbrev pub text_count : ItemOf ℕ → ℕ
text_count (Channel a b c) = 0
text_count (Histogram a b c) = 0
text_count (HitCount a b c) = 0
text_count (Sample v) = 0
text_count (Bin b n) = 0
text_count (LastCell a b) = 0
text_count (TimeBin t) = 0
text_count (Text n) = n
text_count (StartEvent t ts n) = 0
text_count (ContinueEvent n) = 0
text_count (EndEvent n) = 0

-- the byte at which the bytes of an item that ends before word `next` begin where it is a text; 0 for another class
abbrev pub from_in : Item → ℕ → ℕ
from_in (Channel a b c) next = 0
from_in (Histogram a b c) next = 0
from_in (HitCount a b c) next = 0
from_in (Sample v) next = 0
from_in (Bin b n) next = 0
from_in (LastCell a b) next = 0
from_in (TimeBin t) next = 0
from_in (Text s) next = 2 * (next - length (words_of (Text s))) + 2
from_in (StartEvent t ts n) next = 0
from_in (ContinueEvent n) next = 0
from_in (EndEvent n) next = 0

abbrev pub from_found : Outcome IndexedItem → ℕ
from_found (accepted r) = from_in r.item r.next
from_found (refused n p) = 0

-- the byte of the frame at which the text of item n begins; 0 where there is none
unfoldable pub text_from : List ℕ → ℕ → ℕ
text_from s n = from_found (item_at s n)

-- the place so many bytes into a slice, where a place is a block of memory and an offset in it
abbrev pub part_from : ℕ × ℕ → ℕ → ℕ × ℕ
part_from p n = (p.0, n + p.1)
