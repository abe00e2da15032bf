-- Figures: the words that document 01 prints for the items of its cases 3 and 7, and a few more, written and read back; and words that are no
-- item's; the rows of the book. Computed: they show what the definitions say before any law does.
-- Assumes nothing.
use mathlib.Core.Path.{◌≡◌, refl}
use mathlib.Core.List.{[], ◌∷◌, map, flatten}
use Rattle.format.specs.Words.{words, bytes, non_zero, all_zero}
use Rattle.format.specs.Prefix.{find}
use Rattle.format.specs.Book.{Class, channel, histogram, hit_count, sample, bin, last_cell, time_bin, data_frame, monitor_frame, command_frame, text, start_event, continue_event, end_event, frame_end, unassigned, class_of, row_of, class_at}
use Rattle.format.specs.Items.{Item, words_of, decode, whole, broken, flawed, token_of, tokens}
use Rattle.format.specs.Figures.{tabled, figures, figure_words}

-- the rows, numbered in the table's order
pub rows_numbered : map row_of tabled ≡ 1 ∷ 2 ∷ 3 ∷ 4 ∷ 5 ∷ 6 ∷ 7 ∷ 8 ∷ 9 ∷ 10 ∷ 11 ∷ 12 ∷ 13 ∷ 14 ∷ 15 ∷ 0 ∷ []
rows_numbered = refl

-- the book has its rows in that order
pub row_stands : (c : Class) → class_at (row_of c) ≡ c
row_stands channel = refl
row_stands histogram = refl
row_stands hit_count = refl
row_stands sample = refl
row_stands bin = refl
row_stands last_cell = refl
row_stands time_bin = refl
row_stands data_frame = refl
row_stands monitor_frame = refl
row_stands command_frame = refl
row_stands text = refl
row_stands start_event = refl
row_stands end_event = refl
row_stands frame_end = refl
row_stands continue_event = refl
row_stands unassigned = refl

pub figures_written : flatten (map words_of figures) ≡ figure_words
unfolding words_of words flatten
figures_written = refl

pub figures_read : tokens 0 figure_words ≡ map (λ (x : Item). whole x) figures
unfolding tokens token_of decode class_of find bytes non_zero all_zero
figures_read = refl

-- words that are no item's, each list with what stands at its first word
pub figures_refused : map (tokens 0)
    -- an End event whose low four bits are not zero
    ((0x00E8 ∷ 0x001A ∷ 0x0000 ∷ [])
    -- texts: n is 0; byte n is not zero; an earlier byte is zero; a padding byte is not zero
    ∷ (0x0100 ∷ [])
    ∷ (0x0102 ∷ 0x4241 ∷ [])
    ∷ (0x0103 ∷ 0x4200 ∷ 0x0000 ∷ [])
    ∷ (0x0101 ∷ 0x4100 ∷ [])
    -- a frame start is a class and no item; an unassigned word; a Bin with one word after it
    ∷ (0x0805 ∷ [])
    ∷ (0x0001 ∷ [])
    ∷ (0x2100 ∷ 0x1170 ∷ []) ∷ [])
    ≡ (broken end_event ∷ []) ∷ (broken text ∷ []) ∷ (broken text ∷ []) ∷ (broken text ∷ []) ∷ (broken text ∷ [])
    ∷ (broken data_frame ∷ []) ∷ (flawed 6 ∷ []) ∷ (flawed 7 ∷ []) ∷ []
unfolding tokens token_of decode class_of find bytes non_zero all_zero
figures_refused = refl
