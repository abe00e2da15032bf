-- Of some bytes: that they are an accepted frame of a kind, as an equation of numbers.
-- Assumes nothing.
use Rattle.std.specs.Prelude.{ℕ}
use Rattle.format.specs.Answers.{Outcome, accepted, refused}
use Rattle.format.specs.Rules.{Kind, data_kind, monitor_kind, command_kind}
use Rattle.format.specs.Frames.{Frame}

abbrev pub kind_number : Kind → ℕ
kind_number data_kind = 1
kind_number monitor_kind = 2
kind_number command_kind = 3

-- the number of the kind of a frame, 0 where there is none
abbrev pub number_read : Outcome Frame → ℕ
number_read (accepted f) = kind_number f.kind
number_read (refused n p) = 0
