-- The number of each refusal: what the definition's `stop` and a report carry.
use Rattle.std.specs.Prelude.{ℕ, eqb, if◌then◌else◌}
use Rattle.reading.specs.Places.{At, refused_at, short_at}
use Rattle.error.specs.declared.Refusal.{Refusal}
use Rattle.error.specs.declared.Refusal.TheVariants.{NothingLeft, CutShort, NotSync, Reserved, BadNumber, HeaderSum, NoRoom, NotDone, BadShape, FrameSum, BadArgument, SampleRange, OutputRoom}

abbrev pub number_of : Refusal → ℕ
number_of NothingLeft = 1
number_of CutShort = 2
number_of NotSync = 3
number_of Reserved = 4
number_of BadNumber = 5
number_of HeaderSum = 6
number_of NoRoom = 7
number_of NotDone = 8
number_of BadShape = 9
number_of FrameSum = 10
number_of BadArgument = 11
number_of SampleRange = 12
number_of OutputRoom = 13

-- A refusal in the definition's words, which have no number for an input that is cut short.
abbrev pub refused_by : {A : Type 0} → Refusal → At A
refused_by e = if eqb (number_of e) 2 then short_at else refused_at (number_of e)
