-- What a refusal asks of the caller: 1 and 2 wait for bytes, 7 wants room, and the others are final. Two theorems of
-- the crate `promises` back this: more bytes do not change an answer that does not wait, and more room does not change
-- one that does not want room.
use Rattle.error.specs.declared.Refusal.{Refusal}
use Rattle.error.specs.declared.Refusal.TheVariants.{NothingLeft, CutShort, NotSync, Reserved, BadNumber, HeaderSum, NoRoom, NotDone, BadShape, FrameSum, BadArgument, SampleRange, OutputRoom}
use Rattle.error.specs.declared.Need.{Need}
use Rattle.error.specs.declared.Need.TheVariants.{Wait, Room, Final}

abbrev pub needs_of : Refusal → Need
needs_of NothingLeft = Wait
needs_of CutShort = Wait
needs_of NotSync = Final
needs_of Reserved = Final
needs_of BadNumber = Final
needs_of HeaderSum = Final
needs_of NoRoom = Room
needs_of NotDone = Final
needs_of BadShape = Final
needs_of FrameSum = Final
needs_of BadArgument = Final
needs_of SampleRange = Final
needs_of OutputRoom = Final
