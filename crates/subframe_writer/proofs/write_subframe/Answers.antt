-- `write_subframe` meets its contract, way by way. Assumes nothing.
use native.Mathlib.Omega.{arith}
use mathlib.Core.Path.{sym}
use Rattle.subframe_samples.specs.Sources.{stored_by}
use Rattle.bit_writer.proofs.ConsecutiveWrites.{nothing_appended, appends_as}
use Rattle.subframe_writer.proofs.SubframePieces.{written_none, written_constant, written_verbatim, written_fixed}
use Rattle.subframe_writer.proofs.write_subframe.Goals as goal

pub returns-then-width-gt64 : goal.returns-then-width-gt64
returns-then-width-gt64 c =
    appends_as (sym (written_none c.args.candidate c.args.width (stored_by c.args.source.now) c.if-width-gt64.true)) nothing_appended

pub returns-in-Constant : goal.returns-in-Constant
returns-in-Constant c =
    appends_as (written_constant c.args.candidate c.args.width (stored_by c.args.source.now) (omega arith) c.in-Constant.is)
    c.write_head_and_plain.ensures

pub returns-in-Verbatim : goal.returns-in-Verbatim
returns-in-Verbatim c =
    appends_as (written_verbatim c.args.candidate c.args.width (stored_by c.args.source.now) (omega arith) c.in-Verbatim.is c.len.ensures.0)
    c.write_head_and_plain-in-Verbatim.ensures

pub returns-in-Fixed : goal.returns-in-Fixed
returns-in-Fixed c =
    appends_as (written_fixed c.args.candidate c.args.width (stored_by c.args.source.now) (omega arith) c.in-Fixed.is) c.write_fixed.ensures
