-- `decode_constant`: one sample is read and fills the slice. Assumes nothing.
use mathlib.Core.Path.{ap, ◌∙◌}
use borrow.Author.Rules.{rules}
use lib.ListN.{length, replicate}
use mir.Syntax.{w32}
use mir.Val.{SFits}
use mir.Facts.{to_z-of_z}
use Rattle.subframe.proofs.DecodedSubframes.{constant-refused, constant-done}
use Rattle.subframe.proofs.decode_constant.Goals as goal

pub returns-in_err-x : goal.returns-in_err-x
returns-in_err-x c = constant-refused c.args.width (length c.args.out.now) c.args.s.now c.args.at _ _ c.from_residual.ensures.1 c.in_err-x.ensures _

pub returns : goal.returns
returns c =
    let f : SFits w32 c.in_ok-x.x = search rules in
    constant-done c.args.width (length c.args.out.now) c.args.s.now c.args.at c.in_ok-x.ensures
    (c.fill.ensures ∙ ap (replicate (length c.args.out.now)) (to_z-of_z f))
