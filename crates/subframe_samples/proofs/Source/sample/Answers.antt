-- `stored_sample` meets its contract: past the end the definition has its default. Assumes nothing.
use native.Mathlib.Omega.{arith}
use mathlib.Core.Path.{sym}
use lib.IntN.{pos}
use lib.ListN.{get_or-eq_default}
use Rattle.subframe_samples.specs.Sources.{stored_by}
use Rattle.subframe_samples.proofs.Source.sample.Goals as goal

pub returns-else-i-len : goal.returns-else-i-len
returns-else-i-len c =
    let a = c.args in
    sym (get_or-eq_default (stored_by a.self.now) (pos 0) (omega (arith, c.len.ensures.0)))
