-- `all_fit` meets its contract: the library's `all`, in the definition's words. Assumes nothing.
use borrow.Author.Rules.{rules}
use borrow.Author.Tests.{tests}
use mathlib.Core.Path.{◌∙◌}
use Rattle.std.proofs.lemmas.Iterator.{YieldsList-from_slice}
use Rattle.std.proofs.lemmas.Iterator.Search.{all_from_yields_List}
use Rattle.rfc9639.specs.Write.{fits}
use Rattle.frame_writer.proofs.SampleFit.{all-fits}
use Rattle.frame_writer.proofs.fitting.all_fit.Goals as goal

pub returns : goal.returns
returns c =
    all_from_yields_List (fits c.args.bits) _ _ c.all.result c.all.ensures.ran (YieldsList-from_slice c.args.samples.now cc) (λ x b q k. search (rules, tests))
    ∙ all-fits c.args.bits c.args.samples.now
