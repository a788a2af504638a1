-- What a source means: which of the lent samples a subframe stores.
use Rattle.std.specs.Prelude.{List, ℤ}
use Rattle.rfc9639.specs.Write.{stored}
use Rattle.subframe_samples.specs.declared.Source.{Source}

-- what a subframe stores, of samples that stand channel after channel
abbrev pub stored_by : Source → List ℤ
stored_by source = stored source.size source.samples.now source.lane
