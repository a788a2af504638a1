-- The sync bits and the blocking bit, as the definition reads them. Assumes nothing.
use borrow.Author.Tests.{eq-eqb, ne_eqb}
use mathlib.Core.Path.{refl, sym}
use Rattle.reading.specs.Readers.{bits}
use Rattle.error.proofs.Refusals.{bind_refusal}
use Rattle.rfc9639.specs.Header.{sync}
use Rattle.header.proofs.ReaderSteps.{bits_read, exits_by, check_fails, check_done}
use Rattle.header.proofs.read_sync.Goals as goal

pub returns-in_err-v : goal.returns-in_err-v
unfolding sync
returns-in_err-v c = exits_by _ _ c.from_residual.ensures.1 (bind_refusal (bits 16) _ _ _ _ (bits_read 16 _ _ refl c.in_err-v.ensures))

pub returns-then-v-ne-SYNC_CODE : goal.returns-then-v-ne-SYNC_CODE
unfolding sync
returns-then-v-ne-SYNC_CODE c = sym (check_fails (bits 16) _ _ _ 3 (bits_read 16 _ _ refl c.in_ok-v.ensures) _ (ne_eqb _ _ c.if-v-ne-SYNC_CODE.true))

pub returns : goal.returns
unfolding sync
returns c = sym (check_done (bits 16) _ _ _ 3 (bits_read 16 _ _ refl c.in_ok-v.ensures) _ (eq-eqb _ _ c.if-v-ne-SYNC_CODE.false))
