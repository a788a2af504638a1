-- The header after its first four bytes, as the definition reads it. Each part is whole bytes. Assumes nothing.
use Prim.Native.Nat.{ℕ}
use mathlib.Core.List.{List}
use mathlib.Core.Path.{◌≡◌, ap, sym, ◌∙◌}
use Rattle.reading.specs.declared.Place.{Place}
use Rattle.reading.specs.Readers.{bits}
use Rattle.reading.specs.Places.{At, run_at}
use Rattle.reading.proofs.ByteRuns.{in_inside, stays_in, bind_got_lem}
use Rattle.error.proofs.Refusals.{bind_refusal}
use Rattle.input.specs.Answers.{low64}
use Rattle.input.proofs.Callers.{read_exact}
use Rattle.rfc9639.specs.HeaderCodes.{block_size, rate_bits, sample_rate}
use Rattle.rfc9639.specs.Header.{block_time, header_sum, header_after_codes}
use native.Mathlib.Omega.{arith}
use Rattle.header.proofs.ReaderSteps.{exits_by, then_done}
use Rattle.header.proofs.ByteAlignment.{moves_at, time_whole, size-whole, rate-whole}
use Rattle.header.proofs.HeaderParts.{rate-few, stored-few}
use Rattle.header.proofs.read_header_after_codes.Goals as goal

pub returns-in_err-time : goal.returns-in_err-time
unfolding header_after_codes
returns-in_err-time c = exits_by _ _ c.from_residual.ensures.1 (bind_refusal (block_time _) _ _ _ _ (sym c.in_err-time.ensures))

pub returns-in_err-size : goal.returns-in_err-size
unfolding header_after_codes
returns-in_err-size c =
    exits_by _ _ c.from_residual-in_err-size.ensures.1
    (bind_got_lem (block_time _) _ _ _ (sym c.in_ok-time.ensures) ∙ bind_refusal (block_size _) _ _ _ _ (sym c.in_err-size.ensures))

pub read_stored-requires : goal.read_stored-requires
read_stored-requires c = in_inside _ _ (stays_in (block_size _) _ _ (sym c.in_ok-size.ensures))

-- a code's stored bits, which are few enough for one number
rate_read : (code : ℕ) (s : List ℕ) (at : Place) {n : ℕ} {x : At ℕ} → n ≡ rate_bits code → x ≡ low64 (run_at (bits n) s at) → run_at (bits (rate_bits code)) s at ≡ x
rate_read code s at e f = rw (← e) (sym (read_exact _ s at (omega (arith, e, rate-few code)) f))

pub returns-in_err-stored : goal.returns-in_err-stored
unfolding header_after_codes
returns-in_err-stored c =
    exits_by _ _ c.from_residual-in_err-stored.ensures.1
    (bind_got_lem (block_time _) _ _ _ (sym c.in_ok-time.ensures) ∙ bind_got_lem (block_size _) _ _ _ (sym c.in_ok-size.ensures)
    ∙ bind_refusal (bits _) _ _ _ _ (rate_read _ _ _ c.rate_bits.ensures c.in_err-stored.ensures))

-- each part ended at the start of a byte
pub check_header_sum-requires : goal.check_header_sum-requires
check_header_sum-requires c =
    let time_byte = moves_at _ _ _ (time_whole _) c.requires.0 (sym c.in_ok-time.ensures) in
    let size_byte = moves_at _ _ _ (size-whole _) time_byte (sym c.in_ok-size.ensures) in
    moves_at _ _ _ (rate-whole _) size_byte (rate_read _ _ _ c.rate_bits.ensures c.in_ok-stored.ensures)

pub returns-in_err-end : goal.returns-in_err-end
unfolding header_after_codes
returns-in_err-end c =
    exits_by _ _ c.from_residual-in_err-end.ensures.1
    (bind_got_lem (block_time _) _ _ _ (sym c.in_ok-time.ensures) ∙ bind_got_lem (block_size _) _ _ _ (sym c.in_ok-size.ensures)
    ∙ bind_got_lem (bits _) _ _ _ (rate_read _ _ _ c.rate_bits.ensures c.in_ok-stored.ensures)
    ∙ bind_refusal header_sum _ _ _ _ (sym c.in_err-end.ensures))

pub returns : goal.returns
unfolding header_after_codes
returns c =
    let r = rate_read _ _ _ c.rate_bits.ensures c.in_ok-stored.ensures in
    rw (c.sample_rate.ensures ∙ ap (sample_rate c.args.c.rate) (stored-few _ _ _ r))
    (sym
    (bind_got_lem (block_time _) _ _ _ (sym c.in_ok-time.ensures) ∙ bind_got_lem (block_size _) _ _ _ (sym c.in_ok-size.ensures)
    ∙ bind_got_lem (bits _) _ _ _ r ∙ then_done header_sum _ _ _ (sym c.in_ok-end.ensures)))
