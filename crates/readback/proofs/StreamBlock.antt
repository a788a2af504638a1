-- A written frame in its stream: what the settings given for the stream mean for it. Assumes nothing.
use Prim.Native.Nat.{ℕ, ◌≤◌, ◌<◌}
use native.Mathlib.Omega.{arith}
use mathlib.Core.Path.{◌≡◌, refl, ap, ◌∙◌}
use mathlib.Core.Bool.{Bool, true, false, cond}
use borrow.Author.Tests.{eq-eqb, ne_eqb, le-leb, lt-leb}
use lib.Dec.{eqb}
use Rattle.std.specs.Prelude.{Option, Some, None}
use Rattle.reading.proofs.ByteRuns.{and_fst, and_snd}
use Rattle.rfc9639.specs.declared.BlockTime.{BlockTime}
use Rattle.rfc9639.specs.declared.BlockTime.TheVariants.{FrameNumber, SampleNumber}
use Rattle.rfc9639.specs.declared.FrameSetting.{FrameSetting}
use Rattle.rfc9639.specs.declared.Settings.{Settings}
use Rattle.rfc9639.specs.declared.StreamRecord.{StreamRecord}
use Rattle.rfc9639.specs.Header.{time_of}
use Rattle.rfc9639.specs.Stream.{in_range, bits_in_range, possible, rate_or, bits_or, completed, bits_fit, block_fits, first_sample}
use Rattle.demands.proofs.StreamSettings.{size-in_range}
use Rattle.readback.specs.FirstSample.{first_of_fixed, first_of}
use Rattle.readback.specs.StreamRate.{rate_of}
use Rattle.readback.specs.Readable.{not_below, readable}
use Rattle.readback.proofs.Header.{header_of}

-- the number that a frame carries, by whether its blocking is fixed
abbrev timed : Bool → ℕ → BlockTime
timed fixed n = cond fixed (FrameNumber n) (SampleNumber n)

pub first_is : (block : Option ℕ) (set : FrameSetting) → first_sample block (time_of set.blocking set.number) ≡ first_of block set
unfolding first_sample first_of first_of_fixed time_of
first_is block set = go block (eqb set.blocking 0)
  where
    go : (block : Option ℕ) (fixed : Bool) → first_sample block (timed fixed set.number) ≡ cond fixed (first_of_fixed block set) (Some set.number)
    go None true = refl
    go None false = refl
    go (Some size) true = refl
    go (Some size) false = refl

-- the reader's test of the block, of a written frame
fits_is : (block : Option ℕ) (set : FrameSetting)
    → block_fits block (time_of set.blocking set.number) set.size ≡ cond (eqb set.blocking 0) (not_below block set.size) true
unfolding block_fits not_below time_of
fits_is block set = go block (eqb set.blocking 0)
  where
    go : (block : Option ℕ) (fixed : Bool) → block_fits block (timed fixed set.number) set.size ≡ cond fixed (not_below block set.size) true
    go None true = refl
    go None false = refl
    go (Some size) true = refl
    go (Some size) false = refl

-- of what the writer leaves to the stream there is the rate alone
pub completed_is : (stream : Option StreamRecord) (set : FrameSetting) → 0 < set.bits → completed stream (header_of None set) ≡ header_of (rate_of stream) set
unfolding completed rate_of rate_or bits_or
completed_is None set some = refl
completed_is (Some r) set some = rw (ne_eqb set.bits 0 (omega arith)) refl

module _ (given : Settings) (set : FrameSetting) where
  module _ (can : readable given set ≡ true) where
    pub readable-possible : possible given ≡ true
    unfolding readable
    readable-possible = and_fst (possible given) _ can

    pub readable-bits : bits_fit given.stream set.bits ≡ true
    unfolding readable
    readable-bits = and_fst (bits_fit given.stream set.bits) _ (and_snd (possible given) _ can)

    pub readable-fits : block_fits given.block (time_of set.blocking set.number) set.size ≡ true
    unfolding readable
    readable-fits = fits_is given.block set ∙ and_snd (bits_fit given.stream set.bits) _ (and_snd (possible given) _ can)

  -- with fixed blocking, a size below the frame's
  pub smaller_unfit : set.blocking ≡ 0 → {size : ℕ} → given.block ≡ Some size → size < set.size
      → block_fits given.block (time_of set.blocking set.number) set.size ≡ false
  unfolding not_below
  smaller_unfit fixed {size} known less =
      fits_is given.block set
      ∙ ap (λ b. cond b (not_below given.block set.size) true) (eq-eqb set.blocking 0 fixed)
      ∙ ap (λ block. not_below block set.size) known
      ∙ lt-leb set.size size less

  -- ---- the settings that a frame is readable under

  -- a record that a stream can have, with the frame's bits
  pub record SameBits : Type 0 where
    pub range : bits_in_range given.stream ≡ true
    pub equal : bits_fit given.stream set.bits ≡ true

  pub no_record : given.stream ≡ None → SameBits
  unfolding bits_in_range bits_fit
  no_record none = record { range = ap bits_in_range none; equal = ap (λ x. bits_fit x set.bits) none }

  pub equal-bits : {rate : ℕ} → given.stream ≡ Some (record { bits = set.bits; rate = rate }) → 4 ≤ set.bits → set.bits ≤ 32 → SameBits
  unfolding bits_in_range bits_fit
  equal-bits {rate} known some few = record {
    range = ap bits_in_range known ∙ rw (le-leb 4 set.bits some, le-leb set.bits 32 few) refl;
    equal = ap (λ x. bits_fit x set.bits) known ∙ eq-eqb set.bits set.bits refl;
  }

  -- under such a record, or none
  module _ (same : SameBits) where
    readable_by : in_range given.block ≡ true → {fixed : Bool} → eqb set.blocking 0 ≡ fixed → cond fixed (not_below given.block set.size) true ≡ true
        → readable given set ≡ true
    unfolding readable possible
    readable_by can e fits = rw (can, same.range, same.equal, e) fits

    -- with variable blocking, all sizes that a stream can have
    pub variable_readable : set.blocking ≡ 1 → possible given ≡ true → readable given set ≡ true
    unfolding possible
    variable_readable variable can = readable_by (and_fst (in_range given.block) _ can) (ap (λ b. eqb b 0) variable) refl

    -- with fixed blocking, an unknown size, and every size from the frame's to the largest
    pub unknown-readable : set.blocking ≡ 0 → given.block ≡ None → readable given set ≡ true
    unfolding in_range not_below
    unknown-readable fixed unknown = readable_by (ap in_range unknown) (ap (λ b. eqb b 0) fixed) (ap (λ block. not_below block set.size) unknown)

    pub known-readable : set.blocking ≡ 0 → {size : ℕ} → given.block ≡ Some size → 0 < set.size → set.size ≤ size → size ≤ 65535
        → readable given set ≡ true
    unfolding not_below
    known-readable fixed {size} known some within few =
        readable_by (ap in_range known ∙ size-in_range (omega arith) few) (ap (λ b. eqb b 0) fixed)
        (ap (λ block. not_below block set.size) known ∙ le-leb set.size size within)
