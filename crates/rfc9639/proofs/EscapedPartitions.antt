-- An escaped partition of width 0: its residuals are zeros and take no bits (RFC 9639 section 9.2.7.1). Assumes nothing.
use Prim.Native.Nat.{ℕ, zero, suc}
use mathlib.Core.Path.{◌≡◌, ◌∙◌}
use mathlib.Core.List.{List, []}
use lib.IntN.{pos}
use lib.ListN.{replicate}
use Rattle.reading.specs.declared.Place.{Place}
use Rattle.reading.specs.Readers.{◌>>=◌, bits, many, bits_from, reply, follow, run}
use Rattle.reading.specs.Places.{got_at, run_at}
use Rattle.reading.proofs.ByteRuns.{In, stays_in, run_at-done, bind_got_lem}
use Rattle.rfc9639.specs.Integers.{signed, signed_bits}
use Rattle.rfc9639.specs.Residual.{escaped}

module _ {s : List ℕ} {at : Place} (h : In s at) where
  zero_bits : run_at (signed_bits 0) s at ≡ got_at (pos 0) at
  unfolding signed_bits signed ◌>>=◌ bits bits_from reply follow run run_at
  zero_bits = run_at-done (pos 0) h

  zero_width : (n : ℕ) → run_at (many n (signed_bits 0)) s at ≡ got_at (replicate n (pos 0)) at
  unfolding many
  zero_width zero = run_at-done [] h
  zero_width (suc n) = bind_got_lem (signed_bits 0) s at _ zero_bits ∙ bind_got_lem (many n (signed_bits 0)) s at _ (zero_width n) ∙ run_at-done _ h

-- n zeros, and the place is right after the width
pub escaped-zeros : (n : ℕ) (s : List ℕ) (at : Place) {p : Place} → run_at (bits 5) s at ≡ got_at 0 p
    → run_at (escaped n) s at ≡ got_at (replicate n (pos 0)) p
unfolding escaped
escaped-zeros n s at e = bind_got_lem (bits 5) s at (λ w. many n (signed_bits w)) e ∙ zero_width (stays_in (bits 5) s at e) n
