-- A frame's footer: its padding, then the stored sum at the start of a byte. Assumes nothing.
use Prim.Native.Nat.{ℕ, ◌-◌, ◌%◌}
use native.Mathlib.Omega.{arith}
use mathlib.Core.Path.{◌≡◌, ap, ◌∙◌}
use mathlib.Core.List.{List}
use lib.ListN.{length, take}
use Rattle.reading.specs.declared.Place.{Place}
use Rattle.reading.specs.Readers.{◌>>=◌, bits, passed}
use Rattle.reading.specs.Bytes.{bits_of_bytes}
use Rattle.reading.specs.Places.{position, got_at, run_at}
use Rattle.reading.proofs.ByteRuns.{In, bind_got_lem, stays_in, bits-end}
use Rattle.reading.proofs.BytePrefixes.{passed_at_lem, passed_length}
use Rattle.error.specs.declared.Refusal.{Refusal}
use Rattle.error.specs.Numbers.{refused_by}
use Rattle.error.proofs.Refusals.{bind_refusal}
use Rattle.rfc9639.specs.CheckSums.{crc16}
use Rattle.rfc9639.specs.Frame.{padding, footer}
use Rattle.header.proofs.StoredSum.{stored}

module _ (s : List ℕ) (at : Place) (h : In s at) where
  pads : padding (length (take (position at) (bits_of_bytes s))) ≡ (8 - at.bit) % 8
  unfolding padding
  pads = ap (λ n. (8 - n % 8) % 8) (passed_length s at h) ∙ omega (arith, h.bit)

  padding-first : run_at footer s at ≡ run_at (bits ((8 - at.bit) % 8) >>= (λ _. stored 16 crc16 10)) s at
  unfolding footer
  padding-first = bind_got_lem passed s at _ (passed_at_lem s at h) ∙ ap (λ n. run_at (bits n >>= (λ _. stored 16 crc16 10)) s at) pads

  pub no_padding : (x : Refusal) → run_at (bits ((8 - at.bit) % 8)) s at ≡ refused_by x → run_at footer s at ≡ refused_by x
  no_padding x e = padding-first ∙ bind_refusal (bits ((8 - at.bit) % 8)) s at _ x e

  module _ {w : ℕ} {p : Place} (e : run_at (bits ((8 - at.bit) % 8)) s at ≡ got_at w p) where
    pub padded_in : In s p
    padded_in = stays_in (bits ((8 - at.bit) % 8)) s at e

    pub padded_byte : p.bit ≡ 0
    padded_byte = omega (arith, h.bit, padded_in.bit, bits-end ((8 - at.bit) % 8) s at e)

    pub sum-next : run_at footer s at ≡ run_at (stored 16 crc16 10) s p
    sum-next = padding-first ∙ bind_got_lem (bits ((8 - at.bit) % 8)) s at _ e
