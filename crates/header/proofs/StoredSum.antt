-- A stored check sum at the start of a byte: what the definition makes of the bits that were read. Assumes nothing.
use Prim.Native.Nat.{ℕ}
use mathlib.Core.Path.{◌≡◌, ap, sym, ◌∙◌}
use mathlib.Core.List.{List}
use borrow.Author.Tests.{eq-eqb, ne_eqb}
use lib.Dec.{eqb}
use lib.ListN.{take}
use Rattle.reading.specs.declared.Place.{Place}
use Rattle.reading.specs.Readers.{Ask, ◌>>=◌, bits, passed, require}
use Rattle.reading.specs.Bytes.{bits_of_bytes}
use Rattle.reading.specs.Places.{got_at, refused_at, run_at}
use Rattle.reading.proofs.ByteRuns.{In, stays_in, run_at-done, run_at-stop, bind_got_lem}
use Rattle.reading.proofs.BytePrefixes.{passed-bytes}
use Rattle.error.specs.declared.Refusal.{Refusal}
use Rattle.error.specs.Numbers.{refused_by}
use Rattle.error.proofs.Refusals.{bind_refusal}

-- a sum of `width` bits over all that was read before it; n is the refusal of another sum
abbrev pub stored : ℕ → (List ℕ → ℕ) → ℕ → Ask (Unit {0})
stored width crc n = passed >>= (λ before. bits width >>= (λ sum. require (eqb sum (crc before)) n))

module _ (width : ℕ) (crc : List ℕ → ℕ) (n : ℕ) (s : List ℕ) (at : Place) (h : In s at) (f : at.bit ≡ 0) where
  bytes-passed : run_at (stored width crc n) s at ≡ run_at (bits width >>= (λ sum. require (eqb sum (crc (bits_of_bytes (take at.byte s)))) n)) s at
  bytes-passed = bind_got_lem passed s at _ (passed-bytes s at f h)

  pub no_sum : (x : Refusal) → run_at (bits width) s at ≡ refused_by x → run_at (stored width crc n) s at ≡ refused_by x
  no_sum x e = bytes-passed ∙ bind_refusal (bits width) s at _ x e

  module _ {v sum : ℕ} {q : Place} (e : run_at (bits width) s at ≡ got_at v q) (g : sum ≡ crc (bits_of_bytes (take at.byte s))) where
    sum_judged : run_at (stored width crc n) s at ≡ run_at (require (eqb v sum) n) s q
    sum_judged = bytes-passed ∙ bind_got_lem (bits width) s at _ e ∙ ap (λ x. run_at (require (eqb v x) n) s q) (sym g)

    pub sum_differs : (v ≡ sum → ⊥) → run_at (stored width crc n) s at ≡ refused_at n
    unfolding require
    sum_differs d = sum_judged ∙ rw (ne_eqb v sum d) (run_at-stop n (stays_in (bits width) s at e))

    pub sum_fits : v ≡ sum → run_at (stored width crc n) s at ≡ got_at tt q
    unfolding require
    sum_fits d = sum_judged ∙ rw (eq-eqb v sum d) (run_at-done tt (stays_in (bits width) s at e))
