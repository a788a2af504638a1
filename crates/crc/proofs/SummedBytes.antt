-- The loops' invariant, for any width and polynomial: the bytes before i are summed. Assumes nothing.
use Prim.Native.Nat.{ℕ, ◌+◌, ◌-◌, ◌≤◌, ◌<◌}
use native.Mathlib.Omega.{arith}
use mathlib.Core.Path.{◌≡◌, refl, ap, sym, ◌∙◌}
use mathlib.Core.List.{List, [], ◌++◌}
use lib.ListN.{length, get_or, take, drop}
use lib.Seq.{take-add, take_all, drop-cons, get_or-take}
use Rattle.std.proofs.lemmas.List.{get_or-drop}
use Rattle.reading.specs.Bytes.{bits_of_byte, bits_of_bytes}
use Rattle.reading.proofs.BytePrefixes.{bits_of_bytes_append}
use Rattle.rfc9639.specs.CheckSums.{crc_bits}
use Rattle.crc.proofs.CrcLinearity.{crc_append, crc_cons}

pub record Summed (w poly : ℕ) (s : List ℕ) (sum i : ℕ) : Type 0 where
  pub within : i ≤ length s
  pub is : sum ≡ crc_bits w poly 0 (bits_of_bytes (take i s))

-- the bytes from i on
pub rest_at : (s : List ℕ) (i k : ℕ) → i + k < length s → get_or (take (length s - i) (drop i s)) k 0 ≡ get_or s (i + k) 0
rest_at s i k h = get_or-take (length s - i) (drop i s) k 0 (omega arith) ∙ get_or-drop i s k 0

module _ (w poly : ℕ) (s : List ℕ) where
  pub begin : Summed w poly s 0 0
  unfolding crc_bits bits_of_bytes
  begin = record { within = omega arith; is = refl }

  more : (r : ℕ) (s t : List ℕ) → crc_bits w poly r (bits_of_bytes (s ++ t)) ≡ crc_bits w poly (crc_bits w poly r (bits_of_bytes s)) (bits_of_bytes t)
  more r s t = ap (crc_bits w poly r) (bits_of_bytes_append s t) ∙ crc_append w poly r (bits_of_bytes s) (bits_of_bytes t)

  module _ (sum i : ℕ) (m : Summed w poly s sum i) where
    pub steps : (next n j : ℕ) → j ≡ i + n → j ≤ length s → next ≡ crc_bits w poly sum (bits_of_bytes (take n (drop i s))) → Summed w poly s next j
    steps next n j f h e = record {
      within = h;
      is =
          e ∙ ap (λ (r : ℕ). crc_bits w poly r (bits_of_bytes (take n (drop i s)))) m.is ∙ sym (more 0 (take i s) (take n (drop i s)))
          ∙ sym (ap (λ (t : List ℕ). crc_bits w poly 0 (bits_of_bytes t)) (ap (λ k. take k s) f ∙ take-add i n s));
    }

    pub step : (next j : ℕ) → j ≡ i + 1 → i < length s → next ≡ crc_bits w poly sum (bits_of_byte (get_or s i 0)) → Summed w poly s next j
    unfolding crc_bits bits_of_bytes
    step next j f h e =
        steps next 1 j f (omega arith)
        (e ∙ sym (crc_cons w poly sum (get_or s i 0) []) ∙ sym (ap (λ (l : List ℕ). crc_bits w poly sum (bits_of_bytes (take 1 l))) (drop-cons s i 0 h)))

    pub end : length s ≤ i → sum ≡ crc_bits w poly 0 (bits_of_bytes s)
    end h = m.is ∙ ap (λ (t : List ℕ). crc_bits w poly 0 (bits_of_bytes t)) (take_all i s h)
