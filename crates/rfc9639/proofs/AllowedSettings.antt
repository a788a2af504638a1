-- Allowed settings: each fact that `allowed` tests. Assumes nothing.
use Prim.Native.Nat.{ℕ, ◌*◌, ◌≤◌, ◌<◌}
use native.Mathlib.Omega.{arith}
use mathlib.Core.Path.{◌≡◌, refl, sym, subst}
use mathlib.Core.Bool.{Bool, true, false, ◌&&◌, ◌||◌}
use borrow.Author.Tests.{ltb-true, leb-true, eqb-true}
use lib.Dec.{leb, ltb, eqb}
use Rattle.reading.specs.Readers.{done}
use Rattle.reading.proofs.ByteRuns.{and_fst, and_snd}
use Rattle.rfc9639.specs.declared.FrameSetting.{FrameSetting}
use Rattle.rfc9639.specs.HeaderCodes.{assignment, channel_count, bit_depth, bits_code}
use Rattle.rfc9639.specs.Write.{writable, number_limit, allowed}

-- a bit depth that the writer writes, and its code
pub record Depth (b : ℕ) : Type 0 where
  pub code : bits_code b < 8
  pub read : bit_depth (bits_code b) ≡ done b
  pub some : 8 ≤ b
  pub most : b ≤ 24

pub record Allowed (set : FrameSetting) (count : ℕ) : Type 0 where
  pub channels : set.channels ≤ 10
  pub depth : Depth set.bits
  pub blocking : set.blocking ≤ 1
  pub some : 0 < set.size
  pub most : set.size ≤ 65535
  pub number : set.number ≤ number_limit set.blocking
  pub samples : count ≡ channel_count (assignment set.channels) * set.size

either : {P : Type 0} (a b : Bool) → (a || b) ≡ true → (a ≡ true → P) → (b ≡ true → P) → P
either true b e f g = f refl
either false b e f g = g e

depth : (b : ℕ) → writable b ≡ true → Depth b
unfolding writable bits_code bit_depth
depth b h =
    either (eqb b 8 || eqb b 12 || eqb b 16 || eqb b 20) (eqb b 24) h
    (λ h. either (eqb b 8 || eqb b 12 || eqb b 16) (eqb b 20) h
    (λ h. either (eqb b 8 || eqb b 12) (eqb b 16) h
    (λ h. either (eqb b 8) (eqb b 12) h
    (λ e. at 8 e (record { code = omega arith; read = refl; some = omega arith; most = omega arith }))
    (λ e. at 12 e (record { code = omega arith; read = refl; some = omega arith; most = omega arith })))
    (λ e. at 16 e (record { code = omega arith; read = refl; some = omega arith; most = omega arith })))
    (λ e. at 20 e (record { code = omega arith; read = refl; some = omega arith; most = omega arith })))
    (λ e. at 24 e (record { code = omega arith; read = refl; some = omega arith; most = omega arith }))
  where
    at : (n : ℕ) → eqb b n ≡ true → Depth n → Depth b
    at n e d = subst Depth (sym (eqb-true b n e)) d

pub allowed_facts : (set : FrameSetting) (count : ℕ) → allowed set count ≡ true → Allowed set count
unfolding allowed
allowed_facts set count h =
    let t1 = leb set.channels 10 in
    let t2 = t1 && writable set.bits in
    let t3 = t2 && leb set.blocking 1 in
    let t4 = t3 && ltb 0 set.size in
    let t5 = t4 && leb set.size 65535 in
    let t6 = t5 && leb set.number (number_limit set.blocking) in
    let h6 = and_fst t6 _ h in
    let h5 = and_fst t5 _ h6 in
    let h4 = and_fst t4 _ h5 in
    let h3 = and_fst t3 _ h4 in
    let h2 = and_fst t2 _ h3 in record {
      channels = leb-true _ _ (and_fst t1 _ h2);
      depth = depth set.bits (and_snd t1 _ h2);
      blocking = leb-true _ _ (and_snd t2 _ h3);
      some = ltb-true _ _ (and_snd t3 _ h4);
      most = leb-true _ _ (and_snd t4 _ h5);
      number = leb-true _ _ (and_snd t5 _ h6);
      samples = eqb-true _ _ (and_snd t6 _ h);
    }
