-- The definition's answer, by its three tests. Assumes nothing.
use Prim.Native.Nat.{ℕ, ◌≤◌, ◌<◌}
use native.Mathlib.Omega.{arith}
use mathlib.Core.Path.{◌≡◌, refl, ap₂}
use mathlib.Core.Bool.{true, false}
use mathlib.Core.List.{List, ◌++◌}
use borrow.Author.Tests.{le-leb, lt-leb}
use lib.IntN.{ℤ}
use lib.ListN.{length, drop}
use Rattle.rfc9639.specs.declared.FrameSetting.{FrameSetting}
use Rattle.rfc9639.proofs.AllowedSettings.{allowed_facts}
use Rattle.rfc9639.specs.Write.{frame_bytes, allowed, all_fit, Written, unwritten, write}
use Rattle.frame_writer.specs.Private.{InRange}

-- what the private functions ask of the settings
pub bits_between : (set : FrameSetting) (count : ℕ) → allowed set count ≡ true → (1 ≤ set.bits) × (set.bits ≤ 32)
bits_between set count e = let a = allowed_facts set count e in (omega (arith, a.depth.some), omega (arith, a.depth.most))

pub in_range_lem : (set : FrameSetting) (count : ℕ) → allowed set count ≡ true → InRange set
in_range_lem set count e = let a = allowed_facts set count e in (a.channels, a.depth.most, a.most)

module _ (set : FrameSetting) (xs : List ℤ) (out : List ℕ) where
  pub refuse-setting : allowed set (length xs) ≡ false → unwritten 11 out ≡ write set xs out
  unfolding write
  refuse-setting e = rw e refl

  module _ (e : allowed set (length xs) ≡ true) where
    pub refuse-sample : all_fit set.bits xs ≡ false → unwritten 12 out ≡ write set xs out
    unfolding write
    refuse-sample f = rw (e, f) refl

    module _ (f : all_fit set.bits xs ≡ true) {n : ℕ} (g : n ≡ length (frame_bytes set xs)) where
      pub refuse-room : length out < n → unwritten 13 out ≡ write set xs out
      unfolding write
      refuse-room h = rw (e, f, lt-leb (length (frame_bytes set xs)) (length out) (omega (arith, g))) refl

      pub frame_written : n ≤ length out → {left : List ℕ} → left ≡ frame_bytes set xs ++ drop (length (frame_bytes set xs)) out
          → ◌≡◌ {A = Written} (record { number = 0; length = n; output = left }) (write set xs out)
      unfolding write
      frame_written h {left} k =
          rw (e, f, le-leb (length (frame_bytes set xs)) (length out) (omega (arith, g))) (ap₂ (λ (m : ℕ) (o : List ℕ). record { number = 0; length = m; output = o }) g k)
