-- The longest length: no frame is longer, so such an output is never refused by 13; 0 means no frame. Assumes nothing.
use Prim.Native.Nat.{ℕ, ◌≤◌}
use native.Mathlib.Omega.{arith}
use mathlib.Core.Path.{◌≡◌, refl, subst}
use mathlib.Core.Bool.{Bool, true, false}
use mathlib.Core.List.{List}
use borrow.Author.Tests.{le-leb}
use lib.IntN.{ℤ}
use lib.ListN.{length}
use Rattle.rfc9639.specs.declared.FrameSetting.{FrameSetting}
use Rattle.rfc9639.specs.Write.{frame_bytes, frame_bound, allowed, all_fit, unwritten, write}
use Rattle.rfc9639.proofs.AllowedSettings.{allowed_facts}
use Rattle.rfc9639.proofs.LengthBound.{within-bound}
use Rattle.frame_limits.specs.Longest.{longest_of}
use Rattle.frame_limits.proofs.SettingTests.{wanted}

module _ (set : FrameSetting) where
  pub longest-some : allowed set (wanted set) ≡ true → longest_of set ≡ frame_bound set
  unfolding longest_of
  longest-some e = rw e

  pub longest-none : allowed set (wanted set) ≡ false → longest_of set ≡ 0
  unfolding longest_of
  longest-none e = rw e

  module _ (xs : List ℤ) where
    allowed-wanted : allowed set (length xs) ≡ true → allowed set (wanted set) ≡ true
    allowed-wanted e = subst (λ n. allowed set n ≡ true) (allowed_facts set (length xs) e).samples e

    pub never-longer : allowed set (length xs) ≡ true → length (frame_bytes set xs) ≤ longest_of set
    never-longer e = rw (longest-some (allowed-wanted e)) (within-bound set xs)

    module _ (out : List ℕ) where
      pub never-refused : longest_of set ≤ length out → (write set xs out).number ≡ 13 → ⊥
      unfolding write unwritten
      never-refused h = go (allowed set (length xs)) refl (all_fit set.bits xs) refl
        where
          go : (t : Bool) → allowed set (length xs) ≡ t → (u : Bool) → all_fit set.bits xs ≡ u → (write set xs out).number ≡ 13 → ⊥
          go true e true f p = let q = rw (e, f, le-leb (length (frame_bytes set xs)) (length out) (omega (arith, never-longer e))) at p in omega arith
          go true e false f p = let q = rw (e, f) at p in omega arith
          go false e u f p = let q = rw e at p in omega arith

      pub none_written : longest_of set ≡ 0 → (write set xs out).number ≡ 11
      unfolding write unwritten frame_bound
      none_written h = go (allowed set (length xs)) refl
        where
          go : (t : Bool) → allowed set (length xs) ≡ t → (write set xs out).number ≡ 11
          go true e = absurd (omega (arith, longest-some (allowed-wanted e)))
          go false e = rw e
