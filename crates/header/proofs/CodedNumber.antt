-- The coded number (RFC 9639 section 9.1.5): what the loop over the bytes after the first keeps. Assumes nothing.
use Prim.Native.Nat.{ℕ, suc, ◌+◌, ◌*◌, ◌-◌, ◌/◌, ◌%◌, ◌^◌, ◌≤◌, ◌<◌}
use native.Mathlib.Nat.{sub-zero}
use native.Mathlib.Omega.{arith}
use mathlib.Core.Path.{◌≡◌, ap, sym, ◌∙◌}
use mathlib.Core.Bool.{true}
use mathlib.Core.List.{List}
use borrow.Author.Tests.{eq-eqb, ne_eqb}
use lib.Dec.{eqb}
use lib.Pow.{pow-add}
use Rattle.reading.specs.declared.Place.{Place}
use Rattle.reading.specs.Readers.{Ask, ◌>>=◌, ◌>>◌, bits, require}
use Rattle.reading.specs.Places.{got_at, refused_at, inside, run_at}
use Rattle.reading.proofs.ByteRuns.{In, inside_in, stays_in, run_at-done}
use Rattle.error.specs.declared.Refusal.{Refusal}
use Rattle.error.specs.Numbers.{refused_by}
use Rattle.error.proofs.Refusals.{bind_refusal}
use Rattle.rfc9639.specs.Number.{with_followers}
use Rattle.header.proofs.ReaderSteps.{check_fails, check_holds}

-- With i of n bytes read, and `number` made of v and these bytes: the run from here gives the same. A number has 7 bits
-- before the first of these bytes, and 6 more with each.
pub record FollowersRead (s : List ℕ) (n v : ℕ) (at : Place) (i number : ℕ) (p : Place) : Type 0 where
  pub place : In s p
  pub small : number < 2 ^ (7 + 6 * i)
  pub same : run_at (with_followers (n - i) number) s p ≡ run_at (with_followers n v) s at

module _ (s : List ℕ) (n v : ℕ) (at : Place) where
  pub begin : v < 128 → inside s at ≡ true → FollowersRead s n v at 0 v at
  begin small h = record { place = inside_in s at h; small = small; same = ap (λ m. run_at (with_followers m v) s at) (sub-zero n) }

  module _ {i number : ℕ} {p : Place} (f : FollowersRead s n v at i number p) where
    pub end : n ≤ i → run_at (with_followers n v) s at ≡ got_at number p
    unfolding with_followers
    end l =
        sym f.same ∙ ap (λ m. run_at (with_followers m number) s p) (let z : n - i ≡ 0 = omega arith in z) ∙ run_at-done number f.place

    module _ (l : i < n) where
      rest : ℕ → Ask ℕ
      rest b = with_followers (n - (i + 1)) (number * 64 + b % 64)

      next_follower : run_at (with_followers n v) s at ≡ run_at (bits 8 >>= (λ b. require (eqb (b / 64) 2) 5 >> rest b)) s p
      unfolding with_followers rest
      next_follower = sym f.same ∙ ap (λ m. run_at (with_followers m number) s p) (let z : n - i ≡ suc (n - (i + 1)) = omega arith in z)

      pub no_follower : (e : Refusal) → run_at (bits 8) s p ≡ refused_by e → run_at (with_followers n v) s at ≡ refused_by e
      no_follower e h = next_follower ∙ bind_refusal (bits 8) s p _ e h

      module _ {b : ℕ} {q : Place} (e : run_at (bits 8) s p ≡ got_at b q) where
        pub follower_refused : (b / 64 ≡ 2 → ⊥) → run_at (with_followers n v) s at ≡ refused_at 5
        follower_refused h = next_follower ∙ check_fails (bits 8) s p (λ x. eqb (x / 64) 2) 5 e rest (ne_eqb _ _ h)

        number-below : number * 64 + b % 64 < 2 ^ (7 + 6 * (i + 1))
        number-below = rw (let z : 7 + 6 * (i + 1) ≡ 7 + 6 * i + 6 = omega arith in z, pow-add 2 (7 + 6 * i) 6) (omega (arith, f.small))

        pub step : b / 64 ≡ 2 → FollowersRead s n v at (i + 1) (number * 64 + b % 64) q
        unfolding rest
        step h =
            record {
              place = stays_in (bits 8) s p e;
              small = number-below;
              same = sym (next_follower ∙ check_holds (bits 8) s p (λ x. eqb (x / 64) 2) 5 e rest (eq-eqb _ _ h));
            }
