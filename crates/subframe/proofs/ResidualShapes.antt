-- The start of a residual: its method, its partition order, and the sizes of its partitions. Assumes nothing.
use Prim.Native.Nat.{ℕ, suc, ◌+◌, ◌-◌, ◌*◌, ◌/◌, ◌%◌, ◌^◌, ◌≤◌, ◌<◌}
use native.Mathlib.Nat.{one-mul, suc-mul, mul_comm, div-add-mod', mod-eq_of_lt, lt_of_le_of_lt}
use native.Mathlib.Omega.{arith}
use mathlib.Core.Path.{◌≡◌, ap, sym, ◌∙◌, subst}
use mathlib.Core.Bool.{true}
use mathlib.Core.List.{List, ◌∷◌}
use borrow.Author.Tests.{lt-ltb, le-ltb, le-leb, lt-leb, eq-eqb, ne_eqb}
use lib.Dec.{leb, eqb, lit<}
use lib.IntN.{ℤ}
use lib.ListN.{replicate}
use lib.Pow.{pow_pos, pow_mono}
use Rattle.reading.specs.declared.Place.{Place}
use Rattle.reading.specs.Readers.{Ask, ◌>>◌, bits, require, each}
use Rattle.reading.specs.Places.{At, got_at, refused_at, run_at}
use Rattle.reading.proofs.ByteRuns.{In, stays_in, bind_got_lem, require_holds, require_fails, bits_below}
use Rattle.error.specs.declared.Refusal.{Refusal}
use Rattle.error.specs.Numbers.{refused_by}
use Rattle.error.proofs.Refusals.{bind_refusal}
use Rattle.input.specs.Answers.{low64}
use Rattle.input.proofs.Callers.{read_exact}
use Rattle.rfc9639.specs.Residual.{partition, partition_sizes, residual}

-- the number of partitions of an order, as the code computes it
abbrev pub partition_count : ℕ → ℕ
partition_count order = (1 * 2 ^ order) % 2 ^ 64

module _ {order : ℕ} (h : order < 16) where
  parts_is : partition_count order ≡ 2 ^ order
  parts_is =
      let few : 2 ^ order ≤ 2 ^ 15 = pow_mono {i = order} {j = 15} (omega arith) in
      ap (λ x. x % 2 ^ 64) (one-mul (2 ^ order)) ∙ mod-eq_of_lt (lt_of_le_of_lt few (lit< tt))

  pub partition_count_positive : 0 < partition_count order
  partition_count_positive = rw parts_is (pow_pos order)

  -- together with the warm-up samples they fill the block
  pub sizes-sum : (warm n : ℕ) → n % partition_count order ≡ 0 → warm ≤ n / partition_count order
      → n - warm ≡ n / partition_count order - warm + (partition_count order - 1) * (n / partition_count order)
  sizes-sum warm n e l = omega (arith, whole, less)
    where
      whole : n / partition_count order * partition_count order + n % partition_count order ≡ n
      whole = div-add-mod' n (partition_count order)

      less : n / partition_count order * partition_count order ≡ (partition_count order - 1) * (n / partition_count order) + n / partition_count order
      less =
          mul_comm (n / partition_count order) (partition_count order)
          ∙ ap (λ c. c * (n / partition_count order)) (let d : partition_count order ≡ suc (partition_count order - 1) = omega (arith, partition_count_positive) in d)
          ∙ suc-mul (partition_count order - 1) (n / partition_count order)

-- a residual after its order
after_order : ℕ → ℕ → ℕ → ℕ → Ask (List ℤ)
after_order warm n method order = do
  require (eqb (n % 2 ^ order) 0) 9
  require (leb warm (n / 2 ^ order)) 9
  each (partition method) (partition_sizes order (n / 2 ^ order) warm)

module _ (warm n : ℕ) (s : List ℕ) (at : Place) where
  pub method_refused : (e : Refusal) → refused_by e ≡ low64 (run_at (bits 2) s at) → refused_by e ≡ run_at (residual warm n) s at
  unfolding residual
  method_refused e h = sym (bind_refusal (bits 2) s at _ e (sym (read_exact 2 s at (omega arith) h)))

  module _ {method : ℕ} {p : Place} (first : got_at method p ≡ low64 (run_at (bits 2) s at)) where
    got_method : run_at (bits 2) s at ≡ got_at method p
    got_method = sym (read_exact 2 s at (omega arith) first)

    in_after_method : In s p
    in_after_method = stays_in (bits 2) s at got_method

    pub method_reserved : 2 ≤ method → refused_at 4 ≡ run_at (residual warm n) s at
    unfolding residual
    method_reserved h = sym (bind_got_lem (bits 2) s at _ got_method ∙ require_fails 4 _ in_after_method (le-ltb method 2 h))

    module _ (h : method < 2) where
      pub order_refused : (e : Refusal) → refused_by e ≡ low64 (run_at (bits 4) s p) → refused_by e ≡ run_at (residual warm n) s at
      unfolding residual
      order_refused e f =
          sym
          (bind_got_lem (bits 2) s at _ got_method ∙ require_holds 4 _ in_after_method (lt-ltb method 2 h)
          ∙ bind_refusal (bits 4) s p _ e (sym (read_exact 4 s p (omega arith) f)))

      module _ {order : ℕ} {next : Place} (second : got_at order next ≡ low64 (run_at (bits 4) s p)) where
        got-order : run_at (bits 4) s p ≡ got_at order next
        got-order = sym (read_exact 4 s p (omega arith) second)

        in_after_order : In s next
        in_after_order = stays_in (bits 4) s p got-order

        pub order_below : order < 16
        order_below = bits_below 4 s p got-order

        count_is_power : partition_count order ≡ 2 ^ order
        count_is_power = parts_is order_below

        -- the rest, from this place
        onward : run_at (residual warm n) s at ≡ run_at (after_order warm n method order) s next
        unfolding residual after_order
        onward = bind_got_lem (bits 2) s at _ got_method ∙ require_holds 4 _ in_after_method (lt-ltb method 2 h) ∙ bind_got_lem (bits 4) s p _ got-order

        pub size_uneven : (n % partition_count order ≡ 0 → ⊥) → refused_at 9 ≡ run_at (residual warm n) s at
        unfolding after_order
        size_uneven g = sym (onward ∙ require_fails 9 _ in_after_order (ne_eqb (n % 2 ^ order) 0 (λ d. g (ap (λ c. n % c) count_is_power ∙ d))))

        module _ (g : n % partition_count order ≡ 0) where
          even : eqb (n % 2 ^ order) 0 ≡ true
          even = eq-eqb (n % 2 ^ order) 0 (ap (λ c. n % c) (sym count_is_power) ∙ g)

          size_is : n / partition_count order ≡ n / 2 ^ order
          size_is = ap (λ c. n / c) count_is_power

          pub size-below-warm : n / partition_count order < warm → refused_at 9 ≡ run_at (residual warm n) s at
          unfolding after_order
          size-below-warm l =
              sym (onward ∙ require_holds 9 _ in_after_order even ∙ require_fails 9 _ in_after_order (lt-leb warm (n / 2 ^ order) (subst (λ m. m < warm) size_is l)))

          pub partitions_read : warm ≤ n / partition_count order → {x : At (List ℤ)}
              → x ≡ run_at (each (partition method) ((n / partition_count order - warm) ∷ replicate (partition_count order - 1) (n / partition_count order))) s next
              → x ≡ run_at (residual warm n) s at
          unfolding after_order partition_sizes
          partitions_read l d =
              d ∙ ap (λ c. run_at (each (partition method) ((n / c - warm) ∷ replicate (c - 1) (n / c))) s next) count_is_power
              ∙ sym (onward ∙ require_holds 9 _ in_after_order even ∙ require_holds 9 _ in_after_order (le-leb warm (n / 2 ^ order) (subst (λ m. warm ≤ m) size_is l)))
