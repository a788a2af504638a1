-- Partitions of a residual: one by its parameter, and all, each into its part of the slice. Assumes nothing.
use Prim.Native.Nat.{ℕ, suc, ◌+◌, ◌-◌, ◌*◌, ◌%◌, ◌^◌, ◌≤◌, ◌<◌}
use native.Mathlib.Nat.{mod-eq_of_lt, lt_of_le_of_lt, lt_of_lt_of_le, suc-mul}
use native.Mathlib.Omega.{arith}
use mathlib.Core.Path.{◌≡◌, refl, ap, sym, ◌∙◌}
use mathlib.Core.List.{List, [], ◌∷◌, ◌++◌}
use borrow.Author.Tests.{eq-eqb, ne_eqb}
use borrow.Rule.Slice.PartMut.{mid_of, put_mid, same_len_mid}
use lib.Dec.{lit<}
use lib.IntN.{ℤ}
use lib.ListN.{length, take, replicate}
use lib.Pow.{pow_mono, pow-add}
use lib.Seq.{take_all}
use Rattle.std.specs.Prelude.{Result}
use Rattle.std.specs.Result.{IsErrAnd}
use Rattle.reading.specs.declared.Place.{Place}
use Rattle.reading.specs.Readers.{Ask, ◌>>=◌, bits, many, each}
use Rattle.reading.specs.Places.{At, got_at, run_at}
use Rattle.reading.proofs.ByteRuns.{In, stays_in, bind_got_lem, bits_below, prepended, prepended_nil, each_step, each-end}
use Rattle.input.specs.Answers.{low64}
use Rattle.input.proofs.Callers.{read_exact}
use Rattle.error.specs.declared.Refusal.{Refusal}
use Rattle.error.specs.Numbers.{refused_by}
use Rattle.rfc9639.specs.Integers.{signed_bits}
use Rattle.rfc9639.specs.Residual.{rice, escaped, coded_residuals, partition}
use Rattle.subframe.specs.Answers.{samples_at}
use Rattle.error.proofs.Refusals.{bind_refusal}
use Rattle.subframe.proofs.SliceParts.{samples_stop, passed_on, prepended-refusal, prepended-samples_at, part-size, part-taken}

-- ---- a partition

-- the code's power of two is the definition's
pub parameter_count : (method : ℕ) → method < 2 → (16 * 2 ^ method) % 2 ^ 64 ≡ 2 ^ (4 + method)
parameter_count method h =
    let few : 2 ^ (4 + method) ≤ 2 ^ 5 = pow_mono {i = 4 + method} {j = 5} (omega arith) in
    let e : 16 * 2 ^ method ≡ 2 ^ (4 + method) = sym (pow-add 2 4 method) in
    ap (λ x. x % 2 ^ 64) e ∙ mod-eq_of_lt (lt_of_le_of_lt few (lit< tt))

-- a field of at most 5 bits, and the residuals that its number asks for
module _ (width : ℕ) (s : List ℕ) (at : Place) (h : width ≤ 5) where
  field_got : {v : ℕ} {p : Place} → got_at v p ≡ low64 (run_at (bits width) s at) → run_at (bits width) s at ≡ got_at v p
  field_got e = sym (read_exact width s at (omega arith) e)

  pub field_below : {v : ℕ} {p : Place} → got_at v p ≡ low64 (run_at (bits width) s at) → v < 2 ^ 5
  field_below e = lt_of_lt_of_le (bits_below width s at (field_got e)) (pow_mono h)

  module _ (residuals : ℕ → Ask (List ℤ)) where
    field_refused : (e : Refusal) (r : Result Place Refusal) → IsErrAnd r (λ y. y ≡ e) → refused_by e ≡ low64 (run_at (bits width) s at) → (left : List ℤ)
        → samples_at r left ≡ run_at (bits width >>= residuals) s at
    field_refused e r i h' = passed_on (bits width) s at residuals e r i (read_exact width s at (omega arith) h')

    field_then : {v : ℕ} {p : Place} → got_at v p ≡ low64 (run_at (bits width) s at) → {x : At (List ℤ)} → x ≡ run_at (residuals v) s p
        → x ≡ run_at (bits width >>= residuals) s at
    field_then e g = g ∙ sym (bind_got_lem (bits width) s at residuals (field_got e))

-- the parameter, and both of its meanings
module _ (method n : ℕ) (s : List ℕ) (at : Place) (h : method < 2) where
  pub parameter_refused : (e : Refusal) (r : Result Place Refusal) → IsErrAnd r (λ y. y ≡ e) → refused_by e ≡ low64 (run_at (bits (4 + method)) s at) → (left : List ℤ)
      → samples_at r left ≡ run_at (partition method n) s at
  unfolding partition
  parameter_refused = field_refused (4 + method) s at (omega arith) (λ k. coded_residuals method k n)

  module _ {k : ℕ} {p : Place} (e : got_at k p ≡ low64 (run_at (bits (4 + method)) s at)) {x : At (List ℤ)} where
    parameter_then : x ≡ run_at (coded_residuals method k n) s p → x ≡ run_at (partition method n) s at
    unfolding partition
    parameter_then = field_then (4 + method) s at (omega arith) (λ k. coded_residuals method k n) e

    pub partition-escaped : k ≡ (16 * 2 ^ method) % 2 ^ 64 - 1 → x ≡ run_at (escaped n) s p → x ≡ run_at (partition method n) s at
    unfolding coded_residuals
    partition-escaped f g =
        let last : k ≡ 2 ^ (4 + method) - 1 = f ∙ ap (λ x. x - 1) (parameter_count method h) in
        parameter_then (g ∙ sym (rw (eq-eqb k (2 ^ (4 + method) - 1) last) refl))

    pub partition-coded : (k ≡ (16 * 2 ^ method) % 2 ^ 64 - 1 → ⊥) → x ≡ run_at (many n (rice k)) s p
        → x ≡ run_at (partition method n) s at
    unfolding coded_residuals
    partition-coded f g =
        let other : k ≡ 2 ^ (4 + method) - 1 → ⊥ = λ d. f (d ∙ ap (λ x. x - 1) (sym (parameter_count method h))) in
        parameter_then (g ∙ sym (rw (ne_eqb k (2 ^ (4 + method) - 1) other) refl))

-- the width of an escaped partition
module _ (n : ℕ) (s : List ℕ) (at : Place) where
  pub width_refused : (e : Refusal) (r : Result Place Refusal) → IsErrAnd r (λ y. y ≡ e) → refused_by e ≡ low64 (run_at (bits 5) s at) → (left : List ℤ)
      → samples_at r left ≡ run_at (escaped n) s at
  unfolding escaped
  width_refused = field_refused 5 s at (omega arith) (λ w. many n (signed_bits w))

  pub escaped_by_width : {w : ℕ} {p : Place} → got_at w p ≡ low64 (run_at (bits 5) s at) → {x : At (List ℤ)} → x ≡ run_at (many n (signed_bits w)) s p
      → x ≡ run_at (escaped n) s at
  unfolding escaped
  escaped_by_width e = field_then 5 s at (omega arith) (λ w. many n (signed_bits w)) e

-- ---- the first of some parts, then the others

module _ (f : ℕ → Ask (List ℤ)) (n : ℕ) (ns : List ℕ) (s : List ℕ) (at : Place) where
  pub first-refused : (e : Refusal) → run_at (f n) s at ≡ refused_by e → run_at (each f (n ∷ ns)) s at ≡ refused_by e
  unfolding each
  first-refused e h = bind_refusal (f n) s at _ e h

  pub first_then : {v : List ℤ} {p : Place} → run_at (f n) s at ≡ got_at v p → (r : Result Place Refusal) (w : List ℤ) → samples_at r w ≡ run_at (each f ns) s p
      → samples_at r (v ++ w) ≡ run_at (each f (n ∷ ns)) s at
  first_then {v} h r w g =
      sym (sym (prepended_nil (run_at (each f (n ∷ ns)) s at)) ∙ each_step f s [] at n ns h ∙ ap (prepended v) (sym g) ∙ prepended-samples_at v r w)

-- ---- a loop over parts of one size: `left` of them are still to be read, starting at `start`

pub record Parted (f : ℕ → Ask (List ℤ)) (size count : ℕ) (s : List ℕ) (at₀ : Place) (l₀ l : List ℤ) (start left : ℕ) (at : Place) : Type 0 where
  pub place : In s at
  pub long : length l ≡ length l₀
  pub sized : start + left * size ≡ length l
  pub same : run_at (each f (replicate count size)) s at₀ ≡ prepended (take start l) (run_at (each f (replicate left size)) s at)

pub begin : (f : ℕ → Ask (List ℤ)) (size count : ℕ) {s : List ℕ} {at : Place} (l : List ℤ) → In s at → length l ≡ count * size → Parted f size count s at l l 0 count at
begin f size count l h e = record { place = h; long = refl; sized = omega arith; same = sym (prepended_nil _) }

module _ {f : ℕ → Ask (List ℤ)} {size count : ℕ} {s : List ℕ} {at₀ : Place} {l₀ l : List ℤ} {start left : ℕ} {at : Place} (inv : Parted f size count s at₀ l₀ l start left at) where
  module _ (h : 0 < left) where
    less : left * size ≡ (left - 1) * size + size
    less = ap (λ n. n * size) (let e : left ≡ suc (left - 1) = omega arith in e) ∙ suc-mul (left - 1) size

    pub room : start + size ≤ length l
    room = omega (arith, less, inv.sized)

    abbrev part : ℕ
    part = start + size - start

    next : run_at (each f (replicate count size)) s at₀ ≡ prepended (take start l) (run_at (each f (size ∷ replicate (left - 1) size)) s at)
    next =
        inv.same
        ∙ ap (λ n. prepended (take start l) (run_at (each f (replicate n size)) s at)) (let e : left ≡ suc (left - 1) = omega arith in e)

    -- the slice keeps its length
    pub part-keeps-length : (v : List ℤ) → length v ≡ length (mid_of start part l) → length (put_mid start part l v) ≡ length l₀
    part-keeps-length v kept = same_len_mid start part l v kept ∙ inv.long

    ran : run_at (f (length (mid_of start part l))) s at ≡ run_at (f size) s at
    ran =
        part-size start (start + size) l room (λ n. run_at (f n) s at)
        ∙ ap (λ n. run_at (f n) s at) (let e : start + size - start ≡ size = omega arith in e)

    -- a turn and the way out, by what the decoder of the part answered and left in it
    pub step : {less-left : ℕ} → less-left ≡ left - 1 → {v : List ℤ} {q : Place} → got_at v q ≡ run_at (f (length (mid_of start part l))) s at → length v ≡ length (mid_of start part l)
        → Parted f size count s at₀ l₀ (put_mid start part l v) (start + size) less-left q
    step d {v} {q} e kept =
        let got = sym (e ∙ ran) in
        let back = part-keeps-length v kept in
        rw d record {
          place = stays_in (f size) s at got;
          long = back;
          sized = omega (arith, less, back, inv.sized, inv.long);
          same =
              next ∙ each_step f s (take start l) at size (replicate (left - 1) size) got
              ∙ ap (λ t. prepended t (run_at (each f (replicate (left - 1) size)) s q)) (sym (part-taken start (start + size) l room v (omega arith) kept));
        }

    pub stops : (e : Refusal) (r : Result Place Refusal) → IsErrAnd r (λ y. y ≡ e) → refused_by e ≡ run_at (f (length (mid_of start part l))) s at → (now : List ℤ)
        → samples_at r now ≡ run_at (each f (replicate count size)) s at₀
    stops e r i g =
        samples_stop e r i
        (sym
        (next ∙ ap (prepended (take start l)) (first-refused f size (replicate (left - 1) size) s at e (sym (g ∙ ran))) ∙ prepended-refusal (take start l) e))

  pub end : left ≤ 0 → got_at l at ≡ run_at (each f (replicate count size)) s at₀
  end h =
      let none : left ≡ 0 = omega arith in
      let zero-parts : left * size ≡ 0 = ap (λ n. n * size) none ∙ omega arith in
      sym
      (inv.same ∙ ap (λ n. prepended (take start l) (run_at (each f (replicate n size)) s at)) none
      ∙ each-end f s (take start l) at inv.place ∙ ap (λ t. got_at t at) (take_all start l (omega (arith, inv.sized, zero-parts))))
