-- Prefix rules on bytes: an answer is the same whatever follows; the bytes up to its end suffice; fewer are too short.
use Prim.Native.Nat.{ℕ, zero, suc, ◌+◌, ◌*◌, ◌≤◌, ◌<◌}
use native.Mathlib.Omega.{arith}
use mathlib.Core.Path.{◌≡◌, refl, ap, sym, ◌∙◌, subst}
use mathlib.Core.Bool.{Bool, true, false, cond}
use mathlib.Core.List.{List, [], ◌∷◌, ◌++◌, append_assoc}
use lib.ListN.{length, take, length-take, length-append}
use lib.Seq.{take-append-add}
use Rattle.reading.specs.declared.Place.{Place}
use Rattle.reading.specs.Readers.{Ask, passed, RunResult, got, refused, short, run}
use Rattle.reading.specs.Bytes.{bits_of_byte, bits_of_bytes}
use Rattle.reading.specs.Places.{position, place_of, inside, got_at, short_at, to_at, run_at}
use Rattle.reading.proofs.BitPrefixes.{Ends, settled, run_append, run_take, run_take-short}
use Rattle.reading.proofs.Bits.{length-bits_of_bytes}
use Rattle.reading.proofs.ByteRuns.{In, inside_in, run_at_in, run_at-out, place-position, position-place}

pub bits_of_bytes_append : (s t : List ℕ) → bits_of_bytes (s ++ t) ≡ bits_of_bytes s ++ bits_of_bytes t
unfolding bits_of_bytes
bits_of_bytes_append [] t = refl
bits_of_bytes_append (b ∷ s) t = ap (λ (l : List ℕ). bits_of_byte b ++ l) (bits_of_bytes_append s t) ∙ sym (append_assoc (bits_of_byte b) (bits_of_bytes s) (bits_of_bytes t))

eight : (b m : ℕ) (t : List ℕ) → take (8 + m) (bits_of_byte b ++ t) ≡ bits_of_byte b ++ take m t
unfolding bits_of_byte
eight b m t = take-append-add (bits_of_byte b) t m

pub bits_of_bytes-take : (m : ℕ) (s : List ℕ) → bits_of_bytes (take m s) ≡ take (8 * m) (bits_of_bytes s)
unfolding bits_of_bytes
bits_of_bytes-take zero s = refl
bits_of_bytes-take (suc m) [] = sym (lib.Seq.take-nil (8 * suc m))
bits_of_bytes-take (suc m) (b ∷ s) =
    ap (λ (l : List ℕ). bits_of_byte b ++ l) (bits_of_bytes-take m s) ∙ sym (eight b (8 * m) (bits_of_bytes s))
    ∙ ap (λ n. take n (bits_of_byte b ++ bits_of_bytes s)) (let e : 8 + 8 * m ≡ 8 * suc m = omega arith in e)

-- the bits that were read before a place: as many as its position
pub passed_at_lem : (s : List ℕ) (at : Place) → In s at → run_at passed s at ≡ got_at (take (position at) (bits_of_bytes s)) at
unfolding run passed to_at
passed_at_lem s at h = run_at_in passed h ∙ ap (got_at (take (position at) (bits_of_bytes s))) (position-place at h.bit)

pub passed_length : (s : List ℕ) (at : Place) → In s at → length (take (position at) (bits_of_bytes s)) ≡ position at
passed_length s at h = lib.Seq.length-take-le (position at) (bits_of_bytes s) (omega (arith, length-bits_of_bytes s, h.end))

-- at the start of a byte, they are the bits of the bytes before it
pub passed-bytes : (s : List ℕ) (at : Place) → at.bit ≡ 0 → In s at → run_at passed s at ≡ got_at (bits_of_bytes (take at.byte s)) at
passed-bytes s at e h =
    passed_at_lem s at h
    ∙ ap (λ (l : List ℕ). got_at l at)
    (ap (λ n. take n (bits_of_bytes s)) (let f : 8 * at.byte + at.bit ≡ 8 * at.byte = omega arith in f) ∙ sym (bits_of_bytes-take at.byte s))

-- a run on bytes that is not short starts inside them, and the run on their bits ends somewhere
ended : {A : Type 0} (p : Ask A) (s : List ℕ) (at : Place) → (run_at p s at ≡ short_at → ⊥)
    → In s at × ((j : ℕ) × Ends (run p (bits_of_bytes s) (position at)) j)
unfolding run_at to_at
ended {A} p s at h = go (inside s at) refl (run p (bits_of_bytes s) (position at)) refl h
  where
    go : (b : Bool) → inside s at ≡ b → (x : RunResult A) → run p (bits_of_bytes s) (position at) ≡ x → (cond b (to_at x) short_at ≡ short_at → ⊥)
        → In s at × ((j : ℕ) × Ends (run p (bits_of_bytes s) (position at)) j)
    go true t (got a j) e f = (inside_in s at t, (j, subst (λ y. Ends y j) (sym e) refl))
    go true t (refused n j) e f = (inside_in s at t, (j, subst (λ y. Ends y j) (sym e) refl))
    go true t short e f = absurd (f refl)
    go false t x e f = absurd (f refl)

module _ {A : Type 0} (p : Ask A) (s : List ℕ) (at : Place) where
  -- (a), (c)
  pub run_at_append : (t : List ℕ) → (run_at p s at ≡ short_at → ⊥) → run_at p (s ++ t) at ≡ run_at p s at
  run_at_append t h =
      let e = ended p s at h in
      let i : In (s ++ t) at = record { bit = e.0.bit; end = omega (arith, length-append s t, e.0.end) } in
      run_at_in p i ∙ ap (λ l. to_at (run p l (position at))) (bits_of_bytes_append s t)
      ∙ ap to_at (run_append p (bits_of_bytes s) (position at) (omega (arith, length-bits_of_bytes s, e.0.end)) e.1.0 (bits_of_bytes t) e.1.1)
      ∙ sym (run_at_in p e.0)

  module _ (a : A) (at' : Place) (g : run_at p s at ≡ got_at a at') where
    got-run : In s at × (run p (bits_of_bytes s) (position at) ≡ got a (position at'))
    unfolding run_at to_at
    got-run = go (inside s at) refl (run p (bits_of_bytes s) (position at)) refl g
      where
        go : (b : Bool) → inside s at ≡ b → (x : RunResult A) → run p (bits_of_bytes s) (position at) ≡ x → cond b (to_at x) short_at ≡ got_at a at'
            → In s at × (run p (bits_of_bytes s) (position at) ≡ got a (position at'))
        go true t (got c j) e f =
            let q : place_of j ≡ at' = cc in
            let r : j ≡ position at' = sym (place-position j) ∙ ap position q in
            (inside_in s at t, (let d : c ≡ a = cc in cc))
        go true t (refused n j) e f = absurd (let z : ◌≡◌ {A = ℕ} 0 1 = cc in omega arith)
        go true t short e f = absurd (let z : ◌≡◌ {A = ℕ} 0 1 = cc in omega arith)
        go false t x e f = absurd (let z : ◌≡◌ {A = ℕ} 0 1 = cc in omega arith)

    within : position at ≤ length (bits_of_bytes s)
    within = omega (arith, length-bits_of_bytes s, got-run.0.end)

    ends : Ends (run p (bits_of_bytes s) (position at)) (position at')
    ends = subst (λ y. Ends y (position at')) (sym got-run.1) refl

    -- (b): a run ends at or after its start, and not past the end of the input
    pub run_at_forward : (position at ≤ position at') × (position at' ≤ 8 * length s)
    run_at_forward = let q = settled p (bits_of_bytes s) (position at) within ends in (q.0, omega (arith, length-bits_of_bytes s, q.1))

    cut_to : (m : ℕ) → In (take m s) at → run_at p (take m s) at ≡ to_at (run p (take (8 * m) (bits_of_bytes s)) (position at))
    cut_to m i = run_at_in p i ∙ ap (λ l. to_at (run p l (position at))) (bits_of_bytes-take m s)

    -- (b): the bytes up to its end suffice
    pub run_at-take : (m : ℕ) → position at' ≤ 8 * m → run_at p (take m s) at ≡ got_at a at'
    run_at-take m l =
        cut_to m (record { bit = got-run.0.bit; end = omega (arith, length-take m s, got-run.0.end, run_at_forward.0) })
        ∙ ap to_at (run_take p (bits_of_bytes s) (position at) within (position at') (8 * m) l ends) ∙ sym (run_at_in p got-run.0) ∙ g

    -- (b): fewer bytes are too short
    pub run_at-take-short : (m : ℕ) → 8 * m < position at' → run_at p (take m s) at ≡ short_at
    unfolding to_at
    run_at-take-short m l = go (inside (take m s) at) refl
      where
        go : (b : Bool) → inside (take m s) at ≡ b → run_at p (take m s) at ≡ short_at
        go true t =
            let i = inside_in (take m s) at t in
            cut_to m i ∙ ap to_at (run_take-short p (bits_of_bytes s) (position at) (8 * m) (position at') within (omega (arith, length-take m s, i.end)) l ends)
        go false t = run_at-out p (take m s) at t
