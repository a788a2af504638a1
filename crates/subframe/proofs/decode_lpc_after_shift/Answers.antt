-- `decode_lpc_after_shift`: the coefficients into an array, then prediction by them. Assumes nothing.
use Prim.Native.Nat.{ℕ, ◌≤◌}
use native.Mathlib.Omega.{arith}
use mathlib.Core.Path.{◌≡◌, refl, ◌∙◌}
use mathlib.Core.List.{List, ◌++◌}
use lib.IntN.{ℤ, pos}
use lib.ListN.{length, take, drop, replicate}
use Rattle.reading.specs.Readers.{Ask, done, ◌>>=◌, many}
use Rattle.rfc9639.specs.Integers.{signed_bits}
use Rattle.rfc9639.specs.Residual.{residual}
use Rattle.rfc9639.specs.Prediction.{predict}
use Rattle.rfc9639.specs.Subframe.{lpc_after_shift}
use Rattle.subframe.proofs.SliceParts.{front-got, front-stops, front_then, first_taken, front_replaced-length}
use Rattle.subframe.proofs.DecodedSubframes.{predictable, predicted_block_lem, read-row}
use Rattle.subframe.proofs.decode_lpc_after_shift.Goals as goal

-- the array for the coefficients
abbrev room : List ℤ
room = replicate 32 (pos 0)

-- what follows the coefficients
abbrev rest : ℕ → ℕ → List ℤ → List ℤ → Ask (List ℤ)
rest order shift out cs = residual order (length out) >>= (λ r. done (predict cs shift (take order out) r))

-- the array starts with them
front : (order : ℕ) → order ≤ 32 → (cs : List ℤ) → length cs ≡ length (take order room) → take order (cs ++ drop order room) ≡ cs
front order h cs kept = first_taken order room h cs kept (drop order room)

within : (order : ℕ) → order ≤ 32 → (cs : List ℤ) → length cs ≡ length (take order room) → order ≤ length (cs ++ drop order room)
within order h cs kept = omega (arith, front_replaced-length order room h cs kept, h)

pub returns-in_err-p : goal.returns-in_err-p
unfolding lpc_after_shift
returns-in_err-p c =
    let a = c.args in
    front-stops (λ k. many k (signed_bits a.precision)) a.s.now a.at a.order room c.requires.2 (rest a.order a.shift a.out.now) _ _
    c.from_residual.ensures.1 c.in_err-p.ensures _

-- as many coefficients as the order, each small
pub decode_predicted-requires : goal.decode_predicted-requires
decode_predicted-requires c =
    let a = c.args in let d = c.decode_verbatim in
    predictable a.out.now (front a.order c.requires.2 d.new.out d.auto.out)
    (read-row a.precision a.order c.requires.0 a.s.now a.at
    (front-got (λ k. many k (signed_bits a.precision)) a.s.now a.at a.order room c.requires.2 c.in_ok-p.ensures))
    c.requires.2 c.requires.3

pub returns : goal.returns
unfolding lpc_after_shift
returns c =
    let a = c.args in let d = c.decode_verbatim in
    c.decode_predicted.ensures
    ∙ predicted_block_lem a.out.now (front a.order c.requires.2 d.new.out d.auto.out)
    (read-row a.precision a.order c.requires.0 a.s.now a.at
    (front-got (λ k. many k (signed_bits a.precision)) a.s.now a.at a.order room c.requires.2 c.in_ok-p.ensures))
    a.shift (length a.out.now) (take a.order a.out.now) refl refl a.s.now c.in_ok-p.p
    ∙ front_then (λ k. many k (signed_bits a.precision)) a.s.now a.at a.order room c.requires.2 c.in_ok-p.ensures (rest a.order a.shift a.out.now)
