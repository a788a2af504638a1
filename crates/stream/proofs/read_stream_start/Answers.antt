-- The mark and the first block, as the definition reads them. Both are whole bytes. Assumes nothing.
use Prim.Native.Nat.{ℕ}
use native.Mathlib.Omega.{arith}
use mathlib.Core.Path.{◌≡◌, refl, ap, sym, ◌∙◌}
use mathlib.Core.Bool.{Bool}
use mathlib.Core.List.{List}
use Rattle.reading.specs.declared.Place.{Place}
use Rattle.reading.specs.Places.{got_at, place_of, run_at}
use Rattle.reading.proofs.BitsTaken.{takes_weaken, ends_at_byte}
use Rattle.rfc9639.specs.declared.StreamInfo.{StreamInfo}
use Rattle.rfc9639.specs.StreamHeader.{mark, first_block, stream_start}
use Rattle.rfc9639.proofs.StreamHeaderBits.{start-takes}
use Rattle.stream.specs.Answers.{start_at}
use Rattle.stream.proofs.ReadSteps.{exit, goes_on, refused_first}
use Rattle.stream.proofs.read_stream_start.Goals as goal

pub returns-in_err-p : goal.returns-in_err-p
unfolding stream_start
returns-in_err-p c = ap start_at (exit _ _ c.from_residual.ensures.1) ∙ refused_first mark _ _ _ _ c.in_err-p.ensures

pub returns-in_err-last : goal.returns-in_err-last
unfolding stream_start
returns-in_err-last c =
    goes_on mark _ _ _ c.in_ok-p.ensures (λ _. ap start_at (exit _ _ c.from_residual-in_err-last.ensures.1) ∙ c.in_err-last.ensures)

start_is : (s : List ℕ) (p : Place) {x : Bool × StreamInfo} {q : Place} → got_at tt p ≡ run_at mark s (place_of 0) → got_at x q ≡ run_at first_block s p →
    got_at x q ≡ run_at stream_start s (place_of 0)
unfolding stream_start
start_is s p e f = goes_on mark _ _ _ e (λ _. f)

pub returns : goal.returns
returns c =
    sym (ends_at_byte (takes_weaken (λ n f. omega arith) start-takes) _ _ refl (sym (start_is _ _ c.in_ok-p.ensures c.in_ok-last.ensures)))
