-- `frame_list::opening::read_start` meets its contract: each look at the first bytes sees more of them. Assumes nothing.
use native.Mathlib.Omega.{arith}
use mathlib.Core.Path.{◌≡◌, refl}
use Rattle.frame_list.specs.CardProgress.{no_frames}
use Rattle.rfc9639.specs.Stream.{bits_in_range}
use Rattle.frame_list.proofs.StreamStarts.{bare_over}
use Rattle.frame_list.proofs.opening.read_start.Goals as goal

pub loop-next-init : goal.loop-next-init
unfolding bits_in_range
loop-next-init c =
    let d = c.default.ensures in
    let same : c.default.result ≡ no_frames = λ i. record { frames = d.0 i; samples = d.1.0 i; length = d.1.1.0 i; rate = d.1.1.1.0 i; block = d.1.1.1.1.0 i; stream = d.1.1.1.1.1 i } in
    (record { no_base = refl; none = same; sound = record { held_fits = omega arith; numbered = omega (arith, c.requires); bits = rw same refl } }, refl)

pub returns-in_err-next : goal.returns-in_err-next
returns-in_err-next c = rw c.from_residual.ensures (bare_over _ _ c.loop-next.invariant.0 _ _ c.in_err-next.ensures)
