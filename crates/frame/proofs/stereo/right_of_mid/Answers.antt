-- `right_of_mid`: half of a difference of 32 bits. Assumes nothing.
use lib.IntN.{ℤ, ◌-ℤ◌}
use Rattle.rfc9639.specs.Stereo.{right_of_mid}
use Rattle.frame.proofs.StereoPairs.{half_of}
use Rattle.frame.proofs.stereo.right_of_mid.Goals as goal

pub returns : goal.returns
unfolding right_of_mid
returns c =
    half_of (λ (a b : ℤ). a -ℤ b) c.ranges.mid c.ranges.side (record { sfits = c.doubled.type_inv }) (record { sfits = c.wrapping_sub.type_inv }) c.doubled.ensures c.wrapping_sub.ensures
