-- The loop inks the bits of the number, the highest first; its invariant is BitsLeft. Assumes nothing.
use Prim.Native.Nat.{ℕ, ◌-◌, min, ◌<◌}
use native.Mathlib.Omega.{arith}
use mathlib.Core.Path.{◌≡◌}
use Rattle.reading.proofs.Bits.{one_shifted}
use Rattle.bit_writer.proofs.BitLoops.{none_written, begin, output-full, step-bits, end-bits}
use Rattle.bit_writer.proofs.BitWriter.write_bits.Goals as goal

pub returns-then-not-is_pen : goal.returns-then-not-is_pen
returns-then-not-is_pen c = none_written _ (cc)

pub loop-left-init : goal.loop-left-init
loop-left-init c = (omega arith, begin _ (cc))

pub returns-then-self : goal.returns-then-self
returns-then-self c = output-full c.loop-left.invariant.1 c.if-self.true

-- a turn writes at most a byte
few_bits : (m held left : ℕ) → m ≡ min (8 - held) left → m < 64
few_bits m held left e = omega arith

pub loop-left-preserved : goal.loop-left-preserved
loop-left-preserved c = (
  omega (arith, c.loop-left.invariant.0),
  step-bits _ _ _ c.loop-left.invariant.1 _ (omega (arith, c.min-m.ensures))
      (rw (one_shifted _ (few_bits _ _ _ c.min-m.ensures), c.shift_right.ensures)) c.put.ensures.same c.put.ensures.written,
)

pub returns : goal.returns
returns c = end-bits _ _ _ c.loop-left.invariant.1 c.loop-left-test.false
