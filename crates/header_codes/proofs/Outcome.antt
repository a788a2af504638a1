-- Any two outcomes that meet a public function's contract are equal. Assumes nothing.
use Prim.Native.Nat.{ℕ}
use mathlib.Core.Path.{◌≡◌, refl, sym, ap, ◌∙◌}
use mathlib.Core.Bool.{cond}
use lib.Dec.{eqb}
use Rattle.reading.specs.Readers.{Ask, done, stop, ask, seen, next_bits, next_zeros, bits, ◌>>=◌}
use Rattle.reading.proofs.Outcome.{OneOutcome, one_value}
use Rattle.std.specs.Prelude.{Result, Ok, Err}
use Rattle.error.specs.declared.Refusal.{Refusal}
use Rattle.error.proofs.Outcome.{number-tells}
use Rattle.header_codes.specs.declared.BlockSize.{BlockSize}
use Rattle.header_codes.specs.declared.BlockSize.TheVariants.{Samples, InByte, InTwoBytes}
use Rattle.header_codes.specs.Answers.{size_ask, depth_ask}
use Rattle.header_codes.specs.contracts.block_size as block_size
use Rattle.header_codes.proofs.block_size.Reads as block_size_reads
use Rattle.header_codes.specs.contracts.size_code as size_code
use Rattle.header_codes.proofs.size_code.Reads as size_code_reads
use Rattle.header_codes.specs.contracts.rate_bits as rate_bits
use Rattle.header_codes.proofs.rate_bits.Reads as rate_bits_reads
use Rattle.header_codes.specs.contracts.sample_rate as sample_rate
use Rattle.header_codes.proofs.sample_rate.Reads as sample_rate_reads
use Rattle.header_codes.specs.contracts.channel_assignment as channel_assignment
use Rattle.header_codes.proofs.channel_assignment.Reads as channel_assignment_reads
use Rattle.header_codes.specs.contracts.channel_count as channel_count
use Rattle.header_codes.proofs.channel_count.Reads as channel_count_reads
use Rattle.header_codes.specs.contracts.bit_depth as bit_depth
use Rattle.header_codes.proofs.bit_depth.Reads as bit_depth_reads
use Rattle.header_codes.specs.contracts.bits_code as bits_code
use Rattle.header_codes.proofs.bits_code.Reads as bits_code_reads

-- the answer that a reader stands for, by its first step; the last three stand for none
size_of : Ask ℕ → BlockSize
size_of (done n) = Samples n
size_of (ask (next_bits n) k) = cond (eqb n 8) InByte InTwoBytes
size_of (ask next_zeros k) = InByte
size_of (stop n) = InByte
size_of (seen k) = InByte

size_back : (r : BlockSize) → size_of (size_ask r) ≡ r
unfolding bits ◌>>=◌ size_of
size_back (Samples n) = refl
size_back InByte = refl
size_back InTwoBytes = refl

pub block_size-one : OneOutcome block_size.ended block_size_reads.Learnt
block_size-one κs args r r' left left' p q = (sym (size_back r) ∙ ap size_of (one_value p q) ∙ size_back r', refl)

pub size_code-one : OneOutcome size_code.ended size_code_reads.Learnt
size_code-one κs args r r' left left' p q = (one_value p q, refl)

pub rate_bits-one : OneOutcome rate_bits.ended rate_bits_reads.Learnt
rate_bits-one κs args r r' left left' p q = (one_value p q, refl)

pub sample_rate-one : OneOutcome sample_rate.ended sample_rate_reads.Learnt
sample_rate-one κs args r r' left left' p q = (one_value p q, refl)

pub channel_assignment-one : OneOutcome channel_assignment.ended channel_assignment_reads.Learnt
channel_assignment-one κs args r r' left left' p q = (one_value p q, refl)

pub channel_count-one : OneOutcome channel_count.ended channel_count_reads.Learnt
channel_count-one κs args r r' left left' p q = (one_value p q, refl)

depth-one : (r r' : Result ℕ Refusal) → depth_ask r ≡ depth_ask r' → r ≡ r'
depth-one (Ok n) (Ok n') e = cc
depth-one (Ok n) (Err x) e = cc
depth-one (Err x) (Ok n) e = cc
depth-one (Err x) (Err y) e = ap Err (number-tells x y (cc))

pub bit_depth-one : OneOutcome bit_depth.ended bit_depth_reads.Learnt
bit_depth-one κs args r r' left left' p q = (depth-one r r' (one_value p q), refl)

pub bits_code-one : OneOutcome bits_code.ended bits_code_reads.Learnt
bits_code-one κs args r r' left left' p q = (one_value p q, refl)
