-- How many bits the parts of a stream header take: all of them whole bytes, 42 up to STREAMINFO's end, and four or more
-- for each block after it. Assumes nothing.
use Prim.Native.Nat.{ℕ, zero, suc, ◌+◌, ◌*◌, ◌%◌, ◌≤◌}
use native.Mathlib.Omega.{arith}
use mathlib.Core.Path.{◌≡◌}
use Rattle.reading.proofs.BitsTaken.{Takes, TakesBits, takes-bits, takes-done, takes-stop, takes-require, takes_if, takes_weaken, takes_bind, takes_then}
use Rattle.rfc9639.specs.StreamHeader.{mark, sizes, rate_channels_and_bits, md5, stream_info, last_and_type, first_block, block_head, skipped_block, skipped_blocks, stream_start, stream_header}

mark-takes : TakesBits 32 mark
unfolding mark
mark-takes = takes_then _ (takes-bits 32) (λ v. takes-require _ 3)

sizes-takes : (w : ℕ) → TakesBits (w + (w + 0)) (sizes w)
unfolding sizes
sizes-takes w = takes_then _ (takes-bits w) (λ _. takes_then _ (takes-bits w) (λ _. takes-done))

format_takes : TakesBits 28 rate_channels_and_bits
unfolding rate_channels_and_bits
format_takes =
    takes_then _ (takes-bits 20)
    (λ _. takes_then _ (takes-bits 3) (λ _. takes_then _ (takes-bits 5) (λ _. takes_then _ (takes-require _ 9) (λ _. takes-done))))

md5-takes : TakesBits 128 md5
unfolding md5
md5-takes = takes_then _ (takes-bits 64) (λ _. takes_then _ (takes-bits 64) (λ _. takes-done))

-- 34 bytes
info_takes : TakesBits 272 stream_info
unfolding stream_info
info_takes =
    takes_then _ (sizes-takes 16)
    (λ _. takes_then _ (sizes-takes 24)
    (λ _. takes_then _ format_takes (λ _. takes_then _ (takes-bits 36) (λ _. takes_then _ md5-takes (λ _. takes-done)))))

type_takes : TakesBits 8 last_and_type
unfolding last_and_type
type_takes =
    takes_then _ (takes-bits 1) (λ _. takes_then _ (takes-bits 7) (λ _. takes_then _ (takes-require _ 4) (λ _. takes-done)))

first-takes : TakesBits 304 first_block
unfolding first_block
first-takes =
    takes_then _ type_takes
    (λ _. takes_then _ (takes-require _ 9)
    (λ _. takes_then _ (takes-bits 24) (λ _. takes_then _ (takes-require _ 9) (λ _. takes_then _ info_takes (λ _. takes-done)))))

-- 42 bytes
pub start-takes : TakesBits 336 stream_start
unfolding stream_start
start-takes = takes_then _ mark-takes (λ _. first-takes)

pub head-takes : TakesBits 32 block_head
unfolding block_head
head-takes = takes_then _ type_takes (λ _. takes_then _ (takes-bits 24) (λ _. takes-done))

-- so a block is whole bytes, at least four
pub block-takes : Takes (λ k. (32 ≤ k) × (k % 8 ≡ 0)) skipped_block
unfolding skipped_block
block-takes =
    takes_bind _ (λ m n e h. omega arith) head-takes
    (λ x. takes_bind {R = λ k. k % 8 ≡ 0} _ (λ m n e f. omega arith) (takes-bits (8 * x.1)) (λ _. takes-done))

pub blocks-take : (n : ℕ) → Takes (λ k. k % 8 ≡ 0) (skipped_blocks n)
unfolding skipped_blocks
blocks-take zero = takes-stop
blocks-take (suc n) =
    takes_bind _ (λ i j h g. omega arith) block-takes
    (λ last. takes_if {P = λ k. k % 8 ≡ 0} last (takes_weaken (λ i e. omega arith) takes-done) (blocks-take n))

pub header-takes : (n : ℕ) → Takes (λ k. (336 ≤ k) × (k % 8 ≡ 0)) (stream_header n)
unfolding stream_header
header-takes n =
    takes_bind _ (λ i j e h. omega arith) start-takes
    (λ x. takes_bind {R = λ k. k % 8 ≡ 0} _ (λ i j h g. omega arith)
    (takes_if {P = λ k. k % 8 ≡ 0} x.0 (takes_weaken (λ i e. omega arith) takes-done) (blocks-take n)) (λ _. takes-done))
