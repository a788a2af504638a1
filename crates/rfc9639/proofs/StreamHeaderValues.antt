-- What holds of every value that the parts of a stream header get, and which refusals they have. Assumes nothing.
use Prim.Native.Nat.{ℕ, ◌+◌, ◌*◌, ◌^◌, ◌≤◌, ◌<◌}
use native.Mathlib.Omega.{arith}
use borrow.Author.Tests.{leb-true, ltb-true}
use lib.Dec.{leb, ltb}
use Rattle.reading.proofs.Postconditions.{Holds, value, holds_bind, holds_weaken, holds_bits, holds_require}
use Rattle.rfc9639.specs.declared.Md5.{Md5}
use Rattle.rfc9639.specs.declared.Sizes.{Sizes}
use Rattle.rfc9639.specs.declared.StreamInfo.{StreamInfo}
use Rattle.rfc9639.specs.StreamHeader.{mark, sizes, rate_channels_and_bits, md5, stream_info, last_and_type, first_block, block_head, skipped_block, stream_start}

pub data StreamRefusal : ℕ → Type 0 where
  no_mark : StreamRefusal 3
  forbidden : StreamRefusal 4
  bad_shape : StreamRefusal 9

-- two sizes of w bits
pub record SizesBelow (w : ℕ) (x : Sizes) : Type 0 where
  pub smallest : x.smallest < 2 ^ w
  pub largest : x.largest < 2 ^ w

pub record Md5InRange (x : Md5) : Type 0 where
  pub high : x.high < 2 ^ 64
  pub low : x.low < 2 ^ 64

-- what a stream header can say
pub record InfoInRange (i : StreamInfo) : Type 0 where
  pub blocks : SizesBelow 16 i.blocks
  pub frames : SizesBelow 24 i.frames
  pub rate : i.rate < 2 ^ 20
  pub mono : 1 ≤ i.channels
  pub channels : i.channels ≤ 8
  pub deep : 4 ≤ i.bits
  pub bits : i.bits ≤ 32
  pub samples : i.samples < 2 ^ 36
  pub md5 : Md5InRange i.md5

mark_holds : Holds StreamRefusal (λ _. Unit {0}) mark
unfolding mark
mark_holds = holds_bind _ (holds_bits 32) (λ v _. holds_weaken (λ _ _. tt) (holds_require _ 3 no_mark))

sizes_holds : (w : ℕ) → Holds StreamRefusal (SizesBelow w) (sizes w)
unfolding sizes
sizes_holds w = holds_bind _ (holds_bits w) (λ a h. holds_bind _ (holds_bits w) (λ b g. value (record { smallest = h; largest = g })))

md5_holds : Holds StreamRefusal Md5InRange md5
unfolding md5
md5_holds = holds_bind _ (holds_bits 64) (λ a h. holds_bind _ (holds_bits 64) (λ b g. value (record { high = h; low = g })))

-- rate, channels and bits
abbrev FormatInRange : ℕ × ℕ × ℕ → Type 0
FormatInRange x = (x.0 < 2 ^ 20) × (1 ≤ x.1) × (x.1 ≤ 8) × (4 ≤ x.2) × (x.2 ≤ 32)

format_holds : Holds StreamRefusal FormatInRange rate_channels_and_bits
unfolding rate_channels_and_bits
format_holds =
    holds_bind _ (holds_bits 20)
    (λ rate h. holds_bind _ (holds_bits 3)
    (λ channels g. holds_bind _ (holds_bits 5)
    (λ depth l. holds_bind _ (holds_require (leb 4 (depth + 1)) 9 bad_shape)
    (λ _ e. value {a = (rate, channels + 1, depth + 1)} (let k = leb-true 4 (depth + 1) e in (h, omega arith, omega arith, k, omega arith))))))

info_holds : Holds StreamRefusal InfoInRange stream_info
unfolding stream_info
info_holds =
    holds_bind _ (sizes_holds 16)
    (λ blocks b. holds_bind _ (sizes_holds 24)
    (λ frames f. holds_bind _ format_holds
    (λ format k. holds_bind _ (holds_bits 36)
    (λ samples n. holds_bind _ md5_holds
    (λ sum m. value
    (record {
      blocks = b;
      frames = f;
      rate = k.0;
      mono = k.1;
      channels = k.2;
      deep = k.3;
      bits = k.4;
      samples = n;
      md5 = m;
    }))))))

type_holds : Holds StreamRefusal (λ x. x.1 < 127) last_and_type
unfolding last_and_type
type_holds =
    holds_bind _ (holds_bits 1)
    (λ last _. holds_bind _ (holds_bits 7)
    (λ type _. holds_bind _ (holds_require (ltb type 127) 4 forbidden) (λ _ e. value (ltb-true type 127 e))))

first_holds : Holds StreamRefusal (λ x. InfoInRange x.1) first_block
unfolding first_block
first_holds =
    holds_bind _ type_holds
    (λ x _. holds_bind _ (holds_require _ 9 bad_shape)
    (λ _ _. holds_bind _ (holds_bits 24) (λ size _. holds_bind _ (holds_require _ 9 bad_shape) (λ _ _. holds_bind _ info_holds (λ info k. value k)))))

pub start_holds : Holds StreamRefusal (λ x. InfoInRange x.1) stream_start
unfolding stream_start
start_holds = holds_bind _ mark_holds (λ _ _. first_holds)

-- a block's length has 24 bits
pub head_holds : Holds StreamRefusal (λ x. x.1 < 2 ^ 24) block_head
unfolding block_head
head_holds = holds_bind _ type_holds (λ x _. holds_bind _ (holds_bits 24) (λ size h. value h))

pub block_holds : Holds StreamRefusal (λ _. Unit {0}) skipped_block
unfolding skipped_block
block_holds = holds_bind _ head_holds (λ x _. holds_bind _ (holds_bits (8 * x.1)) (λ contents _. value tt))
