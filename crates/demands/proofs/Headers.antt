-- Headers: what holds of every header that the definition reads, and which refusals it has. Assumes nothing.
use Prim.Native.Nat.{ℕ, zero, suc, ◌+◌, ◌*◌, ◌%◌, ◌^◌, ◌≤◌, ◌<◌}
use native.Mathlib.Nat.{pow-suc, mul_assoc, mul_comm, lt_of_lt_of_le, mul-le-mul_right, mul-one}
use native.Mathlib.Omega.{arith}
use mathlib.Core.Path.{◌≡◌, refl, subst}
use mathlib.Core.Bool.{Bool, true, false}
use mathlib.Core.List.{List}
use borrow.Author.Tests.{ltb-true, leb-true}
use lib.Dec.{leb, ltb, eqb}
use lib.Pow.{pow_mono, pow_pos}
use Rattle.reading.specs.declared.Place.{Place}
use Rattle.std.specs.Prelude.{if◌then◌else◌}
use Rattle.reading.specs.Places.{got_at, place_of, run_at}
use Rattle.reading.proofs.Postconditions.{Holds, Meets, holds_at, value, refusal, holds_bind, holds_weaken, holds_bits, holds_passed, holds_require, holds_if}
use Rattle.rfc9639.specs.declared.BlockTime.{BlockTime}
use Rattle.rfc9639.specs.declared.BlockTime.TheVariants.{FrameNumber, SampleNumber}
use Rattle.rfc9639.specs.declared.Codes.{Codes}
use Rattle.rfc9639.specs.declared.FrameHeader.{FrameHeader}
use Rattle.rfc9639.specs.Number.{with_followers, number_from, coded_number}
use Rattle.rfc9639.specs.HeaderCodes.{bit_depth, block_size, rate_bits, channel_count}
use Rattle.rfc9639.specs.Header.{time_of, sync, size_and_rate, depth_and_zero, channels_and_bits, codes, block_time, header_sum, header_after_codes, header}
use Rattle.rfc9639.proofs.Lists.{channels_between}

-- the refusals that a frame can have
abbrev pub Listed : ℕ → Type 0
Listed n = (3 ≤ n) × (n ≤ 11)

-- those of the settings, of the header and of the checks right after it: all but the footer's
abbrev pub Early : ℕ → Type 0
Early n = (3 ≤ n) × (n ≤ 11) × (n ≡ 10 → ⊥)

-- those of the subframes and the footer
pub data Late : ℕ → Type 0 where
  forbidden : Late 4
  not_done : Late 8
  bad_shape : Late 9
  frame-sum : Late 10

pub early-listed : (n : ℕ) → Early n → Listed n
early-listed n h = omega arith

pub late-listed : (n : ℕ) → Late n → Listed n
late-listed n forbidden = omega arith
late-listed n not_done = omega arith
late-listed n bad_shape = omega arith
late-listed n frame-sum = omega arith

-- ---- the number

with_followers_holds : (n v : ℕ) → Holds Early (λ x. x < suc v * 64 ^ n) (with_followers n v)
unfolding with_followers
with_followers_holds zero v = value {a = v} (rw mul-one (omega arith))
with_followers_holds (suc n) v =
    holds_bind _ (holds_bits 8)
    (λ b _. holds_bind _ (holds_require _ 5 (omega arith))
    (λ _ _. holds_weaken
    (λ x h. lt_of_lt_of_le h
    (rw (pow-suc 64 n, mul_comm (64 ^ n) 64, ← mul_assoc (suc v) 64 (64 ^ n)) (mul-le-mul_right (64 ^ n) (omega arith))))
    (with_followers_holds n (v * 64 + b % 64))))

pub number_holds : Holds Early (λ x. x < 2 ^ 36) coded_number
unfolding coded_number number_from
number_holds =
    holds_bind _ (holds_bits 8)
    (λ b _. holds_if (ltb b 0x80) (λ e. value (omega (arith, ltb-true b 0x80 e)))
    (λ _. holds_if (ltb b 0xc0) (λ _. refusal (omega arith))
    (λ _. holds_if (ltb b 0xe0) (λ _. holds_weaken (λ x h. omega arith) (with_followers_holds 1 (b % 32)))
    (λ _. holds_if (ltb b 0xf0) (λ _. holds_weaken (λ x h. omega arith) (with_followers_holds 2 (b % 16)))
    (λ _. holds_if (ltb b 0xf8) (λ _. holds_weaken (λ x h. omega arith) (with_followers_holds 3 (b % 8)))
    (λ _. holds_if (ltb b 0xfc) (λ _. holds_weaken (λ x h. omega arith) (with_followers_holds 4 (b % 4)))
    (λ _. holds_if (ltb b 0xfe) (λ _. holds_weaken (λ x h. omega arith) (with_followers_holds 5 (b % 2)))
    (λ _. holds_if (ltb b 0xff) (λ _. holds_weaken (λ x h. omega arith) (with_followers_holds 6 0)) (λ _. refusal (omega arith))))))))))

-- ---- the header

-- the number in a header: the frame's own, or that of its first sample
unfoldable pub number_in : BlockTime → ℕ
number_in (FrameNumber n) = n
number_in (SampleNumber n) = n

number_in_time : (blocking n : ℕ) → number_in (time_of blocking n) ≡ n
unfolding time_of number_in
number_in_time blocking n = go (eqb blocking 0)
  where
    go : (b : Bool) → number_in (if b then FrameNumber n else SampleNumber n) ≡ n
    go true = refl
    go false = refl

pub record Sound (h : FrameHeader) : Type 0 where
  pub some : 1 ≤ h.size
  pub size : h.size ≤ 65535
  pub mono : 1 ≤ channel_count h.channels
  pub channels : channel_count h.channels ≤ 8
  pub bits : h.bits ≤ 24
  pub number : number_in h.time < 2 ^ 36

pub depth_holds : (code : ℕ) → Holds Early (λ d. d ≤ 24) (bit_depth code)
unfolding bit_depth
depth_holds code =
    holds_if (eqb code 0) (λ _. value {a = 0} (omega arith))
    (λ _. holds_if (eqb code 1) (λ _. value {a = 8} (omega arith))
    (λ _. holds_if (eqb code 2) (λ _. value {a = 12} (omega arith))
    (λ _. holds_if (eqb code 3) (λ _. refusal (omega arith))
    (λ _. holds_if (eqb code 4) (λ _. value {a = 16} (omega arith))
    (λ _. holds_if (eqb code 5) (λ _. value {a = 20} (omega arith))
    (λ _. holds_if (eqb code 6) (λ _. value {a = 24} (omega arith)) (λ _. refusal (omega arith))))))))

size_holds : (code : ℕ) → code < 16 → Holds Early (λ n. (1 ≤ n) × (n ≤ 65535)) (block_size code)
unfolding block_size
size_holds code h =
    holds_if (eqb code 1) (λ _. value {a = 192} (omega arith))
    (λ _. holds_if (leb code 5)
    (λ e. value {a = 144 * 2 ^ code} (omega (arith, pow_mono {i = code} {j = 5} (leb-true code 5 e), pow_pos code)))
    (λ _. holds_if (eqb code 6) (λ _. holds_bind _ (holds_bits 8) (λ v l. value {a = v + 1} (omega arith)))
    (λ _. holds_if (eqb code 7)
    (λ _. holds_bind _ (holds_bits 16)
    (λ v _. holds_bind _ (holds_require (ltb v 65535) 4 (omega arith)) (λ _ e. value {a = v + 1} (omega (arith, ltb-true v 65535 e)))))
    (λ _. value {a = 2 ^ code} (omega (arith, pow_mono {i = code} {j = 15} (omega arith), pow_pos code))))))

sync_holds : Holds Early (λ b. b < 2) sync
unfolding sync
sync_holds = holds_bind _ (holds_bits 16) (λ v _. holds_bind _ (holds_require _ 3 (omega arith)) (λ _ _. value {a = v % 2} (omega arith)))

size_and_rate_holds : Holds Early (λ c. c.0 < 16) size_and_rate
unfolding size_and_rate
size_and_rate_holds =
    holds_bind _ (holds_bits 4)
    (λ size small. holds_bind _ (holds_require _ 4 (omega arith))
    (λ _ _. holds_bind _ (holds_bits 4) (λ rate _. holds_bind _ (holds_require _ 4 (omega arith)) (λ _ _. value small))))

pub depth_and_zero_holds : Holds Early (λ d. d ≤ 24) depth_and_zero
unfolding depth_and_zero
depth_and_zero_holds =
    holds_bind _ (holds_bits 3)
    (λ code _. holds_bind _ (depth_holds code)
    (λ n deep. holds_bind _ (holds_bits 1) (λ reserved _. holds_bind _ (holds_require _ 4 (omega arith)) (λ _ _. value {a = n} deep))))

channels_and_bits_holds : Holds Early (λ c. (1 ≤ channel_count c.0) × (channel_count c.0 ≤ 8) × (c.1 ≤ 24)) channels_and_bits
unfolding channels_and_bits
channels_and_bits_holds =
    holds_bind _ (holds_bits 4)
    (λ channels _. holds_bind _ (holds_require _ 4 (omega arith))
    (λ _ _. holds_bind _ depth_and_zero_holds (λ n deep. value ((channels_between channels).0, (channels_between channels).1, deep))))

-- codes that a header can have
pub record CodesInRange (c : Codes) : Type 0 where
  pub blocking : c.blocking < 2
  pub size : c.size < 16
  pub mono : 1 ≤ channel_count c.channels
  pub channels : channel_count c.channels ≤ 8
  pub bits : c.bits ≤ 24

pub codes_holds : Holds Early CodesInRange codes
unfolding codes
codes_holds =
    holds_bind _ sync_holds
    (λ blocking two. holds_bind _ size_and_rate_holds
    (λ c small. holds_bind _ channels_and_bits_holds
    (λ d k. value (record { blocking = two; size = small; mono = k.0; channels = k.1; bits = k.2 }))))

time_holds : (blocking : ℕ) → Holds Early (λ time. number_in time < 2 ^ 36) (block_time blocking)
unfolding block_time
time_holds blocking =
    holds_bind _ number_holds
    (λ number below. holds_bind _ (holds_require _ 5 (omega arith)) (λ _ _. value (rw (number_in_time blocking number) below)))

sum_holds : Holds Early (λ _. Unit {0}) header_sum
unfolding header_sum
sum_holds =
    holds_bind _ holds_passed (λ before _. holds_bind _ (holds_bits 8) (λ sum _. holds_weaken (λ _ _. tt) (holds_require _ 6 (omega arith))))

pub header_holds : Holds Early Sound header
unfolding header header_after_codes
header_holds =
    holds_bind _ codes_holds
    (λ c k. holds_bind _ (time_holds c.blocking)
    (λ time below. holds_bind _ (size_holds c.size k.size)
    (λ size fits. holds_bind _ (holds_bits (rate_bits c.rate))
    (λ rate _. holds_bind _ sum_holds
    (λ _ _. value
    (record {
      some = fits.0;
      size = fits.1;
      mono = k.mono;
      channels = k.channels;
      bits = k.bits;
      number = below;
    }))))))

pub header-sound : (s : List ℕ) {h : FrameHeader} {p : Place} → run_at header s (place_of 0) ≡ got_at h p → Sound h
header-sound s e = subst (Meets Early Sound) e (holds_at Early Sound s (place_of 0) header_holds)
