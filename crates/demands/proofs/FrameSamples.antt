-- A frame's samples: N of them, each of 32 bits; and the refusals after the header. Assumes nothing.
use Prim.Native.Nat.{ℕ, zero, suc, ◌+◌, ◌-◌, ◌*◌, ◌/◌, ◌%◌, ◌^◌, ◌≤◌}
use native.Mathlib.Nat.{div-add-mod', add_comm, mul_comm, zero-mul, suc-mul}
use native.Mathlib.Omega.{arith}
use mathlib.Core.Bool.{true}
use mathlib.Core.Path.{◌≡◌, refl, ap, ap₂, sym, ◌∙◌}
use mathlib.Core.List.{List, [], ◌∷◌, ◌++◌, map, reverse}
use borrow.Author.Tests.{leb-true, eqb-true}
use lib.Dec.{leb, ltb, eqb}
use lib.IntN.{ℤ, ◌+ℤ◌, ◌-ℤ◌}
use lib.ListN.{length, take, drop, replicate, length-append, length-map, length-replicate, length-take, length-drop}
use lib.Pow.{suc_ones}
use Rattle.reading.specs.Readers.{Ask, many}
use Rattle.reading.proofs.Postconditions.{Holds, value, refusal, holds_bind, holds_weaken, holds_refused, holds_bits, holds_zeros, holds_passed, holds_require, holds_if, Every, every_append, every_take, every_drop, Sized, total, holds_many, holds_each}
use Rattle.rfc9639.specs.declared.ChannelAssignment.{ChannelAssignment}
use Rattle.rfc9639.specs.declared.ChannelAssignment.TheVariants.{Independent, LeftSide, SideRight, MidSide}
use Rattle.rfc9639.specs.declared.SubframeType.{SubframeType}
use Rattle.rfc9639.specs.declared.SubframeType.TheVariants.{Constant, Verbatim, Fixed, Lpc}
use Rattle.rfc9639.specs.declared.FrameHeader.{FrameHeader}
use Rattle.rfc9639.specs.Integers.{shift_up, signed_bits}
use Rattle.rfc9639.specs.HeaderCodes.{channel_count}
use Rattle.rfc9639.specs.Header.{sample_count}
use Rattle.rfc9639.specs.Residual.{rice, escaped, coded_residuals, partition, partition_sizes, residual}
use Rattle.rfc9639.specs.Prediction.{predicted, restored, predict}
use Rattle.rfc9639.specs.Subframe.{subframe_type, wasted_bits, checked_wasted_bits, kind_and_wasted, subframe_header, order_of, fixed, quantization, lpc_after_shift, lpc, samples_by_type, subframe_after_header, subframe}
use Rattle.rfc9639.specs.Stereo.{right_of, left_of, doubled, left_of_mid, right_of_mid, pairwise, left_and_right}
use Rattle.rfc9639.specs.Stream.{possible, completed, bits_read, bits_fit, block_fits}
use Rattle.rfc9639.specs.Frame.{ReaderSettings, checked, opening, widths, footer, body, Frame, frame}
use Rattle.rfc9639.specs.Read.{begun}
use Rattle.rfc9639.proofs.Widths.{Fits, wrapped-fits, shift_down-fits, shift_up-fits}
use Rattle.demands.proofs.Headers.{Listed, Early, Late, forbidden, not_done, bad_shape, frame-sum, early-listed, late-listed, Sound, header_holds}
use Rattle.demands.proofs.StreamRecords.{completed-sound, read_bits_lem}

-- a signed number of 32 bits
abbrev pub Sample : ℤ → Type 0
Sample z = Fits 32 z

-- nothing is said about a value
abbrev Anything : {A : Type 0} → A → Type 0
Anything a = Unit {0}

-- this many, and nothing is said about each
abbrev Count : {A : Type 0} → ℕ → List A → Type 0
Count n xs = length xs ≡ n

-- ---- the residual

signed_bits_holds : (w : ℕ) → Holds Late Anything (signed_bits w)
unfolding signed_bits
signed_bits_holds w = holds_bind _ (holds_bits w) (λ v _. value tt)

many-count : {A : Type 0} (n : ℕ) {p : Ask A} → Holds Late Anything p → Holds Late (Count n) (many n p)
many-count n h = holds_weaken (λ xs s. s.count) (holds_many n h)

rice_holds : (k : ℕ) → Holds Late Anything (rice k)
unfolding rice
rice_holds k = holds_bind _ holds_zeros (λ q _. holds_bind _ (holds_bits k) (λ r _. value tt))

escaped_holds : (n : ℕ) → Holds Late (Sized n Anything) (escaped n)
unfolding escaped
escaped_holds n = holds_bind _ (holds_bits 5) (λ w _. holds_many n (signed_bits_holds w))

partition_holds : (method n : ℕ) → Holds Late (Sized n Anything) (partition method n)
unfolding partition coded_residuals
partition_holds method n =
    holds_bind _ (holds_bits (4 + method))
    (λ k _. holds_if (eqb k (2 ^ (4 + method) - 1)) (λ _. escaped_holds n) (λ _. holds_many n (rice_holds k)))

every_of : {A : Type 0} {P : A → Type 0} → ((a : A) → P a) → (xs : List A) → Every P xs
every_of h [] = tt
every_of h (x ∷ xs) = (h x, every_of h xs)

total-replicate : (n size : ℕ) → total (λ x. x) (replicate n size) ≡ n * size
total-replicate zero size = sym (zero-mul size)
total-replicate (suc n) size = ap (λ k. size + k) (total-replicate n size) ∙ sym (suc-mul n size ∙ add_comm (n * size) size)

-- the residuals of all partitions are those of the block without its warm-up
sizes : (order n warm : ℕ) → n % 2 ^ order ≡ 0 → warm ≤ n / 2 ^ order → total (λ x. x) (partition_sizes order (n / 2 ^ order) warm) ≡ n - warm
unfolding partition_sizes
sizes order n warm e h =
    let size = n / 2 ^ order in
    let all : size + (2 ^ order - 1) * size ≡ n =
    sym (add_comm ((2 ^ order - 1) * size) size) ∙ sym (suc-mul (2 ^ order - 1) size)
    ∙ ap (λ k. k * size) (suc_ones order) ∙ mul_comm (2 ^ order) size
    ∙ (let d = div-add-mod' n (2 ^ order) in omega arith) in
    omega (arith, total-replicate (2 ^ order - 1) size)

residual_holds : (warm n : ℕ) → Holds Late (Count (n - warm)) (residual warm n)
unfolding residual
residual_holds warm n =
    holds_bind _ (holds_bits 2)
    (λ method _. holds_bind _ (holds_require _ 4 forbidden)
    (λ _ _. holds_bind _ (holds_bits 4)
    (λ order _. holds_bind _ (holds_require (eqb (n % 2 ^ order) 0) 9 bad_shape)
    (λ _ e. holds_bind _ (holds_require (leb warm (n / 2 ^ order)) 9 bad_shape)
    (λ _ h. holds_weaken (λ xs s. s.count ∙ sizes order n warm (eqb-true (n % 2 ^ order) 0 e) (leb-true warm (n / 2 ^ order) h))
    (holds_each {P = Anything} (partition method) (λ x. x) (partition_sizes order (n / 2 ^ order) warm) (every_of (partition_holds method) (partition_sizes order (n / 2 ^ order) warm))))))))

-- ---- the subframe

restored-length : (cs : List ℤ) (k : ℕ) (before rs : List ℤ) → length (restored cs k before rs) ≡ length rs
unfolding restored
restored-length cs k before [] = refl
restored-length cs k before (r ∷ rs) = ap suc (restored-length cs k (predicted cs k before r ∷ before) rs)

predict-length : (cs : List ℤ) (k order n : ℕ) (warm rs : List ℤ) → length warm ≡ order → length rs ≡ n - order → order ≤ n → length (predict cs k warm rs) ≡ n
unfolding predict
predict-length cs k order n warm rs e f h =
    length-append warm (restored cs k (reverse warm) rs) ∙ ap₂ (λ (a b : ℕ). a + b) e (restored-length cs k (reverse warm) rs ∙ f) ∙ omega arith

fixed_holds : (order w n : ℕ) → order ≤ n → Holds Late (Count n) (fixed order w n)
unfolding fixed
fixed_holds order w n h =
    holds_bind _ (many-count order (signed_bits_holds w))
    (λ warm e. holds_bind _ (residual_holds order n) (λ rs f. value (predict-length _ 0 order n warm rs e f h)))

quantization_holds : Holds Late Anything quantization
unfolding quantization
quantization_holds =
    holds_bind _ (holds_bits 4)
    (λ precision _. holds_bind _ (holds_require _ 4 forbidden)
    (λ _ _. holds_bind _ (holds_bits 5) (λ shift _. holds_bind _ (holds_require _ 8 not_done) (λ _ _. value tt))))

lpc_holds : (order w n : ℕ) → order ≤ n → Holds Late (Count n) (lpc order w n)
unfolding lpc lpc_after_shift
lpc_holds order w n h =
    holds_bind _ (many-count order (signed_bits_holds w))
    (λ warm e. holds_bind _ quantization_holds
    (λ q _. holds_bind _ (many-count order (signed_bits_holds q.0))
    (λ cs _. holds_bind _ (residual_holds order n) (λ rs f. value (predict-length cs q.1 order n warm rs e f h)))))

samples_by_type_holds : (kind : SubframeType) (w n : ℕ) → order_of kind ≤ n → Holds Late (Count n) (samples_by_type kind w n)
unfolding samples_by_type order_of
samples_by_type_holds Constant w n h = holds_bind _ (signed_bits_holds w) (λ x _. value (length-replicate n x))
samples_by_type_holds Verbatim w n h = many-count n (signed_bits_holds w)
samples_by_type_holds (Fixed k) w n h = fixed_holds k w n h
samples_by_type_holds (Lpc k) w n h = lpc_holds k w n h

type_holds : (code : ℕ) → Holds Late Anything (subframe_type code)
unfolding subframe_type
type_holds code =
    holds_if (eqb code 0) (λ _. value tt)
    (λ _. holds_if (eqb code 1) (λ _. value tt)
    (λ _. holds_if (ltb code 8) (λ _. refusal forbidden)
    (λ _. holds_if (leb code 12) (λ _. value tt)
    (λ _. holds_if (ltb code 32) (λ _. refusal forbidden) (λ _. value tt)))))

wasted_holds : Holds Late Anything wasted_bits
unfolding wasted_bits
wasted_holds = holds_bind _ (holds_bits 1) (λ flag _. holds_if (eqb flag 0) (λ _. value tt) (λ _. holds_bind _ holds_zeros (λ z _. value tt)))

subframe_header_holds : (width : ℕ) → Holds Late Anything (subframe_header width)
unfolding subframe_header kind_and_wasted checked_wasted_bits
subframe_header_holds width =
    holds_bind _ (holds_bits 1)
    (λ reserved _. holds_bind _ (holds_require _ 4 forbidden)
    (λ _ _. holds_bind _ (holds_bits 6)
    (λ code _. holds_bind _ (type_holds code)
    (λ kind _. holds_bind _ (holds_bind {P = Anything} _ wasted_holds (λ wasted _. holds_bind _ (holds_require _ 9 bad_shape) (λ _ _. value tt)))
    (λ wasted _. value tt)))))

-- every sample is cut to 32 bits
shifted : (k n : ℕ) (xs : List ℤ) → length xs ≡ n → Sized n Sample (map (shift_up k) xs)
shifted k n xs e = record { count = length-map xs (shift_up k) ∙ e; every = go xs }
  where
    go : (ys : List ℤ) → Every Sample (map (shift_up k) ys)
    go [] = tt
    go (y ∷ ys) = (shift_up-fits k y, go ys)

pub subframe_holds : (n width : ℕ) → Holds Late (Sized n Sample) (subframe n width)
unfolding subframe subframe_after_header
subframe_holds n width =
    holds_bind _ (subframe_header_holds width)
    (λ h _. holds_bind _ (holds_require (leb (order_of h.kind) n) 9 bad_shape)
    (λ _ e. holds_bind _ (samples_by_type_holds h.kind (width - h.wasted) n (leb-true (order_of h.kind) n e)) (λ xs f. value (shifted h.wasted n xs f))))

-- ---- the channels

total-widths : (c : ChannelAssignment) (b n : ℕ) → total (λ w. n) (widths c b) ≡ channel_count c * n
unfolding widths channel_count
total-widths (Independent k) b n = go k
  where
    go : (k : ℕ) → total (λ w. n) (replicate k b) ≡ k * n
    go zero = sym (zero-mul n)
    go (suc k) = ap (λ m. n + m) (go k) ∙ sym (suc-mul k n ∙ add_comm (k * n) n)
total-widths LeftSide b n = omega arith
total-widths SideRight b n = omega arith
total-widths MidSide b n = omega arith

module _ (f : ℤ → ℤ → ℤ) (fits : (x y : ℤ) → Sample (f x y)) where
  pairs : (n : ℕ) (xs ys : List ℤ) → length xs ≡ n → length ys ≡ n → Sized n Sample (pairwise f xs ys)
  unfolding pairwise
  pairs n [] ys e g = record { count = e; every = tt }
  pairs zero (x ∷ xs) ys e g = absurd (omega arith)
  pairs (suc n) (x ∷ xs) [] e g = absurd (omega arith)
  pairs (suc n) (x ∷ xs) (y ∷ ys) e g = let r = pairs n xs ys (omega arith) (omega arith) in record { count = ap suc r.count; every = (fits x y, r.every) }

both : (n : ℕ) (xs ys : List ℤ) → Sized n Sample xs → Sized n Sample ys → Sized (2 * n) Sample (xs ++ ys)
both n xs ys a b = record { count = length-append xs ys ∙ omega (arith, a.count, b.count); every = every_append Sample xs ys a.every b.every }

right_of-fits : (x y : ℤ) → Sample (right_of x y)
unfolding right_of
right_of-fits x y = wrapped-fits 32 (x -ℤ y)

left_of-fits : (x y : ℤ) → Sample (left_of x y)
unfolding left_of
left_of-fits x y = wrapped-fits 32 (x +ℤ y)

left_of_mid-fits : (x y : ℤ) → Sample (left_of_mid x y)
unfolding left_of_mid
left_of_mid-fits x y = shift_down-fits (wrapped-fits 32 (doubled x y +ℤ y)) 1

right_of_mid-fits : (x y : ℤ) → Sample (right_of_mid x y)
unfolding right_of_mid
right_of_mid-fits x y = shift_down-fits (wrapped-fits 32 (doubled x y -ℤ y)) 1

left_and_right-sized : (c : ChannelAssignment) (n : ℕ) (xs : List ℤ) → Sized (channel_count c * n) Sample xs → Sized (channel_count c * n) Sample (left_and_right c n xs)
unfolding left_and_right channel_count
left_and_right-sized c n xs h = go c h
  where
    first : length xs ≡ 2 * n → length (take n xs) ≡ n
    first e = length-take n xs ∙ omega arith

    second : length xs ≡ 2 * n → length (drop n xs) ≡ n
    second e = length-drop n xs ∙ omega arith

    two : (f : ℤ → ℤ → ℤ) → ((x y : ℤ) → Sample (f x y)) → length xs ≡ 2 * n → Sized n Sample (pairwise f (take n xs) (drop n xs))
    two f fits e = pairs f fits n (take n xs) (drop n xs) (first e) (second e)

    go : (c : ChannelAssignment) → Sized (channel_count c * n) Sample xs → Sized (channel_count c * n) Sample (left_and_right c n xs)
    go (Independent k) h = h
    go LeftSide h = both n (take n xs) _ (record { count = first h.count; every = every_take Sample n xs h.every }) (two right_of right_of-fits h.count)
    go SideRight h = both n _ (drop n xs) (two left_of left_of-fits h.count) (record { count = second h.count; every = every_drop Sample n xs h.every })
    go MidSide h = both n _ _ (two left_of_mid left_of_mid-fits h.count) (two right_of_mid right_of_mid-fits h.count)

-- ---- the frame

footer_holds : Holds Late Anything footer
unfolding footer
footer_holds =
    holds_bind _ holds_passed
    (λ coded _. holds_bind _ (holds_bits _)
    (λ pad _. holds_bind _ holds_passed
    (λ before _. holds_bind _ (holds_bits 16) (λ sum _. holds_weaken (λ _ _. tt) (holds_require _ 10 frame-sum)))))

pub body_holds : (h : FrameHeader) → Holds Late (Sized (sample_count h) Sample) (body h)
unfolding body sample_count
body_holds h =
    holds_bind _ (holds_each (subframe h.size) (λ w. h.size) (widths h.channels h.bits) (every_of (subframe_holds h.size) (widths h.channels h.bits)))
    (λ xs s. holds_bind _ footer_holds
    (λ _ _. value
    (left_and_right-sized h.channels h.size xs (record { count = s.count ∙ total-widths h.channels h.bits h.size; every = s.every }))))

-- a header whose frame fits the stream and the room
pub record HeaderInRoom (set : ReaderSettings) (h : FrameHeader) : Type 0 where
  pub sound : Sound h
  pub depth : 1 ≤ h.bits
  pub stream : bits_fit set.given.stream h.bits ≡ true
  pub block : block_fits set.given.block h.time h.size ≡ true
  pub room : sample_count h ≤ set.room

checked_holds : (set : ReaderSettings) (h : FrameHeader) → (h.bits ≤ 24 → Sound h) → Holds Early (HeaderInRoom set) (checked set h)
unfolding checked
checked_holds set h sound =
    holds_bind _ (holds_require (bits_read h.bits) 8 (omega arith))
    (λ _ d. holds_bind _ (holds_require (bits_fit set.given.stream h.bits) 9 (omega arith))
    (λ _ b. holds_bind _ (holds_require (block_fits set.given.block h.time h.size) 9 (omega arith))
    (λ _ f. holds_bind _ (holds_require (leb (sample_count h) set.room) 7 (omega arith))
    (λ _ r. value
    (record {
      sound = sound (read_bits_lem h.bits d).1;
      depth = (read_bits_lem h.bits d).0;
      stream = b;
      block = f;
      room = leb-true (sample_count h) set.room r;
    })))))

pub opening_holds : (set : ReaderSettings) → Holds Early (HeaderInRoom set) (opening set)
unfolding opening
opening_holds set =
    holds_bind _ (holds_require (possible set.given) 11 (omega arith))
    (λ _ _. holds_bind _ header_holds
    (λ own s. checked_holds set (completed set.given.stream own) (completed-sound set.given.stream s)))

pub record FrameInRoom (set : ReaderSettings) (f : Frame) : Type 0 where
  pub header : HeaderInRoom set f.header
  pub samples : Sized (sample_count f.header) Sample f.samples

pub frame_holds : (set : ReaderSettings) → Holds Listed (FrameInRoom set) (frame set)
unfolding frame
frame_holds set =
    holds_bind _ (holds_refused early-listed (opening_holds set))
    (λ h o. holds_bind _ (holds_refused late-listed (body_holds h)) (λ xs s. value (record { header = o; samples = s })))

pub begun_holds : (set : ReaderSettings) → Holds Early (HeaderInRoom set) (begun set)
unfolding begun
begun_holds set = holds_bind _ (opening_holds set) (λ h o. holds_bind _ (holds_bits 1) (λ bit _. value o))
