-- The body of a frame: the width of each channel, the loop that reads them, and the footer. Assumes nothing.
use Prim.Native.Nat.{ℕ, zero, suc, ◌+◌, ◌-◌, ◌*◌, ◌≤◌, ◌<◌}
use native.Mathlib.Nat.{suc-mul, zero-mul, mul-le-mul_right}
use native.Mathlib.Numerals.{add-one}
use native.Mathlib.Omega.{arith}
use mathlib.Core.Path.{◌≡◌, refl, ap, sym, ◌∙◌}
use mathlib.Core.Bool.{true, false}
use mathlib.Core.List.{List, [], ◌∷◌}
use borrow.Rule.Slice.PartMut.{mid_of, put_mid, same_len_mid}
use lib.IntN.{ℤ, pos}
use lib.ListN.{length, get_or, take, drop, replicate, length-replicate, get_or-replicate, drop_of_length-le}
use lib.Seq.{take_all, drop-cons}
use Rattle.reading.specs.declared.Place.{Place}
use Rattle.reading.specs.Readers.{Ask, each}
use Rattle.reading.specs.Places.{At, got_at, run_at}
use Rattle.reading.proofs.ByteRuns.{In, stays_in, run_at-done, bind_got_lem, prepended, prepended_nil, each_step, each-end}
use Rattle.std.specs.Prelude.{Result, Ok, Err, MatchResult}
use Rattle.std.specs.Result.{is_ok}
use Rattle.error.specs.declared.Refusal.{Refusal}
use Rattle.error.specs.Numbers.{refused_by}
use Rattle.error.specs.Answers.{passed_at}
use Rattle.error.proofs.Refusals.{bind_refusal}
use Rattle.rfc9639.specs.declared.ChannelAssignment.{ChannelAssignment}
use Rattle.rfc9639.specs.declared.ChannelAssignment.TheVariants.{Independent, LeftSide, SideRight, MidSide}
use Rattle.rfc9639.specs.declared.FrameHeader.{FrameHeader}
use Rattle.rfc9639.specs.HeaderCodes.{channel_count}
use Rattle.rfc9639.specs.Subframe.{subframe}
use Rattle.rfc9639.specs.Stereo.{left_and_right}
use Rattle.rfc9639.specs.Frame.{widths, footer, body}
use Rattle.subframe.specs.Answers.{samples_at, Left, subframe_at}
use Rattle.subframe.proofs.SliceParts.{prepended-refusal, part-size, part-taken}
use Rattle.subframe.proofs.Partitions.{first-refused}
use Rattle.subframe.proofs.DecodedSubframes.{not_wide}

-- ---- the widths

pub length-widths : (c : ChannelAssignment) (b : ℕ) → length (widths c b) ≡ channel_count c
unfolding widths channel_count
length-widths (Independent n) b = length-replicate n b
length-widths LeftSide b = refl
length-widths SideRight b = refl
length-widths MidSide b = refl

-- of two channels the second is one bit wider, or the first
pub second_wider : (b i : ℕ) → i < 2 → b + i ≡ get_or (b ∷ (b + 1) ∷ []) i 0
second_wider b zero h = omega arith
second_wider b (suc zero) h = refl
second_wider b (suc (suc i)) h = absurd (omega arith)

pub first_wider : (b i : ℕ) → i < 2 → b + 1 - i ≡ get_or ((b + 1) ∷ b ∷ []) i 0
first_wider b zero h = omega arith
first_wider b (suc zero) h = omega arith
first_wider b (suc (suc i)) h = absurd (omega arith)

-- no channel is wider than 32 bits
pub width_few : (c : ChannelAssignment) (b i : ℕ) → b ≤ 24 → i < channel_count c → get_or (widths c b) i 0 ≤ 32
unfolding widths channel_count
width_few (Independent n) b i h l = omega (arith, get_or-replicate n i b 0 l)
width_few LeftSide b i h l = omega (arith, second_wider b i l)
width_few SideRight b i h l = omega (arith, first_wider b i l)
width_few MidSide b i h l = omega (arith, second_wider b i l)

-- ---- a loop over parts of n samples, one for each width: i of them are read. The first may start outside the input, and
-- is then refused.

pub record PartsRead (n : ℕ) (ws : List ℕ) (s : List ℕ) (at₀ : Place) (l₀ l : List ℤ) (i : ℕ) (at : Place) : Type 0 where
  pub place : 1 ≤ i → In s at
  pub long : length l ≡ length l₀
  pub sized : length l ≡ length ws * n
  pub same : run_at (each (subframe n) ws) s at₀ ≡ prepended (take (i * n) l) (run_at (each (subframe n) (drop i ws)) s at)

pub begin : (n : ℕ) (ws : List ℕ) {s : List ℕ} {at : Place} (l : List ℤ) → length l ≡ length ws * n → PartsRead n ws s at l l 0 at
begin n ws l e = record { place = λ h. absurd (omega arith); long = refl; sized = e; same = rw zero-mul (sym (prepended_nil _)) }

module _ {n : ℕ} {ws : List ℕ} {s : List ℕ} {at₀ : Place} {l₀ l : List ℤ} {i : ℕ} {at : Place} (inv : PartsRead n ws s at₀ l₀ l i at) where
  module _ (h : i < length ws) where
    abbrev start : ℕ
    start = i * n

    abbrev part : ℕ
    part = start + n - start

    next-start : (i + 1) * n ≡ start + n
    next-start = ap (λ m. m * n) (add-one i) ∙ suc-mul i n

    pub part-fits : start + n ≤ length l
    part-fits = let k : (i + 1) * n ≤ length ws * n = mul-le-mul_right n (omega arith) in omega (arith, next-start, inv.sized)

    next-part : run_at (each (subframe n) ws) s at₀ ≡ prepended (take start l) (run_at (each (subframe n) (get_or ws i 0 ∷ drop (suc i) ws)) s at)
    next-part = inv.same ∙ ap (λ t. prepended (take start l) (run_at (each (subframe n) t) s at)) (drop-cons ws i 0 h)

    -- with the part put back, the slice has its old length
    pub part-back : (v : List ℤ) → length v ≡ length (mid_of start part l) → length (put_mid start part l v) ≡ length l₀
    part-back v kept = same_len_mid start part l v kept ∙ inv.long

    -- by what the decoder of the part answered
    module _ {width : ℕ} (is : width ≡ get_or ws i 0) (few : get_or ws i 0 ≤ 32) where
      part-ran : {x : At (List ℤ)} → x ≡ subframe_at width (length (mid_of start part l)) s at → run_at (subframe n (get_or ws i 0)) s at ≡ x
      part-ran decoded =
          sym
          (decoded ∙ ap (λ w. subframe_at w (length (mid_of start part l)) s at) is ∙ sym (not_wide (get_or ws i 0) (length (mid_of start part l)) s at few)
          ∙ part-size start (start + n) l part-fits (λ m. run_at (subframe m (get_or ws i 0)) s at)
          ∙ ap (λ m. run_at (subframe m (get_or ws i 0)) s at) (let e : start + n - start ≡ n = omega arith in e))

      pub step : {v : List ℤ} {q : Place} → got_at v q ≡ subframe_at width (length (mid_of start part l)) s at → length v ≡ length (mid_of start part l)
          → PartsRead n ws s at₀ l₀ (put_mid start part l v) (i + 1) q
      step {v} {q} decoded kept =
          let got = part-ran decoded in
          record {
            place = λ _. stays_in (subframe n (get_or ws i 0)) s at got;
            long = part-back v kept;
            sized = part-back v kept ∙ sym inv.long ∙ inv.sized;
            same =
                next-part ∙ each_step (subframe n) s (take start l) at (get_or ws i 0) (drop (suc i) ws) got
                ∙ ap (λ t. prepended t (run_at (each (subframe n) (drop (suc i) ws)) s q)) (sym (part-taken start (start + n) l part-fits v (omega arith) kept))
                ∙ ap (λ m. prepended (take m (put_mid start part l v)) (run_at (each (subframe n) (drop (suc i) ws)) s q)) (sym next-start)
                ∙ ap (λ m. prepended (take ((i + 1) * n) (put_mid start part l v)) (run_at (each (subframe n) (drop m ws)) s q)) (sym (add-one i));
          }

      pub stops : (e : Refusal) → refused_by e ≡ subframe_at width (length (mid_of start part l)) s at → refused_by e ≡ run_at (each (subframe n) ws) s at₀
      stops e decoded =
          sym
          (next-part ∙ ap (prepended (take start l)) (first-refused (subframe n) (get_or ws i 0) (drop (suc i) ws) s at e (part-ran decoded)) ∙ prepended-refusal (take start l) e)

  pub end : 1 ≤ length ws → length ws ≤ i → got_at l at ≡ run_at (each (subframe n) ws) s at₀
  end some h =
      let all : length ws * n ≤ i * n = mul-le-mul_right n h in
      sym
      (inv.same ∙ ap (λ t. prepended (take (i * n) l) (run_at (each (subframe n) t) s at)) (drop_of_length-le ws {i = i} h)
      ∙ each-end (subframe n) s (take (i * n) l) at (inv.place (omega arith)) ∙ ap (λ t. got_at t at) (take_all (i * n) l (omega (arith, inv.sized))))

-- ---- the rest of the body

-- what the footer's reader gave after the channels' decoder, which answered `first`
abbrev pub Then : List ℕ → Result Place Refusal → Result Place Refusal → Type 0
Then s first r = MatchResult first (λ p. passed_at r ≡ run_at footer s p) (λ e. r ≡ Err e)

module _ (h : FrameHeader) (s : List ℕ) (at : Place) where
  abbrev channels_ask : Ask (List ℤ)
  channels_ask = each (subframe h.size) (widths h.channels h.bits)

  abbrev body_left : ℕ → Result Place Refusal → List ℤ → Type 0
  body_left = Left (run_at (body h) s at)

  channels-stop : (n : ℕ) {e : Refusal} → run_at channels_ask s at ≡ refused_by e → {out : List ℤ} → out ≡ replicate n (pos 0) → body_left n (Err e) out
  unfolding body
  channels-stop n {e} f z = record { answer = sym (bind_refusal channels_ask s at _ e f); stopped = z }

  module _ {l : List ℤ} {p : Place} (got : run_at channels_ask s at ≡ got_at l p) where
    footer-stops : (n : ℕ) {e : Refusal} → run_at footer s p ≡ refused_by e → {out : List ℤ} → out ≡ replicate n (pos 0) → body_left n (Err e) out
    unfolding body
    footer-stops n {e} f z = record { answer = sym (bind_got_lem channels_ask s at _ got ∙ bind_refusal footer s p _ e f); stopped = z }

    footer-passed : (n : ℕ) {q : Place} → run_at footer s p ≡ got_at tt q → {out : List ℤ} → out ≡ left_and_right h.channels h.size l → body_left n (Ok q) out
    unfolding body
    footer-passed n {q} f e = record {
      answer = ap (λ t. got_at t q) e ∙ sym (bind_got_lem channels_ask s at _ got ∙ bind_got_lem footer s p _ f ∙ run_at-done _ (stays_in footer s p f));
      stopped = tt;
    }

  -- the channels' decoder answered `first` and left l; then the footer, if it was read, gave r
  module _ (n : ℕ) (l : List ℤ) where
    pub body-done : (first r : Result Place Refusal) → samples_at first l ≡ run_at channels_ask s at → Then s first r
        → is_ok r ≡ true → {out : List ℤ} → out ≡ left_and_right h.channels h.size l → body_left n r out
    body-done (Ok p) (Ok q) says f t e = footer-passed (sym says) n (sym f) e
    body-done (Err x) (Ok q) says f t e = absurd (cc)
    body-done (Ok p) (Err y) says f t e = absurd (cc)
    body-done (Err x) (Err y) says f t e = absurd (cc)

    pub body-stops : (first r : Result Place Refusal) → samples_at first l ≡ run_at channels_ask s at → Then s first r
        → is_ok r ≡ false → {out : List ℤ} → out ≡ replicate n (pos 0) → body_left n r out
    body-stops (Ok p) (Err y) says f t z = footer-stops (sym says) n (sym f) z
    body-stops (Err x) (Err y) says f t z = let d : y ≡ x = cc in rw d (channels-stop n (sym says) z)
    body-stops (Ok p) (Ok q) says f t z = absurd (cc)
    body-stops (Err x) (Ok q) says f t z = absurd (cc)
