-- Runs of a frame: where it ends, that it had begun where it was read, and with more room. Assumes nothing.
use Prim.Native.Nat.{ℕ, zero, suc, ◌-◌, ◌%◌, ◌≤◌}
use native.Mathlib.Nat.{le_trans}
use native.Mathlib.Omega.{arith}
use mathlib.Core.Path.{◌≡◌, refl, ap, sym, ◌∙◌}
use mathlib.Core.Bool.{Bool, true, false}
use mathlib.Core.List.{List}
use borrow.Author.Tests.{leb-true, le-leb}
use lib.Dec.{leb}
use lib.IntN.{ℤ}
use lib.ListN.{length, take}
use Rattle.reading.specs.declared.Place.{Place}
use Rattle.reading.specs.Readers.{Ask, done, ◌>>=◌, bits, passed, require, each}
use Rattle.reading.specs.Bytes.{bits_of_bytes}
use Rattle.reading.specs.Places.{position, At, got_at, refused_at, short_at, run_at, and_then}
use Rattle.reading.proofs.ByteRuns.{In, stays_in, bind_is, bind_got_lem, bind_parts, require-parts, require_holds, require_fails, run_at-done, bits-end}
use Rattle.reading.proofs.BytePrefixes.{passed_at_lem, passed_length}
use Rattle.rfc9639.specs.declared.ChannelAssignment.{ChannelAssignment}
use Rattle.rfc9639.specs.declared.ChannelAssignment.TheVariants.{Independent, LeftSide, SideRight, MidSide}
use Rattle.rfc9639.specs.declared.FrameHeader.{FrameHeader}
use Rattle.rfc9639.specs.declared.Settings.{Settings}
use Rattle.rfc9639.specs.HeaderCodes.{channel_count}
use Rattle.rfc9639.specs.Header.{header, sample_count}
use Rattle.rfc9639.specs.Subframe.{subframe_header, subframe}
use Rattle.rfc9639.specs.Stream.{possible, completed, bits_read, bits_fit, block_fits}
use Rattle.rfc9639.specs.Frame.{ReaderSettings, checked, opening, widths, padding, footer, body, Frame, frame}
use Rattle.rfc9639.specs.Stereo.{left_and_right}
use Rattle.rfc9639.specs.Read.{begun}

-- ---- a frame ends at the start of a byte

module _ (s : List ℕ) (at : Place) (h : In s at) {end : Place} (e : run_at footer s at ≡ got_at tt end) where
  pub footer-aligned : end.bit ≡ 0
  unfolding footer padding
  footer-aligned =
      let a = bind_parts passed _ s at e in
      let coded = passed_at_lem s at h in
      let a_at : a.1 ≡ at = cc (a.2, coded) in
      let a_is : length a.0 ≡ position at = ap length (let q : a.0 ≡ take (position at) (bits_of_bytes s) = cc (a.2, coded) in q) ∙ passed_length s at h in
      let b = bind_parts (bits ((8 - length a.0 % 8) % 8)) _ s a.1 a.3 in
      let b-on = bits-end _ s a.1 b.2 in
      let b-in = stays_in _ s a.1 b.2 in
      let c = bind_parts passed _ s b.1 b.3 in
      let c_at : c.1 ≡ b.1 = cc (c.2, passed_at_lem s b.1 b-in) in
      let d = bind_parts (bits 16) _ s c.1 c.3 in
      let d-on = bits-end 16 s c.1 d.2 in
      let d-in = stays_in _ s c.1 d.2 in
      let f = require-parts _ 10 s d.1 d-in d.3 in
      omega (arith, ap position a_at, ap position c_at, ap position f.1, ap (λ p. p.bit) f.1, d-in.bit, a_is)

module _ (h : FrameHeader) (s : List ℕ) (at : Place) {xs : List ℤ} {end : Place} (e : run_at (body h) s at ≡ got_at xs end) where
  pub body-aligned : end.bit ≡ 0
  unfolding body
  body-aligned =
      let a = bind_parts (each (subframe h.size) (widths h.channels h.bits)) _ s at e in
      let b = bind_parts footer _ s a.1 a.3 in
      let a_in = stays_in _ s at a.2 in
      let last : ◌≡◌ {A = At (List ℤ)} (got_at (left_and_right h.channels h.size a.0) b.1) (got_at xs end) = sym (run_at-done _ (stays_in footer s a.1 b.2)) ∙ b.3 in
      let same : b.1 ≡ end = cc in
      ap (λ p. p.bit) (sym same) ∙ footer-aligned s a.1 a_in b.2

-- ---- the body's first question is the first bit of the first subframe

first_bit : (c : ChannelAssignment) (b n : ℕ) (k : List ℤ → Ask (List ℤ)) → 1 ≤ channel_count c
    → (rest : ℕ → Ask (List ℤ)) × (each (subframe n) (widths c b) >>= k ≡ bits 1 >>= rest)
unfolding channel_count widths each subframe subframe_header bits ◌>>=◌
first_bit (Independent zero) b n k h = absurd (omega arith)
first_bit (Independent (suc m)) b n k h = (_, refl)
first_bit LeftSide b n k h = (_, refl)
first_bit SideRight b n k h = (_, refl)
first_bit MidSide b n k h = (_, refl)

-- a frame that was read had begun
module _ (set : ReaderSettings) (s : List ℕ) (at : Place) where
  pub frame-begun : {f : Frame} {end : Place} → ((h : FrameHeader) (p : Place) → run_at (opening set) s at ≡ got_at h p → 1 ≤ channel_count h.channels)
      → run_at (frame set) s at ≡ got_at f end
      → (end.bit ≡ 0) × ((p : Place) × (run_at (begun set) s at ≡ got_at f.header p))
  unfolding frame body begun
  frame-begun {f} {end} some e =
      let a = bind_parts (opening set) _ s at e in
      let b = bind_parts (body a.0) _ s a.1 a.3 in
      let last : ◌≡◌ {A = At Frame} (got_at (record { header = a.0; samples = b.0 }) b.1) (got_at f end) = sym (run_at-done _ (stays_in (body a.0) s a.1 b.2)) ∙ b.3 in
      let same : b.1 ≡ end = cc in
      let head : a.0 ≡ f.header = ap (λ (x : At Frame). head_of a.0 x) last in
      let q = first_bit a.0.channels a.0.bits a.0.size _ (some a.0 a.1 a.2) in
      let bit = bind_parts (bits 1) q.0 s a.1 (ap (λ t. run_at t s a.1) (sym q.1) ∙ b.2) in (
        ap (λ p. p.bit) (sym same) ∙ body-aligned a.0 s a.1 b.2,
        (
          bit.1,
          bind_got_lem (opening set) s at _ a.2 ∙ bind_got_lem (bits 1) s a.1 _ bit.2 ∙ run_at-done a.0 (stays_in (bits 1) s a.1 bit.2)
              ∙ ap (λ h. got_at h bit.1) head,
        ),
      )
    where
      head_of : FrameHeader → At Frame → FrameHeader
      head_of h (got_at g p) = g.header
      head_of h (refused_at n) = h
      head_of h short_at = h

-- ---- more room

-- two readers that start with the same part and go on alike
pub alike-after : {A B : Type 0} (p : Ask A) (k k' : A → Ask B) (s : List ℕ) (at : Place)
    → ((a : A) (q : Place) → run_at p s at ≡ got_at a q → run_at (k' a) s q ≡ run_at (k a) s q) → run_at (p >>= k') s at ≡ run_at (p >>= k) s at
unfolding and_then
alike-after {A} p k k' s at alike = go (run_at p s at) refl
  where
    go : (x : At A) → run_at p s at ≡ x → run_at (p >>= k') s at ≡ run_at (p >>= k) s at
    go (got_at a q) e = bind_got_lem p s at k' e ∙ alike a q e ∙ sym (bind_got_lem p s at k e)
    go (refused_at m) e = bind_is p s at k' e ∙ sym (bind_is p s at k e)
    go short_at e = bind_is p s at k' e ∙ sym (bind_is p s at k e)

-- the same, if they go on alike wherever the first is not refused with this number
alike_unless : {A B : Type 0} (n : ℕ) (p : Ask A) (k k' : A → Ask B) (s : List ℕ) (at : Place)
    → ((a : A) (q : Place) → run_at p s at ≡ got_at a q → (run_at (k a) s q ≡ refused_at n → ⊥) → run_at (k' a) s q ≡ run_at (k a) s q)
    → (run_at (p >>= k) s at ≡ refused_at n → ⊥) → run_at (p >>= k') s at ≡ run_at (p >>= k) s at
alike_unless n p k k' s at alike lacks = alike-after p k k' s at (λ a q e. alike a q e (λ r. lacks (bind_got_lem p s at k e ∙ r)))

module _ (given : Settings) (room room' : ℕ) (more : room ≤ room') (s : List ℕ) (at : Place) where
  abbrev small : ReaderSettings
  small = record { given = given; room = room }

  abbrev large : ReaderSettings
  large = record { given = given; room = room' }

  -- where the smaller room is enough, the larger gives the same header
  checked-more : (h : FrameHeader) (p : Place) → (run_at (checked small h) s p ≡ refused_at 7 → ⊥) → run_at (checked large h) s p ≡ run_at (checked small h) s p
  unfolding checked
  checked-more h p =
      alike_unless 7 (require (bits_read h.bits) 8) _ _ s p
      (λ _ p _. alike_unless 7 (require (bits_fit given.stream h.bits) 9) _ _ s p
      (λ _ p _. alike_unless 7 (require (block_fits given.block h.time h.size) 9) _ _ s p
      (λ _ q e lacks. fit q (stays_in _ s _ e) (leb (sample_count h) room) refl lacks)))
    where
      fit : (p : Place) → In s p → (b : Bool) → leb (sample_count h) room ≡ b
          → (run_at (require (leb (sample_count h) room) 7 >>= (λ _. done h)) s p ≡ refused_at 7 → ⊥)
          → run_at (require (leb (sample_count h) room') 7 >>= (λ _. done h)) s p ≡ run_at (require (leb (sample_count h) room) 7 >>= (λ _. done h)) s p
      fit p i true e lacks =
          require_holds 7 _ i (le-leb _ _ (le_trans (leb-true (sample_count h) room e) more)) ∙ sym (require_holds 7 _ i e)
      fit p i false e lacks = absurd (lacks (require_fails 7 _ i e))

  pub opening-more : (run_at (opening small) s at ≡ refused_at 7 → ⊥) → run_at (opening large) s at ≡ run_at (opening small) s at
  unfolding opening
  opening-more =
      alike_unless 7 (require (possible given) 11) _ _ s at
      (λ _ p _. alike_unless 7 header _ _ s p (λ own q _. checked-more (completed given.stream own) q))
