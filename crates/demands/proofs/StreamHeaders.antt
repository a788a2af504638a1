-- DEMAND 3, for the stream header: what more bytes can change. Besides, which refusals it has, and what holds of what it
-- says. Assumes nothing.
use Prim.Native.Nat.{ℕ, zero, suc, ◌+◌, ◌*◌, ◌≤◌, ◌<◌}
use native.Mathlib.Omega.{arith}
use mathlib.Core.Bool.{Bool, true, false}
use mathlib.Core.Logic.{◌≢◌}
use mathlib.Core.Path.{◌≡◌, refl, sym, ◌∙◌, subst}
use mathlib.Core.List.{List, ◌++◌}
use lib.ListN.{length, take, length-append, length-take}
use Rattle.reading.specs.declared.Place.{Place}
use Rattle.std.specs.Prelude.{if◌then◌else◌}
use Rattle.reading.specs.Readers.{Ask, done, ◌>>=◌}
use Rattle.reading.specs.Places.{position, place_of, At, got_at, refused_at, short_at, run_at, and_then}
use Rattle.reading.proofs.ByteRuns.{In, stays_in, run_at-done, run_at_bind, bind_is}
use Rattle.reading.proofs.BytePrefixes.{run_at_append, run_at-take, run_at-take-short}
use Rattle.reading.proofs.Postconditions.{Meets, holds_at}
use Rattle.reading.proofs.BitsTaken.{takes_weaken, same_bit}
use Rattle.rfc9639.specs.declared.StreamInfo.{StreamInfo}
use Rattle.rfc9639.specs.StreamHeader.{skipped_block, skipped_blocks, stream_start, stream_header, stream_header_of}
use Rattle.rfc9639.proofs.StreamHeaderBits.{start-takes, block-takes, header-takes}
use Rattle.rfc9639.proofs.StreamHeaderValues.{StreamRefusal, InfoInRange, no_mark, forbidden, bad_shape, start_holds, block_holds}
use Rattle.demands.proofs.FrameRuns.{alike-after}

-- ---- The count of blocks never matters: a block has at least four bytes, so n blocks from a place on are enough if
-- they would go past the end of the input.

abbrev pub Enough : List ℕ → Place → ℕ → Type 0
Enough s at n = 8 * length s < position at + 32 * n

-- the blocks after one that is the last, or not
abbrev after : ℕ → Bool → Ask (Unit {0})
after n last = if last then done tt else skipped_blocks n

module _ (s : List ℕ) where
  -- after one block, one less is enough
  one_less : (at : Place) {q : Place} {last : Bool} (n : ℕ) → run_at skipped_block s at ≡ got_at last q → Enough s at (suc n) → Enough s q n
  one_less at {q} {last} n e l = let x = block-takes.taken s at last q e in omega (arith, x.1.0)

  after-alike : (n m : ℕ) (last : Bool) (q : Place) → run_at (skipped_blocks n) s q ≡ run_at (skipped_blocks m) s q → run_at (after n last) s q ≡ run_at (after m last) s q
  after-alike n m true q e = refl
  after-alike n m false q e = e

  pub blocks-alike : (n m : ℕ) (at : Place) → In s at → Enough s at n → Enough s at m → run_at (skipped_blocks n) s at ≡ run_at (skipped_blocks m) s at
  unfolding skipped_blocks
  blocks-alike zero m at h l k = absurd (omega (arith, h.end))
  blocks-alike (suc n) zero at h l k = absurd (omega (arith, h.end))
  blocks-alike (suc n) (suc m) at h l k =
      alike-after skipped_block _ _ s at
      (λ last q e. after-alike n m last q (blocks-alike n m q (stays_in skipped_block s at e) (one_less at n e l) (one_less at m e k)))

  -- a header's start takes 336 bits
  after-start : {x : Bool × StreamInfo} {q : Place} → run_at stream_start s (place_of 0) ≡ got_at x q → In s q × (position q ≡ 336)
  after-start {x} {q} e = let t = start-takes.taken s (place_of 0) x q e in (stays_in stream_start s (place_of 0) e, omega (arith, t.1, t.2))

  header-alike : (n m : ℕ) → Enough s (place_of 336) n → Enough s (place_of 336) m → run_at (stream_header n) s (place_of 0) ≡ run_at (stream_header m) s (place_of 0)
  unfolding stream_header
  header-alike n m l k =
      alike-after stream_start _ _ s (place_of 0)
      (λ x q e. let h = after-start e in
      bind_is (after n x.0) s q _ (after-alike n m x.0 q (blocks-alike n m q h.0 (omega (arith, h.1)) (omega (arith, h.1))))
      ∙ sym (run_at_bind (after m x.0) s q _))

  pub count-enough : (n : ℕ) → length s ≤ n → run_at (stream_header n) s (place_of 0) ≡ stream_header_of s
  unfolding stream_header_of
  count-enough n l = header-alike n (length s) (omega arith) (omega arith)

-- ---- 1. More bytes never change an answer other than cut short.

pub never_unsaid : (s t : List ℕ) → stream_header_of s ≢ short_at → stream_header_of (s ++ t) ≡ stream_header_of s
unfolding stream_header_of
never_unsaid s t h =
    let e = count-enough s (length (s ++ t)) (omega (arith, length-append s t)) in
    run_at_append (stream_header (length (s ++ t))) s (place_of 0) t (λ f. h (sym e ∙ f)) ∙ e

-- ---- 2. The bytes that a header takes are there, and alone give its answer; fewer are cut short.

module _ (s : List ℕ) (info : StreamInfo) (p : Place) (e : stream_header_of s ≡ got_at info p) where
  pub whole-bytes : p.bit ≡ 0
  unfolding stream_header_of
  whole-bytes = same_bit (takes_weaken (λ n h. h.1) (header-takes (length s))) s (place_of 0) e

  pub counted-there : p.byte ≤ length s
  unfolding stream_header_of
  counted-there = omega (arith, (stays_in (stream_header (length s)) s (place_of 0) e).end)

  pub at_least_42 : 42 ≤ p.byte
  unfolding stream_header_of
  at_least_42 = let x = (header-takes (length s)).taken s (place_of 0) info p e in omega (arith, x.1.0, x.2, whole-bytes)

  -- the run with the count of all bytes is the run with the count of those that are left
  of_fewer : (m : ℕ) {x : At StreamInfo} → run_at (stream_header (length s)) (take m s) (place_of 0) ≡ x → stream_header_of (take m s) ≡ x
  of_fewer m f = sym (count-enough (take m s) (length s) (omega (arith, length-take m s))) ∙ f

  pub counted-suffice : stream_header_of (take p.byte s) ≡ got_at info p
  unfolding stream_header_of
  counted-suffice = of_fewer p.byte (run_at-take (stream_header (length s)) s (place_of 0) info p e p.byte (omega (arith, whole-bytes)))

  pub fewer-cut_short : (m : ℕ) → m < p.byte → stream_header_of (take m s) ≡ short_at
  unfolding stream_header_of
  fewer-cut_short m l = of_fewer m (run_at-take-short (stream_header (length s)) s (place_of 0) info p e m (omega arith))

-- ---- 3. The refusals are 3, 4 and 9: never 2, which the definition has for more blocks than it allows. And what a
-- header says is in range.

-- what holds of two readers in sequence, on these bytes
module _ (R : ℕ → Type 0) {A B : Type 0} (P : A → Type 0) (Q : B → Type 0) (p : Ask A) (k : A → Ask B) (s : List ℕ) (at : Place) where
  meets_bind : Meets R P (run_at p s at) → ((a : A) (q : Place) → run_at p s at ≡ got_at a q → P a → Meets R Q (run_at (k a) s q)) → Meets R Q (run_at (p >>= k) s at)
  unfolding and_then
  meets_bind = go (run_at p s at) refl
    where
      go : (y : At A) → run_at p s at ≡ y → Meets R P y → ((a : A) (q : Place) → y ≡ got_at a q → P a → Meets R Q (run_at (k a) s q)) → Meets R Q (run_at (p >>= k) s at)
      go (got_at a q) e m on = rw (bind_is p s at k e) (on a q refl m)
      go (refused_at n) e m on = rw (bind_is p s at k e) m
      go short_at e m on = rw (bind_is p s at k e) tt

abbrev Any : {A : Type 0} → A → Type 0
Any _ = Unit {0}

module _ (s : List ℕ) where
  after-meets : (n : ℕ) (last : Bool) (q : Place) → In s q → Meets StreamRefusal Any (run_at (skipped_blocks n) s q) → Meets StreamRefusal Any (run_at (after n last) s q)
  after-meets n true q h m = rw (run_at-done (tt {0}) h) tt
  after-meets n false q h m = m

  blocks_meet : (n : ℕ) (at : Place) → In s at → Enough s at n → Meets StreamRefusal Any (run_at (skipped_blocks n) s at)
  unfolding skipped_blocks
  blocks_meet zero at h l = absurd (omega (arith, h.end))
  blocks_meet (suc n) at h l =
      meets_bind StreamRefusal Any Any skipped_block (after n) s at (holds_at StreamRefusal Any s at block_holds)
      (λ last q e _. let g = stays_in skipped_block s at e in after-meets n last q g (blocks_meet n q g (one_less s at n e l)))

  header-meets : Meets StreamRefusal InfoInRange (stream_header_of s)
  unfolding stream_header_of stream_header
  header-meets =
      meets_bind StreamRefusal (λ x. InfoInRange x.1) InfoInRange stream_start _ s (place_of 0) (holds_at StreamRefusal (λ x. InfoInRange x.1) s (place_of 0) start_holds)
      (λ x q e k. let h = after-start s e in
      meets_bind StreamRefusal Any InfoInRange (after (length s) x.0) _ s q
      (after-meets (length s) x.0 q h.0 (blocks_meet (length s) q h.0 (omega (arith, h.1))))
      (λ _ r f _. rw (run_at-done x.1 (stays_in (after (length s) x.0) s q f)) k))

  pub refusal-listed : (n : ℕ) → stream_header_of s ≡ refused_at n → StreamRefusal n
  refusal-listed n e = subst (Meets StreamRefusal InfoInRange) e header-meets

  pub never_too_many : stream_header_of s ≢ refused_at 2
  never_too_many e = go 2 refl (refusal-listed 2 e)
    where
      go : (n : ℕ) → n ≡ 2 → StreamRefusal n → ⊥
      go n f no_mark = omega arith
      go n f forbidden = omega arith
      go n f bad_shape = omega arith

  pub info_in_range : (info : StreamInfo) (p : Place) → stream_header_of s ≡ got_at info p → InfoInRange info
  info_in_range info p e = subst (Meets StreamRefusal InfoInRange) e header-meets
