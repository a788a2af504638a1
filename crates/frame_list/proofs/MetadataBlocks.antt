-- The metadata blocks of a card, head by head: each head says where the next block starts, and a head that is in a window
-- of the card is the card's. Assumes nothing.
use Prim.Native.Nat.{ℕ, suc, ◌+◌, ◌*◌, ◌^◌, ◌≤◌, ◌<◌}
use native.Mathlib.Omega.{arith}
use mathlib.Core.Path.{◌≡◌, refl, ap, sym, ◌∙◌, subst}
use mathlib.Core.Bool.{Bool, true, false, true≢false}
use mathlib.Core.List.{List, ◌++◌}
use borrow.Author.Tests.{eq-eqb, ne_eqb, leb-true, leb-false}
use lib.Dec.{leb, ltb}
use lib.ListN.{length}
use Rattle.reading.specs.declared.Place.{Place}
use Rattle.reading.specs.Readers.{Ask, done, ◌>>=◌}
use Rattle.reading.specs.Places.{position, place_of, inside, got_at, refused_at, short_at, run_at}
use Rattle.reading.proofs.ByteRuns.{In, inside_in, outside_end, place_is, position-place, run_at-done, run_at-out, stays_in, run_at_bind, bind_is, bind_refused, bind_short}
use Rattle.reading.proofs.BytePrefixes.{run_at_append}
use Rattle.reading.proofs.Postconditions.{Meets, holds_at}
use Rattle.reading.proofs.Shifted.{Forward, value, forward_bind, forward_bits, forward_require, at_further, run_at-further}
use Rattle.rfc9639.specs.StreamHeader.{last_and_type, block_head, skipped_block, skipped_blocks}
use Rattle.rfc9639.proofs.StreamHeaderBits.{head-takes}
use Rattle.rfc9639.proofs.StreamHeaderValues.{StreamRefusal, head_holds}
use Rattle.demands.proofs.StreamHeaders.{blocks-alike}
use Rattle.error.specs.declared.Refusal.{Refusal}
use Rattle.error.specs.Numbers.{number_of, refused_by}
use Rattle.stream.proofs.SkippedBlocks.{block-there, block-cut}
use Rattle.frame_list.specs.Opening.{byte_at, blocks_after, blocks_from, HopsTo}

-- ---- a block's head

head_forward : Forward block_head
unfolding block_head last_and_type
head_forward =
    forward_bind _
    (forward_bind _ (forward_bits 1) (λ last. forward_bind _ (forward_bits 7) (λ type. forward_bind _ (forward_require (ltb type 127) 4) (λ u. value))))
    (λ x. forward_bind _ (forward_bits 24) (λ size. value))

-- it takes four bytes, and says a length below 2 ^ 24
pub record Head (s : List ℕ) (at size : ℕ) (end : Place) : Type 0 where
  pub ends : end ≡ byte_at (at + 4)
  pub there : at + 4 ≤ length s
  pub few : size < 2 ^ 24

pub head_is : (s : List ℕ) (at : ℕ) {last : Bool} {size : ℕ} {end : Place} → run_at block_head s (byte_at at) ≡ got_at (last, size) end → Head s at size end
head_is s at {last} {size} {end} e =
    let i = stays_in block_head s (byte_at at) e in
    let x = head-takes.taken s (byte_at at) (last, size) end e in
    let far : position end ≡ 8 * (at + 4) = omega (arith, x.1, x.2) in
    record {
      ends = sym (position-place end i.bit) ∙ ap place_of far ∙ sym (place_is (at + 4) 0 (8 * (at + 4)) (omega arith) (omega arith));
      there = omega (arith, i.end);
      few = subst (Meets StreamRefusal (λ (y : Bool × ℕ). y.1 < 2 ^ 24)) e (holds_at StreamRefusal (λ (y : Bool × ℕ). y.1 < 2 ^ 24) s (byte_at at) head_holds);
    }

-- ---- the start of a byte is in a card or past it

module _ (s : List ℕ) (at : ℕ) where
  byte_in : at ≤ length s → In s (byte_at at)
  byte_in h = record { bit = omega arith; end = omega arith }

  byte-out : {A : Type 0} (p : Ask A) → length s < at → run_at p s (byte_at at) ≡ short_at
  byte-out p h = run_at-out p s (byte_at at) (outside_end s (byte_at at) (omega arith) (omega arith))

-- ---- the blocks after a head

module _ (s : List ℕ) (at : ℕ) where
  module _ {last : Bool} {size : ℕ} {end : Place} (e : run_at block_head s (byte_at at) ≡ got_at (last, size) end) where
    -- the first of them is there whole if the place after it is in the card
    after_block : run_at skipped_block s (byte_at at) ≡ run_at (done last) s (byte_at (at + 4 + size))
    after_block = go (inside s next) refl ∙ ap (λ (p : Place). run_at (done last) s (record { byte = p.byte + size; bit = p.bit })) (head_is s at e).ends
      where
        next : Place
        next = record { byte = end.byte + size; bit = end.bit }

        go : (b : Bool) → inside s next ≡ b → run_at skipped_block s (byte_at at) ≡ run_at (done last) s next
        go true t = block-there s (byte_at at) e t ∙ sym (run_at-done last (inside_in s next t))
        go false t = block-cut s (byte_at at) e t ∙ sym (run_at-out (done last) s next t)

    -- what follows it, by its head
    pub blocks_after_lem : (n : ℕ) → run_at (skipped_blocks (suc n)) s (byte_at at) ≡ run_at (blocks_after last n) s (byte_at (at + 4 + size))
    unfolding skipped_blocks blocks_after ◌>>=◌
    blocks_after_lem n =
        bind_is skipped_block s (byte_at at) (λ l. blocks_after l n) after_block
        ∙ sym (run_at_bind (done last) s (byte_at (at + 4 + size)) (λ l. blocks_after l n))

  pub blocks-refused : (n m : ℕ) → run_at block_head s (byte_at at) ≡ refused_at m → run_at (skipped_blocks (suc n)) s (byte_at at) ≡ refused_at m
  unfolding skipped_blocks skipped_block
  blocks-refused n m e = bind_refused skipped_block s (byte_at at) _ (bind_refused block_head s (byte_at at) _ e)

  pub blocks-short : (n : ℕ) → run_at block_head s (byte_at at) ≡ short_at → run_at (skipped_blocks (suc n)) s (byte_at at) ≡ short_at
  unfolding skipped_blocks skipped_block
  blocks-short n e = bind_short skipped_block s (byte_at at) _ (bind_short block_head s (byte_at at) _ e)

-- How many blocks may follow makes no difference once there are not that many bytes: a block takes at least four.
count_free : (s : List ℕ) (n m at : ℕ) → length s < 4 * n + at → length s < 4 * m + at → run_at (skipped_blocks n) s (byte_at at) ≡ run_at (skipped_blocks m) s (byte_at at)
count_free s n m at h g = go (leb at (length s)) refl
  where
    go : (b : Bool) → leb at (length s) ≡ b → run_at (skipped_blocks n) s (byte_at at) ≡ run_at (skipped_blocks m) s (byte_at at)
    go true e = blocks-alike s n m (byte_at at) (byte_in s at (leb-true at (length s) e)) (omega arith) (omega arith)
    go false e =
        let past = leb-false at (length s) e in byte-out s at (skipped_blocks n) past ∙ sym (byte-out s at (skipped_blocks m) past)

-- ---- the same, of a whole card

module _ (s : List ℕ) (at : ℕ) where
  pub from_past : (last : Bool) → length s < at → blocks_from last s at ≡ short_at
  unfolding blocks_from
  from_past last h = byte-out s at (blocks_after last (length s)) h

  pub from_end : at ≤ length s → blocks_from true s at ≡ got_at tt (byte_at at)
  unfolding blocks_from blocks_after
  from_end h = run_at-done tt (byte_in s at h)

  module _ (some : 0 < at) where
    one_more : blocks_from false s at ≡ run_at (skipped_blocks (suc (length s))) s (byte_at at)
    unfolding blocks_from blocks_after
    one_more = count_free s (length s) (suc (length s)) at (omega arith) (omega arith)

    pub from_next : {last : Bool} {size : ℕ} {end : Place} → run_at block_head s (byte_at at) ≡ got_at (last, size) end
        → blocks_from false s at ≡ blocks_from last s (at + 4 + size)
    unfolding blocks_from
    from_next e = one_more ∙ blocks_after_lem s at e (length s)

    pub from-refused : {m : ℕ} → run_at block_head s (byte_at at) ≡ refused_at m → blocks_from false s at ≡ refused_at m
    from-refused {m} e = one_more ∙ blocks-refused s at (length s) m e

    -- a card that ends within a head
    pub from-short : run_at block_head s (byte_at at) ≡ short_at → blocks_from false s at ≡ short_at
    from-short e = one_more ∙ blocks-short s at (length s) e

-- ---- a head in a window, the part w of a card after the bytes u

module _ (u w more : List ℕ) (at : ℕ) where
  pub head_in_card : (run_at block_head w (byte_at at) ≡ short_at → ⊥)
      → run_at block_head (u ++ (w ++ more)) (byte_at (length u + at)) ≡ at_further (length u) (run_at block_head w (byte_at at))
  head_in_card known =
      run_at-further head_forward u (w ++ more) (byte_at at) ∙ ap (at_further (length u)) (run_at_append block_head w (byte_at at) more known)

  pub window-next : 0 < length u + at → {last : Bool} {size : ℕ} {end : Place} → run_at block_head w (byte_at at) ≡ got_at (last, size) end
      → blocks_from false (u ++ (w ++ more)) (length u + at) ≡ blocks_from last (u ++ (w ++ more)) (length u + (at + 4 + size))
  unfolding at_further
  window-next some {last} {size} {end} e =
      from_next (u ++ (w ++ more)) (length u + at) some
      (head_in_card (λ k. let d = sym e ∙ k in let z : ◌≡◌ {A = ℕ} 0 1 = cc in omega arith) ∙ ap (at_further (length u)) e)
      ∙ ap (blocks_from last (u ++ (w ++ more))) (let f : length u + at + 4 + size ≡ length u + (at + 4 + size) = omega arith in f)

  pub window-refused : 0 < length u + at → {m : ℕ} → run_at block_head w (byte_at at) ≡ refused_at m → blocks_from false (u ++ (w ++ more)) (length u + at) ≡ refused_at m
  unfolding at_further
  window-refused some {m} e =
      from-refused (u ++ (w ++ more)) (length u + at) some
      (head_in_card (λ k. let d = sym e ∙ k in let z : ◌≡◌ {A = ℕ} 0 1 = cc in omega arith) ∙ ap (at_further (length u)) e)

-- the window is the card's end
pub window-short : (u w : List ℕ) (at : ℕ) → 0 < length u + at → run_at block_head w (byte_at at) ≡ short_at → blocks_from false (u ++ w) (length u + at) ≡ short_at
unfolding at_further
window-short u w at some e =
    from-short (u ++ w) (length u + at) some (run_at-further head_forward u w (byte_at at) ∙ ap (at_further (length u)) e)

-- ---- from head to head

-- a refusal by its number
pub refused-short : {A : Type 0} (e : Refusal) → number_of e ≡ 2 → refused_by {A = A} e ≡ short_at
refused-short e n = rw (eq-eqb (number_of e) 2 n)

pub refused-number : {A : Type 0} (e : Refusal) → (number_of e ≡ 2 → ⊥) → refused_by {A = A} e ≡ refused_at (number_of e)
refused-number e n = rw (ne_eqb (number_of e) 2 n)

-- the heads in the window lead from a place to another, where there may be one more
pub record Hopping (w : List ℕ) (from : ℕ) (was : Bool) (at : ℕ) (last : Bool) : Type 0 where
  pub same : (u more : List ℕ) → 0 < length u + from → blocks_from was (u ++ (w ++ more)) (length u + from) ≡ blocks_from last (u ++ (w ++ more)) (length u + at)
  pub forth : from ≤ at

pub hopping : (w : List ℕ) (from : ℕ) (was : Bool) → Hopping w from was from was
hopping w from was = record { same = λ u more some. refl; forth = omega arith }

module _ {w : List ℕ} {from : ℕ} {was : Bool} {at : ℕ} {last : Bool} (h : Hopping w from was at last) where
  -- as it is after the last block, or before it
  hops-as : {b : Bool} → last ≡ b → Hopping w from was at b
  hops-as e = subst (Hopping w from was at) e h

  -- after the last block there is no head
  pub hops-done : last ≡ true → HopsTo w from was at true
  hops-done e = record { same = (hops-as e).same; no_head = λ z. absurd (true≢false z); forth = h.forth }

  module _ (going : last ≡ false) where
    pub hop_on : {more : Bool} {size : ℕ} {end : Place} → run_at block_head w (byte_at at) ≡ got_at (more, size) end → Hopping w from was (end.byte + size) more
    hop_on {more} {size} {end} e =
        let next = head_is w at e in
        record {
          same = λ u rest some.
              (hops-as going).same u rest some ∙ window-next u w rest at (omega (arith, h.forth)) e
              ∙ ap (λ (p : Place). blocks_from more (u ++ (w ++ rest)) (length u + (p.byte + size))) (sym next.ends);
          forth = omega (arith, h.forth, ap (λ (p : Place). p.byte) next.ends);
        }

    pub hop_refused : (e : Refusal) → refused_by e ≡ run_at block_head w (byte_at at) → (number_of e ≡ 2 → ⊥)
        → (u more : List ℕ) → 0 < length u + from → blocks_from was (u ++ (w ++ more)) (length u + from) ≡ refused_at (number_of e)
    hop_refused e f n u more some = (hops-as going).same u more some ∙ window-refused u w more at (omega (arith, h.forth)) (sym f ∙ refused-number e n)
