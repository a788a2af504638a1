-- Blocks that are skipped: one, by its length; and what the loop over all of them keeps. Assumes nothing.
use Prim.Native.Nat.{ℕ, suc, ◌+◌, ◌-◌, ◌*◌, ◌<◌}
use native.Mathlib.Omega.{arith}
use mathlib.Core.Path.{◌≡◌, refl, ap, sym, ◌∙◌}
use mathlib.Core.Bool.{Bool, true, false}
use mathlib.Core.List.{List}
use borrow.Author.Tests.{leb-true, leb-false}
use lib.Dec.{leb}
use lib.ListN.{length}
use Rattle.reading.specs.declared.Place.{Place}
use Rattle.std.specs.Prelude.{if◌then◌else◌}
use Rattle.reading.specs.Readers.{Ask, done, ◌>>=◌, bits}
use Rattle.reading.specs.Places.{position, got_at, short_at, inside, run_at}
use Rattle.reading.proofs.ByteRuns.{In, inside_in, in_inside, stays_in, place_is, run_at-done, bind_got_lem, bind_short}
use Rattle.reading.proofs.BitsTaken.{bits-there, bits-short}
use Rattle.reading.proofs.ReaderSteps.{then_done}
use Rattle.error.specs.declared.Refusal.{Refusal}
use Rattle.error.specs.Numbers.{refused_by}
use Rattle.error.proofs.Refusals.{bind_refusal}
use Rattle.rfc9639.specs.StreamHeader.{block_head, skipped_block, skipped_blocks}
use Rattle.rfc9639.proofs.StreamHeaderBits.{block-takes}

-- ---- one block: its contents end `size` bytes on, if they are there

module _ (s : List ℕ) (at : Place) {last : Bool} {size : ℕ} {p : Place} (e : run_at block_head s at ≡ got_at (last, size) p) where
  abbrev end : Place
  end = record { byte = p.byte + size; bit = p.bit }

  pub block-there : inside s end ≡ true → run_at skipped_block s at ≡ got_at last end
  unfolding skipped_block
  block-there t =
      let h = stays_in block_head s at e in
      let x = bits-there (8 * size) h (omega (arith, (inside_in s end t).end)) in
      bind_got_lem block_head s at _ e ∙ then_done (bits (8 * size)) s p _ x.1
      ∙ ap (got_at last) (sym (place_is (p.byte + size) p.bit (position p + 8 * size) h.bit (omega arith)))

  pub block-cut : inside s end ≡ false → run_at skipped_block s at ≡ short_at
  unfolding skipped_block
  block-cut t =
      let h = stays_in block_head s at e in
      bind_got_lem block_head s at _ e ∙ bind_short (bits (8 * size)) s p _ (bits-short (8 * size) h (past h (leb (position end) (8 * length s)) refl))
    where
      past : In s p → (b : Bool) → leb (position end) (8 * length s) ≡ b → 8 * length s < position p + 8 * size
      past h true l = absurd (let i = in_inside s end (record { bit = h.bit; end = leb-true _ _ l }) in let z : ◌≡◌ {A = ℕ} 0 1 = cc in omega arith)
      past h false l = omega (arith, leb-false (position end) (8 * length s) l)

-- ---- the loop

-- The run from here, with some number of blocks allowed, gives what the whole run gives; and that many blocks, of at
-- least four bytes each, go past the end of the input.
pub record BlocksLeft (s : List ℕ) (at p : Place) : Type 0 where
  pub place : In s p
  pub left : ℕ
  pub enough : 8 * length s < position p + 32 * left
  pub same : run_at (skipped_blocks left) s p ≡ run_at (skipped_blocks (length s)) s at

module _ (s : List ℕ) (at : Place) where
  pub begin : 0 < length s → inside s at ≡ true → BlocksLeft s at at
  begin l t = record { place = inside_in s at t; left = length s; enough = omega arith; same = refl }

  module _ {p : Place} (f : BlocksLeft s at p) where
    rest : Bool → Ask (Unit {0})
    rest last = if last then done tt else skipped_blocks (f.left - 1)

    next : run_at (skipped_blocks (length s)) s at ≡ run_at (skipped_block >>= rest) s p
    unfolding skipped_blocks rest
    next = sym f.same ∙ ap (λ n. run_at (skipped_blocks n) s p) (let z : f.left ≡ suc (f.left - 1) = omega (arith, f.place.end, f.enough) in z)

    pub block_refused : (e : Refusal) → run_at skipped_block s p ≡ refused_by e → run_at (skipped_blocks (length s)) s at ≡ refused_by e
    block_refused e g = next ∙ bind_refusal skipped_block s p rest e g

    module _ {last : Bool} {q : Place} (e : run_at skipped_block s p ≡ got_at last q) where
      pub last_block : last ≡ true → run_at (skipped_blocks (length s)) s at ≡ got_at tt q
      unfolding rest
      last_block t = next ∙ bind_got_lem skipped_block s p rest e ∙ rw t (run_at-done tt (stays_in skipped_block s p e))

      pub step : last ≡ false → BlocksLeft s at q
      unfolding rest
      step t =
          let x = block-takes.taken s p last q e in
          record {
            place = stays_in skipped_block s p e;
            left = f.left - 1;
            enough = omega (arith, f.enough, x.1.0);
            same = sym (next ∙ bind_got_lem skipped_block s p rest e ∙ rw t);
          }

      pub less : 8 * length s - position q < 8 * length s - position p
      less = let x = block-takes.taken s p last q e in omega (arith, x.1.0, (stays_in skipped_block s p e).end)
