-- The pieces of a subframe, as the code writes them. Assumes nothing.
use Prim.Native.Nat.{ℕ, ◌/◌, ◌^◌, ◌≤◌, ◌<◌}
use mathlib.Core.Path.{◌≡◌, ap, sym, ◌∙◌}
use mathlib.Core.List.{List, [], ◌++◌}
use borrow.Author.Tests.{le-leb, lt-leb}
use lib.IntN.{ℤ}
use lib.ListN.{length, take}
use lib.Seq.{take-length}
use mir.Syntax.{w64}
use mir.Val.{SFits, to_z, of_z}
use mir.Facts.{to_z-of_z}
use Rattle.reading.specs.NumbersAsBits.{bits_of, unary}
use Rattle.rfc9639.specs.declared.Candidate.{Candidate}
use Rattle.rfc9639.specs.declared.Candidate.TheVariants.{Constant, Verbatim, Fixed}
use Rattle.rfc9639.specs.Integers.{low}
use Rattle.rfc9639.specs.SubframeCoding.{fold, rice_bits, plain, subframe_header_bits, coded_as}
use Rattle.subframe_writer.specs.Ways.{written_as}
use Rattle.subframe_writer.specs.Private.{head_and_plain}

-- ---- a sample

abbrev pub sample_bits : ℕ → ℤ → List ℕ
sample_bits w x = bits_of w (low w x)

-- ---- a residual, in two parts (the code passes a signed value by its bits)

pub rice_is : (k : ℕ) {m q : ℕ} {r : ℤ} → SFits w64 r → m ≡ fold (to_z w64 (of_z w64 r)) → q ≡ m / 2 ^ k → unary q ++ bits_of k m ≡ rice_bits k r
unfolding rice_bits
rice_is k f e g = rw (g, e, to_z-of_z f)

-- ---- the ways

module _ (c : Candidate) (w : ℕ) (xs : List ℤ) where
  pub written_none : 64 < w → written_as c w xs ≡ []
  unfolding written_as
  written_none h = rw (lt-leb w 64 h)

  module _ (h : w ≤ 64) where
    pub written_some : written_as c w xs ≡ coded_as c w xs
    unfolding written_as
    written_some = rw (le-leb w 64 h)

    pub written_constant : c ≡ Constant → head_and_plain 0 w 1 xs ≡ written_as c w xs
    unfolding coded_as
    written_constant e = sym (written_some ∙ ap (λ x. coded_as x w xs) e)

    pub written_verbatim : {m : ℕ} → c ≡ Verbatim → m ≡ length xs → head_and_plain 1 w m xs ≡ written_as c w xs
    unfolding coded_as
    written_verbatim e l = ap (λ (l : List ℤ). subframe_header_bits 1 ++ plain w l) (ap (λ n. take n xs) l ∙ take-length xs) ∙ sym (written_some ∙ ap (λ x. coded_as x w xs) e)

    pub written_fixed : {order k : ℕ} → c ≡ Fixed order k → coded_as (Fixed order k) w xs ≡ written_as c w xs
    written_fixed e = sym (written_some ∙ ap (λ x. coded_as x w xs) e)
