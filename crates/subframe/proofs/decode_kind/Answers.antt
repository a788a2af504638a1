-- `decode_kind`: each kind by its decoder. Assumes nothing.
use Prim.Native.Nat.{ℕ, ◌≤◌}
use mathlib.Core.List.{List}
use Rattle.reading.specs.declared.Place.{Place}
use mathlib.Core.Path.{◌≡◌, ap, sym, ◌∙◌, subst}
use lib.ListN.{length}
use Rattle.reading.specs.Places.{run_at}
use Rattle.rfc9639.specs.declared.SubframeType.{SubframeType}
use Rattle.rfc9639.specs.Subframe.{samples_by_type, order_of}
use Rattle.subframe.specs.Private.{Orderly}
use Rattle.subframe.proofs.decode_kind.Goals as goal

pub decode_fixed-requires : goal.decode_fixed-requires
unfolding order_of
decode_fixed-requires c = (
  c.requires.0,
  subst Orderly c.in-Fixed.is c.requires.1,
  subst (λ t. order_of t ≤ length c.args.out.now) c.in-Fixed.is c.requires.2,
)

pub decode_lpc-requires : goal.decode_lpc-requires
unfolding order_of
decode_lpc-requires c = (
  c.requires.0,
  subst Orderly c.in-Lpc.is c.requires.1,
  subst (λ t. order_of t ≤ length c.args.out.now) c.in-Lpc.is c.requires.2,
)

-- of the kind that a match found
by_kind : (s : List ℕ) (at : Place) (width n : ℕ) {kind k : SubframeType} → kind ≡ k
    → run_at (samples_by_type k width n) s at ≡ run_at (samples_by_type kind width n) s at
by_kind s at width n e = ap (λ k. run_at (samples_by_type k width n) s at) (sym e)

pub returns-in-Constant : goal.returns-in-Constant
returns-in-Constant c = let a = c.args in c.decode_constant.ensures ∙ by_kind a.s.now a.at a.width (length a.out.now) c.in-Constant.is

pub returns-in-Verbatim : goal.returns-in-Verbatim
unfolding samples_by_type
returns-in-Verbatim c = let a = c.args in c.decode_verbatim.ensures ∙ by_kind a.s.now a.at a.width (length a.out.now) c.in-Verbatim.is

pub returns-in-Fixed : goal.returns-in-Fixed
unfolding samples_by_type
returns-in-Fixed c = let a = c.args in c.decode_fixed.ensures ∙ by_kind a.s.now a.at a.width (length a.out.now) c.in-Fixed.is

pub returns-in-Lpc : goal.returns-in-Lpc
unfolding samples_by_type
returns-in-Lpc c = let a = c.args in c.decode_lpc.ensures ∙ by_kind a.s.now a.at a.width (length a.out.now) c.in-Lpc.is
