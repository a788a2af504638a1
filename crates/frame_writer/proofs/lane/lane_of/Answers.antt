-- `lane_of` meets its contract, code by code as in the definition. Assumes nothing.
use borrow.Author.Tests.{lt-ltb, le-ltb, ne_eqb}
use native.Mathlib.Omega.{arith}
use mathlib.Core.Path.{◌≡◌, refl}
use Rattle.rfc9639.specs.HeaderCodes.{assignment}
use Rattle.rfc9639.specs.Write.{lane_of}
use Rattle.frame_writer.proofs.lane.lane_of.Goals as goal

pub returns-in-0-to-7 : goal.returns-in-0-to-7
unfolding assignment lane_of
returns-in-0-to-7 c = rw (lt-ltb c.args.code 8 (omega arith)) refl

pub returns-then-c-eq0 : goal.returns-then-c-eq0
unfolding assignment lane_of
returns-then-c-eq0 c = rw (c.in-8.is, c.if-c-eq0.true) refl

pub returns-else-c-eq0 : goal.returns-else-c-eq0
unfolding assignment lane_of
returns-else-c-eq0 c = rw (c.in-8.is, ne_eqb _ _ c.if-c-eq0.false) refl

pub returns-then-c-eq0-2 : goal.returns-then-c-eq0-2
unfolding assignment lane_of
returns-then-c-eq0-2 c = rw (c.in-9.is, c.if-c-eq0-2.true) refl

pub returns-else-c-eq0-2 : goal.returns-else-c-eq0-2
unfolding assignment lane_of
returns-else-c-eq0-2 c = rw (c.in-9.is, ne_eqb _ _ c.if-c-eq0-2.false) refl

pub returns-then-c-eq0-3 : goal.returns-then-c-eq0-3
unfolding assignment lane_of
returns-then-c-eq0-3 c =
    let eight : c.args.code ≡ 8 → ⊥ = λ e. omega arith in
    let nine : c.args.code ≡ 9 → ⊥ = λ e. omega arith in
    rw (le-ltb c.args.code 8 (omega arith), ne_eqb _ _ eight, ne_eqb _ _ nine, c.if-c-eq0-3.true) refl

pub returns-else-c-eq0-3 : goal.returns-else-c-eq0-3
unfolding assignment lane_of
returns-else-c-eq0-3 c =
    let eight : c.args.code ≡ 8 → ⊥ = λ e. omega arith in
    let nine : c.args.code ≡ 9 → ⊥ = λ e. omega arith in
    rw (le-ltb c.args.code 8 (omega arith), ne_eqb _ _ eight, ne_eqb _ _ nine, ne_eqb _ _ c.if-c-eq0-3.false) refl
