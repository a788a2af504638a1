-- `walk::read_next` meets its contract: it reads the bytes from the place on, and moves past them. Assumes nothing.
use Prim.Native.Nat.{ℕ, ◌-◌, min}
use native.Mathlib.Omega.{arith}
use mathlib.Core.Path.{◌≡◌, subst}
use mathlib.Core.List.{List}
use borrow.Author.Rules.{rules}
use lib.IntN.{ℤ}
use lib.ListN.{length, take, drop}
use Rattle.std.specs.Prelude.{Result}
use Rattle.error.specs.declared.Refusal.{Refusal}
use Rattle.rfc9639.specs.declared.Settings.{Settings}
use Rattle.rfc9639.specs.Read.{read}
use Rattle.frame.specs.declared.Accepted.{Accepted}
use Rattle.frame.specs.Reads.{Reads}
use Rattle.walk.proofs.NextPlace.{part-from-place, Consumed, next-in_range, next-steps}
use Rattle.walk.proofs.read_next.Goals as goal

-- what `read_frame` promises for the bytes from the place on
read_is : (s : List ℕ) (place : ℕ) (set : Settings) (b : List ℤ) {start : ℕ} {r : Result Accepted Refusal} {left : List ℤ} → start ≡ min place (length s)
    → Reads (read set (take (length s - start) (drop start s)) b) r left → Reads (read set (drop place s) b) r left
read_is s place set b {start} {r} {left} e h = subst (λ (l : List ℕ). Reads (read set l b) r left) (part-from-place s place start e) h

pub overflow_add-result : goal.overflow_add-result
overflow_add-result c =
    let m : c.min-start.result ≡ min c.args.place (length c.args.s.now) = search rules in
    let f : Consumed c.read_frame-answer.result c.map_or-consumed.result = search rules in
    omega (arith, next-in_range c.args.s.now c.args.place c.args.set c.args.samples.now (read_is c.args.s.now c.args.place c.args.set c.args.samples.now m c.read_frame-answer.ensures) _ f)

pub returns : goal.returns
returns c =
    let m : c.min-start.result ≡ min c.args.place (length c.args.s.now) = search rules in
    let f : Consumed c.read_frame-answer.result c.map_or-consumed.result = search rules in
    next-steps c.args.s.now c.args.place c.args.set c.args.samples.now (read_is c.args.s.now c.args.place c.args.set c.args.samples.now m c.read_frame-answer.ensures) _ f
