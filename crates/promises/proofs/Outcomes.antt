-- Outcomes of `read_frame` and `write_frame`: an answer and a buffer that meet the contract. Assumes nothing.
use Prim.Native.Nat.{ℕ}
use mathlib.Core.Path.{◌≡◌, subst}
use mathlib.Core.List.{List}
use lib.IntN.{ℤ}
use contract.Lifetimes.{Lfts}
use denote.Triple.Entry.{Args}
use denote.Triple.Clauses.{at_exit}
use Rattle.std.specs.Prelude.{Result}
use Rattle.rfc9639.specs.declared.FrameSetting.{FrameSetting}
use Rattle.rfc9639.specs.declared.Settings.{Settings}
use Rattle.rfc9639.specs.Read.{read}
use Rattle.rfc9639.specs.Write.{write}
use Rattle.error.specs.declared.Refusal.{Refusal}
use Rattle.frame.specs.declared.Accepted.{Accepted}
use Rattle.frame.specs.Reads.{Reads}
use Rattle.frame.specs.contracts.read_frame as read_frame
use Rattle.frame.proofs.read_frame.Reads as read_frame_reads
use Rattle.frame_writer.specs.Outcomes.{outcome}
use Rattle.frame_writer.specs.contracts.write_frame as write_frame
use Rattle.frame_writer.proofs.write_frame.Reads as write_frame_reads

-- what `read_frame` answers, and `write_frame`
abbrev pub ReadAnswer : Type 0
ReadAnswer = Result Accepted Refusal

abbrev pub WriteAnswer : Type 0
WriteAnswer = Result ℕ Refusal

-- the settings among the arguments of `write_frame`
abbrev setting_of : (κs : Lfts write_frame.ended.signature.lifetimes) → Args write_frame.ended.signature κs → FrameSetting
setting_of κs args = record {
  channels = args.1.0;
  bits = args.1.1.0;
  blocking = args.1.1.1.0;
  number = args.1.1.1.1.0;
  size = args.1.1.1.1.1.0;
}

-- The contracts here are those that Rattle reads off the source. A weaker contract breaks `reads` or `writes`, and with
-- them every theorem of this crate.

-- an outcome of `read_frame(s, given, samples)`, where the samples held b: it answers r, and the samples hold `left`
-- afterwards
pub record ReadFrame (given : Settings) (s : List ℕ) (b : List ℤ) (r : ReadAnswer) (left : List ℤ) : Type 0 where
  pub κs : Lfts read_frame.ended.signature.lifetimes
  pub args : Args read_frame.ended.signature κs
  pub bytes : args.0.now ≡ s
  pub settings : args.1.0 ≡ given
  pub lent : args.1.1.0.now ≡ b
  pub meets : read_frame_reads.Learnt κs args r (at_exit read_frame.ended κs args (tt, (tt, (left, tt))))

pub reads : {given : Settings} {s : List ℕ} {b : List ℤ} {r : ReadAnswer} {left : List ℤ} → ReadFrame given s b r left → Reads (read given s b) r left
reads {given} {s} {b} {r} {left} o =
    let lent = o.args.1.1.0.now in
    subst (λ (x : List ℤ). Reads (read given s x) r left) o.lent
    (subst (λ (x : Settings). Reads (read x s lent) r left) o.settings
    (subst (λ (x : List ℕ). Reads (read o.args.1.0 x lent) r left) o.bytes o.meets))

-- an outcome of `write_frame(xs, .. settings .., out)`: it answers r, and the output holds `left` afterwards
pub record WriteFrame (set : FrameSetting) (xs : List ℤ) (out : List ℕ) (r : WriteAnswer) (left : List ℕ) : Type 0 where
  pub κs : Lfts write_frame.ended.signature.lifetimes
  pub args : Args write_frame.ended.signature κs
  pub samples : args.0.now ≡ xs
  pub settings : setting_of κs args ≡ set
  pub lent : args.1.1.1.1.1.1.0.now ≡ out
  pub meets : write_frame_reads.Learnt κs args r (at_exit write_frame.ended κs args (tt, (tt, (tt, (tt, (tt, (tt, (left, tt))))))))

pub writes : {set : FrameSetting} {xs : List ℤ} {out : List ℕ} {r : WriteAnswer} {left : List ℕ} → WriteFrame set xs out r left → outcome r left ≡ write set xs out
writes {set} {xs} {out} {r} {left} o =
    let lent = o.args.1.1.1.1.1.1.0.now in
    subst (λ (x : List ℕ). outcome r left ≡ write set xs x) o.lent
    (subst (λ (x : FrameSetting). outcome r left ≡ write x xs lent) o.settings
    (subst (λ (x : List ℤ). outcome r left ≡ write (setting_of o.κs o.args) x lent) o.samples o.meets))
