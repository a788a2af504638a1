-- Callers of `read_frame`: the buffer keeps its length; a frame's bytes and samples are there. Assumes nothing.
use Prim.Native.Nat.{ℕ, ◌*◌, ◌≤◌}
use native.Mathlib.Omega.{arith}
use mathlib.Core.Path.{◌≡◌, ap, sym, ◌∙◌, subst}
use mathlib.Core.List.{List}
use lib.IntN.{ℤ}
use lib.ListN.{length}
use Rattle.std.specs.Prelude.{Result, Ok}
use Rattle.error.specs.declared.Refusal.{Refusal}
use Rattle.rfc9639.specs.declared.Settings.{Settings}
use Rattle.rfc9639.specs.Read.{Report, read}
use Rattle.demands.proofs.Demand3.{length-kept, counted-there, accepted-count, places_written-room}
use Rattle.frame.specs.declared.Accepted.{Accepted}
use Rattle.frame.specs.Reads.{report_of, Reads}

module _ (set : Settings) (s : List ℕ) (b : List ℤ) {left : List ℤ} {r : Result Accepted Refusal} (h : Reads (read set s b) r left) where
  pub buffer-length : length left ≡ length b
  buffer-length = ap length h.samples ∙ length-kept set s b

  module _ {f : Accepted} (e : r ≡ Ok f) where
    reported : report_of (Ok f) ≡ (read set s b).report
    reported = ap report_of (sym e) ∙ h.report

    zero_number : (read set s b).report.number ≡ 0
    zero_number = sym (ap (λ q. q.number) reported)

    pub bytes-there : f.consumed ≤ length s
    bytes-there = omega (arith, ap (λ q. q.consumed) reported, counted-there set s b zero_number)

    pub samples-there : f.channels * f.size ≤ length b
    samples-there =
        subst (λ (q : Report). q.channels * q.size ≤ length b) (sym reported)
        (omega (arith, places_written-room set s (length b), accepted-count set s b zero_number))
