-- DEMAND 3, for the code's stream header: only an answer that is cut short changes with more bytes, and a header's bytes
-- alone give it. Besides, which refusals there are, and that a header gives settings that a stream can have. Assumes
-- nothing.
use Prim.Native.Nat.{ℕ, ◌≤◌, ◌<◌}
use borrow.Author.Tests.{eqb-true, le-leb}
use mathlib.Core.Bool.{Bool, true, false, cond}
use mathlib.Core.Logic.{◌≢◌}
use mathlib.Core.Path.{◌≡◌, refl, sym, ◌∙◌, subst}
use mathlib.Core.List.{List, ◌++◌}
use lib.Dec.{eqb}
use lib.ListN.{length, take}
use contract.Lifetimes.{Lfts}
use denote.Triple.Entry.{Args}
use denote.Triple.Clauses.{at_exit}
use Rattle.std.specs.Prelude.{Some, None, Result, Ok, Err}
use Rattle.reading.specs.Places.{got_at, refused_at, short_at}
use Rattle.error.specs.declared.Refusal.{Refusal}
use Rattle.error.specs.declared.Refusal.TheVariants.{CutShort, NotSync, Reserved, BadShape}
use Rattle.error.specs.Numbers.{number_of}
use Rattle.error.proofs.Outcome.{number-tells}
use Rattle.rfc9639.specs.declared.StreamInfo.{StreamInfo}
use Rattle.rfc9639.specs.Stream.{in_range, bits_in_range, possible}
use Rattle.rfc9639.specs.StreamHeader.{stream_header_of}
use Rattle.rfc9639.proofs.StreamHeaderValues.{StreamRefusal, no_mark, forbidden, bad_shape}
use Rattle.demands.proofs.StreamHeaders as laws
use Rattle.stream.specs.Answers.{stream_at}
use Rattle.stream.proofs.Outcome.{stream_at-one}
use Rattle.stream.specs.contracts.read_stream_header as read_stream_header
use Rattle.stream.proofs.read_stream_header.Reads as read_stream_header_reads

-- what `read_stream_header` answers
abbrev pub HeaderAnswer : Type 0
HeaderAnswer = Result (StreamInfo × ℕ) Refusal

-- an outcome of `read_stream_header(s)`: it answers r. The contract is the one that Rattle reads off the source.
pub record ReadStreamHeader (s : List ℕ) (r : HeaderAnswer) : Type 0 where
  pub κs : Lfts read_stream_header.ended.signature.lifetimes
  pub args : Args read_stream_header.ended.signature κs
  pub bytes : args.0.now ≡ s
  pub meets : read_stream_header_reads.Learnt κs args r (at_exit read_stream_header.ended κs args (tt, tt))

pub reads-header : {s : List ℕ} {r : HeaderAnswer} → ReadStreamHeader s r → stream_at r ≡ stream_header_of s
reads-header {s} {r} o = subst (λ (x : List ℕ). stream_at r ≡ stream_header_of x) o.bytes o.meets

-- the refusals of a stream header: 2, 3, 4 and 9
pub data HeaderRefusal : Refusal → Type 0 where
  cut_short : HeaderRefusal CutShort
  not_sync : HeaderRefusal NotSync
  reserved : HeaderRefusal Reserved
  wrong_shape : HeaderRefusal BadShape

-- an answer is what the definition says
answer : {s : List ℕ} {r : HeaderAnswer} (x : HeaderAnswer) → ReadStreamHeader s r → stream_header_of s ≡ stream_at x → r ≡ x
answer {r = r} x o e = stream_at-one r x (reads-header o ∙ e)

module _ {s : List ℕ} where
  -- ---- 1. More bytes never change an answer other than cut short.

  pub header-never_unsaid : {r : HeaderAnswer} → ReadStreamHeader s r → r ≢ Err CutShort
      → (t : List ℕ) {r' : HeaderAnswer} → ReadStreamHeader (s ++ t) r' → r ≡ r'
  header-never_unsaid o known t {r'} p =
      answer r' o (sym (laws.never_unsaid s t (λ e. known (answer (Err CutShort) o e))) ∙ sym (reads-header p))

  -- ---- 2. A header: its bytes are there, they alone give it, and fewer are cut short.

  module _ {info : StreamInfo} {n : ℕ} (o : ReadStreamHeader s (Ok (info, n))) where
    header_is : stream_header_of s ≡ got_at info (record { byte = n; bit = 0 })
    header_is = sym (reads-header o)

    pub header-counted-there : n ≤ length s
    header-counted-there = laws.counted-there s info _ header_is

    -- the mark and STREAMINFO
    pub header_at-least_42 : 42 ≤ n
    header_at-least_42 = laws.at_least_42 s info _ header_is

    pub header-counted-suffice : {r' : HeaderAnswer} → ReadStreamHeader (take n s) r' → r' ≡ Ok (info, n)
    header-counted-suffice p = answer (Ok (info, n)) p (laws.counted-suffice s info _ header_is)

    pub header-fewer-cut_short : (m : ℕ) → m < n → {r' : HeaderAnswer} → ReadStreamHeader (take m s) r' → r' ≡ Err CutShort
    header-fewer-cut_short m less p = answer (Err CutShort) p (laws.fewer-cut_short s info _ header_is m less)

    -- ---- 3. Settings with a header's record are settings that a stream can have.

    pub header_bits_lem : (4 ≤ info.bits) × (info.bits ≤ 32)
    header_bits_lem = let k = laws.info_in_range s info _ header_is in (k.deep, k.bits)

    pub header-possible : possible (record { block = None; stream = Some (record { bits = info.bits; rate = info.rate }) }) ≡ true
    unfolding possible in_range bits_in_range
    header-possible = rw (le-leb 4 info.bits header_bits_lem.0, le-leb info.bits 32 header_bits_lem.1) refl

  -- ---- 4. The refusals.

  pub header-refusals : {e : Refusal} → ReadStreamHeader s (Err e) → HeaderRefusal e
  header-refusals {e} o = go (eqb (number_of e) 2) refl (reads-header o)
    where
      is : (x : Refusal) → number_of e ≡ number_of x → HeaderRefusal x → HeaderRefusal e
      is x q = subst HeaderRefusal (sym (number-tells e x q))

      by : (n : ℕ) → number_of e ≡ n → StreamRefusal n → HeaderRefusal e
      by n q no_mark = is NotSync q not_sync
      by n q forbidden = is Reserved q reserved
      by n q bad_shape = is BadShape q wrong_shape

      go : (b : Bool) → eqb (number_of e) 2 ≡ b → cond b short_at (refused_at (number_of e)) ≡ stream_header_of s → HeaderRefusal e
      go true t f = is CutShort (eqb-true (number_of e) 2 t) cut_short
      go false t f = by (number_of e) refl (laws.refusal-listed s (number_of e) (sym f))
