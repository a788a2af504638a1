-- Any two outcomes that meet a public function's contract are equal. Assumes nothing.
use Prim.Native.Nat.{ℕ}
use mathlib.Core.Path.{◌≡◌, refl, ap, ap₂, sym}
use mathlib.Core.Bool.{Bool}
use Rattle.std.specs.Prelude.{Result, Ok, Err}
use Rattle.reading.specs.declared.Place.{Place}
use Rattle.reading.specs.Places.{got_at}
use Rattle.reading.proofs.Outcome.{OneOutcome, one_value}
use Rattle.error.specs.declared.Refusal.{Refusal}
use Rattle.error.proofs.Refusals.{refused-one, got_not_refused, read_at-one}
use Rattle.rfc9639.specs.declared.StreamInfo.{StreamInfo}
use Rattle.stream.specs.Answers.{stream_at, start_at}
use Rattle.stream.specs.contracts.read_stream_header as read_stream_header
use Rattle.stream.proofs.read_stream_header.Reads as read_stream_header_reads
use Rattle.stream.specs.contracts.read_stream_start as read_stream_start
use Rattle.stream.proofs.read_stream_start.Reads as read_stream_start_reads
use Rattle.stream.specs.contracts.read_block_head as read_block_head
use Rattle.stream.proofs.read_block_head.Reads as read_block_head_reads
use Rattle.stream.specs.contracts.md5_bytes as md5_bytes
use Rattle.stream.proofs.md5_bytes.Reads as md5_bytes_reads

-- equal answers have equal values and places
got-one : {A : Type 0} {a b : A} {p q : Place} → got_at a p ≡ got_at b q → (a ≡ b) × (p ≡ q)
got-one e = (cc, cc)

pub stream_at-one : (r r' : Result (StreamInfo × ℕ) Refusal) → stream_at r ≡ stream_at r' → r ≡ r'
stream_at-one (Ok (i, n)) (Ok (j, m)) e = let d = got-one e in ap₂ (λ a p. Ok (a, p.byte)) d.0 d.1
stream_at-one (Ok r) (Err x) e = absurd (got_not_refused r.0 _ x e)
stream_at-one (Err x) (Ok r) e = absurd (got_not_refused r.0 _ x (sym e))
stream_at-one (Err x) (Err y) e = ap Err (refused-one x y e)

start_at-one : (r r' : Result (Bool × StreamInfo × ℕ) Refusal) → start_at r ≡ start_at r' → r ≡ r'
start_at-one (Ok (l, i, n)) (Ok (k, j, m)) e = let d = got-one e in ap₂ (λ a p. Ok (a.0, a.1, p.byte)) d.0 d.1
start_at-one (Ok r) (Err x) e = absurd (got_not_refused (r.0, r.1) _ x e)
start_at-one (Err x) (Ok r) e = absurd (got_not_refused (r.0, r.1) _ x (sym e))
start_at-one (Err x) (Err y) e = ap Err (refused-one x y e)

pub read_stream_header-one : OneOutcome read_stream_header.ended read_stream_header_reads.Learnt
read_stream_header-one κs args r r' left left' p q = (stream_at-one r r' (one_value p q), refl)

pub read_stream_start-one : OneOutcome read_stream_start.ended read_stream_start_reads.Learnt
read_stream_start-one κs args r r' left left' p q = (start_at-one r r' (one_value p q), refl)

pub read_block_head-one : OneOutcome read_block_head.ended read_block_head_reads.Learnt
read_block_head-one κs args r r' left left' p q = (read_at-one r r' (one_value p q), refl)

pub md5_bytes-one : OneOutcome md5_bytes.ended md5_bytes_reads.Learnt
md5_bytes-one κs args r r' left left' p q = (one_value p q, refl)
