-- What a stream says about itself by its first header: settings that a stream can have, which more bytes do not change
-- once the header is decided. Assumes nothing.
use Prim.Native.Nat.{ℕ, ◌≤◌}
use mathlib.Core.Bool.{true}
use mathlib.Core.Path.{◌≡◌, refl, ap}
use mathlib.Core.List.{List, ◌++◌}
use borrow.Author.Tests.{le-leb, lt-ltb}
use Rattle.std.specs.Prelude.{Option, Some, None}
use Rattle.reading.specs.declared.Place.{Place}
use Rattle.reading.specs.Places.{At, got_at, refused_at, short_at, run_at, place_of}
use Rattle.reading.proofs.BytePrefixes.{run_at_append}
use Rattle.rfc9639.specs.declared.FrameHeader.{FrameHeader}
use Rattle.rfc9639.specs.declared.Settings.{Settings}
use Rattle.rfc9639.specs.Header.{header}
use Rattle.rfc9639.specs.Stream.{in_range, bits_in_range, possible}
use Rattle.rfc9639.specs.FrameByFrame.{block_in, stream_settings}
use Rattle.demands.proofs.Headers.{header-sound}

-- settings of a stream without a record
abbrev pub blocks_only : Option ℕ → Settings
blocks_only block = record { block = block; stream = None }

-- the size of a block is one that a stream can have
pub size-in_range : {n : ℕ} → 1 ≤ n → n ≤ 65535 → in_range (Some n) ≡ true
unfolding in_range
size-in_range {n} some few = rw (lt-ltb 0 n some, le-leb n 65535 few) refl

pub size-possible : {n : ℕ} → 1 ≤ n → n ≤ 65535 → possible (blocks_only (Some n)) ≡ true
unfolding possible bits_in_range
size-possible some few = rw (size-in_range some few) refl

module _ (s : List ℕ) where
  pub header-settings : {h : FrameHeader} {p : Place} → run_at header s (place_of 0) ≡ got_at h p → stream_settings s ≡ blocks_only (Some h.size)
  unfolding stream_settings block_in
  header-settings e = ap (λ x. blocks_only (block_in x)) e

  pub refused-settings : {n : ℕ} → run_at header s (place_of 0) ≡ refused_at n → stream_settings s ≡ blocks_only None
  unfolding stream_settings block_in
  refused-settings e = ap (λ x. blocks_only (block_in x)) e

  pub short-settings : run_at header s (place_of 0) ≡ short_at → stream_settings s ≡ blocks_only None
  unfolding stream_settings block_in
  short-settings e = ap (λ x. blocks_only (block_in x)) e

  -- a stream can have them
  pub stream-possible : possible (stream_settings s) ≡ true
  unfolding possible stream_settings block_in in_range bits_in_range
  stream-possible = go (run_at header s (place_of 0)) refl
    where
      go : (x : At FrameHeader) → run_at header s (place_of 0) ≡ x → possible (blocks_only (block_in x)) ≡ true
      go (got_at h p) e = size-possible (header-sound s e).some (header-sound s e).size
      go (refused_at n) e = refl
      go short_at e = refl

  -- a header that is there, or refused, stays so
  pub settings_stay : (run_at header s (place_of 0) ≡ short_at → ⊥) → (t : List ℕ) → stream_settings (s ++ t) ≡ stream_settings s
  unfolding stream_settings
  settings_stay known t = ap (λ x. blocks_only (block_in x)) (run_at_append header s (place_of 0) t known)
