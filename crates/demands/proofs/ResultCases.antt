-- The definition's result by cases: by the header, which the stream's record completes, the first subframe's first bit
-- and the body. Assumes nothing.
use Prim.Native.Nat.{ℕ, ◌≤◌, ◌<◌}
use mathlib.Core.Path.{◌≡◌, ap, ap₂, sym, ◌∙◌}
use mathlib.Core.Bool.{true, false}
use mathlib.Core.List.{List}
use borrow.Author.Tests.{le-leb, lt-leb}
use lib.Dec.{leb}
use lib.IntN.{ℤ}
use Rattle.reading.specs.declared.Place.{Place}
use Rattle.reading.specs.Readers.{Ask, done, ◌>>=◌, bits, require}
use Rattle.reading.specs.Places.{place_of, got_at, refused_at, short_at, run_at}
use Rattle.reading.proofs.ByteRuns.{In, start_in, stays_in, bind_got_lem, bind_refused, bind_short, require_holds, require_fails, run_at-done}
use Rattle.rfc9639.specs.declared.FrameHeader.{FrameHeader}
use Rattle.rfc9639.specs.Header.{header, sample_count}
use Rattle.rfc9639.specs.Stream.{possible, completed, bits_read, bits_fit, block_fits}
use Rattle.rfc9639.specs.Frame.{ReaderSettings, checked, opening, body, frame}
use Rattle.rfc9639.specs.Read.{accepted, untouched, zeroed, cut_short, begun, finished, result_of, result}

module _ (set : ReaderSettings) (s : List ℕ) where
  -- the result where the frame was not opened
  shut : (n : ℕ) → run_at (opening set) s (place_of 0) ≡ refused_at n → result set s ≡ untouched n
  unfolding result result_of begun
  shut n e = ap (λ x. result_of set.given s x (run_at (frame set) s (place_of 0))) (bind_refused (opening set) s (place_of 0) _ e)

  pub not_opened : possible set.given ≡ false → run_at (opening set) s (place_of 0) ≡ refused_at 11
  unfolding opening
  not_opened e = require_fails 11 _ (start_in s) e

  pub impossible : possible set.given ≡ false → result set s ≡ untouched 11
  impossible e = shut 11 (not_opened e)

  module _ (ok : possible set.given ≡ true) where
    header-next : run_at (opening set) s (place_of 0) ≡ run_at (header >>= (λ own. checked set (completed set.given.stream own))) s (place_of 0)
    unfolding opening
    header-next = require_holds 11 _ (start_in s) ok

    pub header_refused : (n : ℕ) → run_at header s (place_of 0) ≡ refused_at n → result set s ≡ untouched n
    header_refused n e = shut n (header-next ∙ bind_refused header s (place_of 0) _ e)

    pub opening-short : run_at header s (place_of 0) ≡ short_at → run_at (opening set) s (place_of 0) ≡ short_at
    opening-short e = header-next ∙ bind_short header s (place_of 0) _ e

    pub header-short : run_at header s (place_of 0) ≡ short_at → result set s ≡ untouched (cut_short s)
    unfolding result result_of begun
    header-short e =
        ap (λ x. result_of set.given s x (run_at (frame set) s (place_of 0))) (bind_short (opening set) s (place_of 0) _ (opening-short e))

    -- `own` is the header as it was read, and `h` has the stream's values filled in
    module _ {own h : FrameHeader} {p : Place} (e : run_at header s (place_of 0) ≡ got_at own p) (whole : h ≡ completed set.given.stream own) where
      -- the checks after the header, in their order
      after_block : Ask FrameHeader
      after_block = require (leb (sample_count h) set.room) 7 >>= (λ _. done h)

      after_stream : Ask FrameHeader
      after_stream = require (block_fits set.given.block h.time h.size) 9 >>= (λ _. after_block)

      after_bits : Ask FrameHeader
      after_bits = require (bits_fit set.given.stream h.bits) 9 >>= (λ _. after_stream)

      inside : In s p
      inside = stays_in header s (place_of 0) e

      header-got : run_at (opening set) s (place_of 0) ≡ run_at (require (bits_read h.bits) 8 >>= (λ _. after_bits)) s p
      unfolding checked after_bits after_stream after_block
      header-got = header-next ∙ bind_got_lem header s (place_of 0) _ e ∙ ap (λ x. run_at (checked set x) s p) (sym whole)

      pub no_bits : bits_read h.bits ≡ false → result set s ≡ untouched 8
      no_bits none = shut 8 (header-got ∙ require_fails 8 _ inside none)

      module _ (some : bits_read h.bits ≡ true) where
        bits-known : run_at (opening set) s (place_of 0) ≡ run_at after_bits s p
        bits-known = header-got ∙ require_holds 8 _ inside some

        pub other-bits : bits_fit set.given.stream h.bits ≡ false → result set s ≡ untouched 9
        unfolding after_bits
        other-bits other = shut 9 (bits-known ∙ require_fails 9 _ inside other)

        module _ (equal : bits_fit set.given.stream h.bits ≡ true) where
          stream-known : run_at (opening set) s (place_of 0) ≡ run_at after_stream s p
          unfolding after_bits
          stream-known = bits-known ∙ require_holds 9 _ inside equal

          pub larger_block : block_fits set.given.block h.time h.size ≡ false → result set s ≡ untouched 9
          unfolding after_stream
          larger_block larger = shut 9 (stream-known ∙ require_fails 9 _ inside larger)

          module _ (within : block_fits set.given.block h.time h.size ≡ true) where
            block_known_lem : run_at (opening set) s (place_of 0) ≡ run_at after_block s p
            unfolding after_stream
            block_known_lem = stream-known ∙ require_holds 9 _ inside within

            pub no_room : set.room < sample_count h → result set s ≡ untouched 7
            unfolding after_block
            no_room less = shut 7 (block_known_lem ∙ require_fails 7 _ inside (lt-leb (sample_count h) set.room less))

            module _ (fits : sample_count h ≤ set.room) where
              opened : run_at (opening set) s (place_of 0) ≡ got_at h p
              unfolding after_block
              opened = block_known_lem ∙ require_holds 7 _ inside (le-leb (sample_count h) set.room fits) ∙ run_at-done h inside

              pub no_first_bit : run_at (bits 1) s p ≡ short_at → result set s ≡ untouched (cut_short s)
              unfolding result result_of begun
              no_first_bit f =
                  ap (λ x. result_of set.given s x (run_at (frame set) s (place_of 0)))
                  (bind_got_lem (opening set) s (place_of 0) _ opened ∙ bind_short (bits 1) s p _ f)

              module _ {v : ℕ} {q : Place} (f : run_at (bits 1) s p ≡ got_at v q) where
                started : run_at (begun set) s (place_of 0) ≡ got_at h q
                unfolding begun
                started = bind_got_lem (opening set) s (place_of 0) _ opened ∙ bind_got_lem (bits 1) s p _ f ∙ run_at-done h (stays_in (bits 1) s p f)

                pub body-read : {xs : List ℤ} {end : Place} → run_at (body h) s p ≡ got_at xs end → result set s ≡ record { report = accepted set.given h end; front = xs }
                unfolding result result_of finished frame
                body-read g =
                    ap₂ (result_of set.given s) started
                    (bind_got_lem (opening set) s (place_of 0) _ opened ∙ bind_got_lem (body h) s p _ g ∙ run_at-done _ (stays_in (body h) s p g))

                pub body_refused : (n : ℕ) → run_at (body h) s p ≡ refused_at n → result set s ≡ zeroed n h
                unfolding result result_of finished frame
                body_refused n g =
                    ap₂ (result_of set.given s) started (bind_got_lem (opening set) s (place_of 0) _ opened ∙ bind_refused (body h) s p _ g)

                pub body-short : run_at (body h) s p ≡ short_at → result set s ≡ zeroed 2 h
                unfolding result result_of finished frame
                body-short g = ap₂ (result_of set.given s) started (bind_got_lem (opening set) s (place_of 0) _ opened ∙ bind_short (body h) s p _ g)
