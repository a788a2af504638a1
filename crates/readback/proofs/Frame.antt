-- The frame is read back (RFC 9639 section 9). Assumes nothing.
use Prim.Native.Nat.{ℕ, ◌≤◌}
use native.Mathlib.Omega.{arith}
use mathlib.Core.Path.{◌≡◌, refl, ap, sym}
use mathlib.Core.Bool.{true}
use mathlib.Core.List.{List, [], ◌++◌, append_assoc, flat_map}
use borrow.Author.Tests.{le-leb, eq-eqb}
use lib.IntN.{ℤ}
use lib.ListN.{length, replicate}
use lib.Pow.{pow_pos}
use Rattle.std.specs.Prelude.{Option}
use Rattle.reading.specs.Readers.{each}
use Rattle.reading.specs.NumbersAsBits.{bits_of}
use Rattle.reading.proofs.Postconditions.{Every}
use Rattle.reading.proofs.NumbersAsBits.{bits_of-zero}
use Rattle.rfc9639.specs.declared.FrameHeader.{FrameHeader}
use Rattle.rfc9639.specs.declared.FrameSetting.{FrameSetting}
use Rattle.rfc9639.specs.declared.Lane.{Lane}
use Rattle.rfc9639.specs.declared.Settings.{Settings}
use Rattle.rfc9639.specs.CheckSums.{crc16}
use Rattle.rfc9639.specs.HeaderCodes.{assignment}
use Rattle.rfc9639.specs.Header.{sample_count}
use Rattle.rfc9639.specs.Subframe.{subframe}
use Rattle.rfc9639.specs.Frame.{checked, opening, widths, padding, footer, body, frame}
use Rattle.rfc9639.specs.Write.{header_bits, lanes, lane_width, stored, lane_bits, subframes_bits, padded_to_byte, footed, frame_bits}
use Rattle.rfc9639.proofs.Widths.{Fits}
use Rattle.rfc9639.proofs.CheckSums.{crc16-below}
use Rattle.rfc9639.proofs.Lists.{width_within, widths-lanes}
use Rattle.demands.proofs.StreamRecords.{bits_read_lem}
use Rattle.readback.specs.StreamRate.{rate_of}
use Rattle.readback.specs.Readable.{readable}
use Rattle.readback.proofs.SpelledValues.{Spells, spells_as, spells_value, spells_by, spells_bits, spells_passed, spells_done, spells_bind, spells_then, spells_last, spells_require, spells_checked, spells_each}
use Rattle.rfc9639.proofs.AllowedSettings.{Allowed}
use Rattle.readback.proofs.Header.{header_of, spells_header}
use Rattle.readback.proofs.StreamBlock.{completed_is, readable-possible, readable-bits, readable-fits}
use Rattle.readback.proofs.Subframe.{spells_subframe}
use Rattle.readback.proofs.Lanes.{Held, lanes-held, left_and_right-lanes}

-- what follows the subframes: the padding and the CRC-16
abbrev footer_bits : List ℕ → List ℕ
footer_bits before = replicate (padding (length before)) 0 ++ bits_of 16 (crc16 (padded_to_byte before))

spells_footer : {before : List ℕ} → Spells before footer (footer_bits before) tt
unfolding footer padded_to_byte
spells_footer {before} =
    spells_then _ spells_passed
    (spells_bind _ (spells_as (bits_of-zero (padding (length before))) (spells_bits (padding (length before)) {v = 0} (pow_pos (padding (length before)))))
    (spells_then _ spells_passed
    (spells_last _ (spells_bits 16 (crc16-below (padded_to_byte before))) (spells_require 10 (eq-eqb (crc16 (padded_to_byte before)) (crc16 (padded_to_byte before)) refl)))))

module _ (set : FrameSetting) (xs : List ℤ) (ok : Allowed set (length xs)) (fit : Every (Fits set.bits) xs) where
  some : 1 ≤ set.bits
  some = omega (arith, ok.depth.some)

  -- one lane
  spells_lane : (lane : Lane) → Held set.bits set.size xs lane → (before : List ℕ)
      → Spells before (subframe set.size (lane_width set.bits lane)) (lane_bits set.bits set.size xs lane) (stored set.size xs lane)
  unfolding lane_bits
  spells_lane lane held before =
      let ys = stored set.size xs lane in
      let width = width_within set.bits lane in
      spells_by (ap (λ n. subframe n (lane_width set.bits lane)) (sym held.count))
      (spells_subframe (lane_width set.bits lane) (omega (arith, some, width)) (omega (arith, ok.depth.most, width)) ys held.fits
      (omega (arith, held.count, ok.some)))

  spells_subframes : {before : List ℕ}
      → Spells before (each (subframe set.size) (widths (assignment set.channels) set.bits)) (subframes_bits set xs)
      (flat_map (stored set.size xs) (lanes (assignment set.channels)))
  unfolding subframes_bits
  spells_subframes =
      let a = assignment set.channels in
      spells_by (ap (each (subframe set.size)) (widths-lanes a set.bits))
      (spells_each (Held set.bits set.size xs) (lane_bits set.bits set.size xs) (subframe set.size) (lane_width set.bits) (stored set.size xs) spells_lane (lanes a)
      (lanes-held set.size xs some ok.depth.most fit a ok.samples))

  spells_body : (rate : Option ℕ) → Spells (header_bits set) (body (header_of rate set)) (subframes_bits set xs ++ footer_bits (header_bits set ++ subframes_bits set xs)) xs
  unfolding body
  spells_body rate =
      spells_bind _ spells_subframes
      (spells_last _ spells_footer (spells_value (left_and_right-lanes set.size xs some ok.depth.most fit (assignment set.channels) ok.samples) spells_done))

  -- under settings that the frame is readable under, with room for its samples
  module _ (given : Settings) (can : readable given set ≡ true) (room : ℕ) (h : length xs ≤ room) where
    abbrev whole : FrameHeader
    whole = header_of (rate_of given.stream) set

    spells_opening : Spells [] (opening (record { given = given; room = room })) (header_bits set) whole
    unfolding opening checked sample_count
    spells_opening =
        spells_checked 11 _ (readable-possible given set can)
        (spells_last _ (spells_header set ok)
        (spells_by (ap (checked (record { given = given; room = room })) (completed_is given.stream set some))
        (spells_checked 8 _ (bits_read_lem some ok.depth.most)
        (spells_checked 9 _ (readable-bits given set can)
        (spells_checked 9 _ (readable-fits given set can)
        (spells_checked 7 _ (le-leb _ room (omega (arith, ok.samples))) spells_done))))))

    pub spells_frame : Spells [] (frame (record { given = given; room = room })) (frame_bits set xs) (record { header = whole; samples = xs })
    unfolding frame frame_bits footed padded_to_byte
    spells_frame = spells_as (simp append_assoc) (spells_bind _ spells_opening (spells_last _ (spells_body (rate_of given.stream)) spells_done))
