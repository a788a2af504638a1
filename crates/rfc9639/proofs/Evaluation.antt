-- Examples: how their numbers are written, and the list of all definitions that they unfold. Assumes nothing.
use Prim.Native.Nat.{ℕ, zero, suc, ◌/◌, ◌%◌, ◌^◌}
use mathlib.Core.List.{List, [], ◌∷◌}
use lib.IntN.{ℤ, pos, neg_ℤ}
use Rattle.std.specs.Prelude.{Some, None}
use Rattle.reading.specs.Readers.{◌>>=◌, bits, zeros, passed, require, many, each, bits_from, zeros_from, reply, follow, run}
use Rattle.reading.specs.Bytes.{bits_of_byte, bits_of_bytes}
use Rattle.reading.specs.Places.{run_at, inside, to_at}
use Rattle.rfc9639.specs.CheckSums.{crc_bit, crc_bits, crc8, crc16}
use Rattle.rfc9639.specs.Integers.{signed, low, wrapped, shift_down, shift_up, signed_bits}
use Rattle.rfc9639.specs.Number.{with_followers, number_from, coded_number}
use Rattle.rfc9639.specs.HeaderCodes.{assignment, bit_depth, block_size, rate_bits, sample_rate, channel_count, size_code, size_bits, bits_code}
use Rattle.rfc9639.specs.Header.{time_of, sync, size_and_rate, depth_and_zero, channels_and_bits, codes, block_time, header_sum, header_after_codes, header, sample_count}
use Rattle.rfc9639.specs.Residual.{unfolded, folded, rice, escaped, coded_residuals, partition, partition_sizes, residual}
use Rattle.rfc9639.specs.Prediction.{dot, predicted, restored, predict, fixed_coefficients}
use Rattle.rfc9639.specs.Subframe.{subframe_type, wasted_bits, checked_wasted_bits, kind_and_wasted, subframe_header, order_of, fixed, quantization, lpc_after_shift, lpc, samples_by_type, subframe_after_header, subframe}
use Rattle.rfc9639.specs.Stereo.{right_of, left_of, doubled, left_of_mid, right_of_mid, pairwise, left_and_right}
use Rattle.rfc9639.specs.Stream.{in_range, bits_in_range, possible, rate_or, bits_or, completed, bits_read, bits_fit, block_fits, first_sample}
use Rattle.rfc9639.specs.Frame.{checked, opening, widths, padding, footer, body, frame}
use Rattle.reading.specs.NumbersAsBits.{bits_of, unary, row, spelt, bytes_of, packed}
use Rattle.rfc9639.specs.declared.FrameSetting.{FrameSetting}
use Rattle.rfc9639.specs.declared.Settings.{Settings}
use Rattle.rfc9639.specs.SubframeCoding.{fold, rice_bits, residual_bits, residuals, fixed_residuals, plain, subframe_header_bits, coded_as, equal_samples, uniform, numbers_from, fixed_candidates, candidates, fewest_of, fewest, cost, chosen, subframe_bits}
use Rattle.rfc9639.specs.Write.{Written, followers, number_bytes, code_bits, field_bits, header_bits, lane_of, lanes, lane_width, mid_of, side_of, channel_samples, stored, lane_bits, subframes_bits, padded_to_byte, footed, frame_bits, frame_bytes, most_bits, frame_bound, writable, number_limit, allowed, fits, all_fit, unwritten, write}
use Rattle.rfc9639.specs.Read.{Outcome, refusal, accepted, untouched, zeroed, cut_short, begun, finished, result_of, result, read}

-- the n bytes of a number, highest first, as a hex dump shows them
abbrev pub hex : ℕ → ℕ → List ℕ
hex zero v = []
hex (suc n) v = v / 256 ^ n % 256 ∷ hex n v

abbrev pub minus : ℕ → ℤ
minus n = neg_ℤ (pos n)

-- settings of the reader: the size of the stream's blocks, or that it is unknown
abbrev pub blocks_of : ℕ → Settings
blocks_of size = record { block = Some size; stream = None }

-- the stream's bits and rate, with the size of its blocks or without
abbrev pub record_of : ℕ → ℕ → Settings
record_of bits rate = record { block = None; stream = Some (record { bits = bits; rate = rate }) }

abbrev pub record_and_blocks : ℕ → ℕ → ℕ → Settings
record_and_blocks bits rate size = record { block = Some size; stream = Some (record { bits = bits; rate = rate }) }

abbrev pub unknown : Settings
unknown = record { block = None; stream = None }

-- to unfold this is to unfold the whole definition of reading
unfoldable pub computed : Settings → List ℕ → List ℤ → Outcome
unfolding ◌>>=◌ bits zeros passed require many each bits_from zeros_from reply follow run bits_of_byte bits_of_bytes run_at inside to_at crc_bit crc_bits crc8 crc16 signed low wrapped shift_down shift_up signed_bits with_followers number_from coded_number assignment bit_depth block_size rate_bits sample_rate time_of sync size_and_rate depth_and_zero channels_and_bits codes block_time header_sum header_after_codes header channel_count sample_count in_range bits_in_range possible rate_or bits_or completed bits_read bits_fit block_fits first_sample unfolded folded rice escaped coded_residuals partition partition_sizes residual dot predicted restored predict fixed_coefficients subframe_type wasted_bits checked_wasted_bits kind_and_wasted subframe_header order_of fixed quantization lpc_after_shift lpc samples_by_type subframe_after_header subframe right_of left_of doubled left_of_mid right_of_mid pairwise left_and_right checked opening widths padding footer body frame refusal accepted untouched zeroed cut_short begun finished result_of result read
computed set s b = read set s b

-- and this, of writing
unfoldable pub computed_write : FrameSetting → List ℤ → List ℕ → Written
unfolding computed bits_of unary row spelt bytes_of packed fold rice_bits residual_bits residuals fixed_residuals plain subframe_header_bits coded_as equal_samples uniform numbers_from fixed_candidates candidates fewest_of fewest cost chosen subframe_bits size_code size_bits bits_code followers number_bytes code_bits field_bits header_bits lane_of lanes lane_width mid_of side_of channel_samples stored lane_bits subframes_bits padded_to_byte footed frame_bits frame_bytes most_bits frame_bound writable number_limit allowed fits all_fit unwritten write
computed_write set xs out = write set xs out
