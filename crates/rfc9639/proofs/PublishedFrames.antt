-- Published frames: from the RFC, from the encoder `flac`, and with the data of claxon's tests; and some made for a corner
-- of the format. Assumes nothing.
use mathlib.Core.Path.{◌≡◌, refl}
use mathlib.Core.List.{[], ◌∷◌}
use lib.IntN.{pos}
use lib.ListN.{replicate}
use Rattle.std.specs.Prelude.{Some, None}
use Rattle.rfc9639.specs.Read.{read}
use Rattle.rfc9639.proofs.Evaluation.{hex, minus, blocks_of, computed}

pub record Published : Type 0 where
  -- RFC 9639, appendix D.1: two verbatim channels, 2 and 4 wasted bits
  pub rfc_1 : read (blocks_of 4096) (hex 15 0xfff869180000bf03_58fd03128baa9a) (replicate 3 (pos 7))
      ≡ record { report = record { number = 0; consumed = 15; first = Some 0; rate = Some 44100; channels = 2; bits = 16; size = 1 }; buffer = pos 25588 ∷ pos 10416 ∷ pos 7 ∷ [] }
  -- RFC 9639, appendix D.2: two frames, one after the other; the first is side/right, of fixed predictors ..
  pub rfc_2a : read (blocks_of 16) (hex 91 0xfff86998000f9912_086701623d144299_8f5df70d6fe00c17_caeb21000ee7a77a_24a1590c1217b603_097b784faa9a33d2_85e070ad5b1b4851_b4010d99d2cd1a68_f1e6b810fff86918_0102a402c382c40b_c14a03ee48dd03b6_7c1330) (replicate 33 (pos 7))
      ≡ record { report = record { number = 0; consumed = 68; first = Some 0; rate = Some 44100; channels = 2; bits = 16; size = 16 }; buffer = pos 10372 ∷ pos 18041 ∷ pos 14942 ∷ pos 17876 ∷ pos 15627 ∷ pos 17899 ∷ pos 16242 ∷ pos 18077 ∷ pos 16824 ∷ pos 18263 ∷ pos 17295 ∷ minus 14418 ∷ minus 15201 ∷ minus 14508 ∷ minus 15195 ∷ minus 14818 ∷ pos 6070 ∷ pos 10545 ∷ pos 8743 ∷ pos 10449 ∷ pos 9143 ∷ pos 10463 ∷ pos 9502 ∷ pos 10569 ∷ pos 9840 ∷ pos 10680 ∷ pos 10113 ∷ minus 8428 ∷ minus 8895 ∷ minus 8476 ∷ minus 8896 ∷ minus 8653 ∷ pos 7 ∷ [] }
  -- .. and the second, the stream's last and short block, has two independent channels of three samples
  pub rfc_2b : read (blocks_of 16) (hex 23 0xfff869180102a402_c382c40bc14a03ee_48dd03b67c1330) (replicate 7 (pos 7))
      ≡ record { report = record { number = 0; consumed = 23; first = Some 16; rate = Some 44100; channels = 2; bits = 16; size = 3 }; buffer = minus 15486 ∷ minus 15349 ∷ minus 16054 ∷ minus 9072 ∷ minus 8958 ∷ minus 9410 ∷ pos 7 ∷ [] }
  -- RFC 9639, appendix D.3: a linear predictor of order 3, and four partitions, of which the second is escaped with 5 bits
  pub rfc_3 : read (blocks_of 4096) (hex 31 0xfff868020017e944_004f6f313d1047d2_27cb6d090831452b_dc2822228057a3) (replicate 25 (pos 7))
      ≡ record { report = record { number = 0; consumed = 31; first = Some 0; rate = Some 32000; channels = 1; bits = 8; size = 24 }; buffer = pos 0 ∷ pos 79 ∷ pos 111 ∷ pos 78 ∷ pos 8 ∷ minus 61 ∷ minus 90 ∷ minus 68 ∷ minus 13 ∷ pos 42 ∷ pos 67 ∷ pos 53 ∷ pos 13 ∷ minus 27 ∷ minus 46 ∷ minus 38 ∷ minus 12 ∷ pos 14 ∷ pos 24 ∷ pos 19 ∷ pos 6 ∷ minus 4 ∷ minus 5 ∷ pos 0 ∷ pos 7 ∷ [] }
  -- three escaped partitions: of 31 bits without residuals, of none, whose residuals are zeros, and of one
  pub escaped-widths : read (blocks_of 8) (hex 18 0xfff8600200072914_03050bffe0f0c506_55a6) (replicate 8 (pos 7))
      ≡ record { report = record { number = 0; consumed = 18; first = Some 0; rate = None; channels = 1; bits = 8; size = 8 }; buffer = pos 3 ∷ pos 5 ∷ pos 7 ∷ pos 9 ∷ pos 10 ∷ pos 11 ∷ pos 12 ∷ pos 20 ∷ [] }
  -- side/right, written by the encoder `flac` 1.4.2; one more byte follows
  pub flac_stereo : read (blocks_of 16) (hex 53 0xfff86598000f7114_ffb9ffe90064ecec_24023ade64d92978_9a923d8c00500274_0437055c80d00c03_23a5d1091f5847a4_75452c0aff) (replicate 32 (pos 7))
      ≡ record { report = record { number = 0; consumed = 52; first = Some 0; rate = Some 16000; channels = 2; bits = 16; size = 16 }; buffer = pos 19 ∷ pos 1164 ∷ pos 2154 ∷ pos 2809 ∷ pos 2979 ∷ pos 2736 ∷ pos 2021 ∷ pos 987 ∷ minus 185 ∷ minus 1340 ∷ minus 2267 ∷ minus 2844 ∷ minus 2993 ∷ minus 2646 ∷ minus 1879 ∷ minus 852 ∷ pos 160 ∷ pos 1256 ∷ pos 2158 ∷ pos 2745 ∷ pos 2896 ∷ pos 2570 ∷ pos 1840 ∷ pos 837 ∷ minus 323 ∷ minus 1427 ∷ minus 2298 ∷ minus 2781 ∷ minus 2853 ∷ minus 2482 ∷ minus 1727 ∷ minus 682 ∷ [] }
  -- mid/side, the samples of claxon's `verify_decode_mid_side`
  pub mid-side : read (blocks_of 8) (hex 28 0xfff860a200076102_fef20cfa7f0dedfa_02038991cee005a3_99ee810a) (replicate 16 (pos 7))
      ≡ record { report = record { number = 0; consumed = 28; first = Some 0; rate = None; channels = 2; bits = 8; size = 8 }; buffer = pos 2 ∷ pos 5 ∷ pos 83 ∷ pos 113 ∷ pos 127 ∷ minus 63 ∷ minus 45 ∷ minus 15 ∷ minus 5 ∷ minus 33 ∷ minus 59 ∷ minus 125 ∷ pos 127 ∷ pos 89 ∷ pos 7 ∷ pos 3 ∷ [] }
  -- LPC of order 7, the samples of claxon's `verify_predict_lpc`; method 1, with a quotient of 4 that the 32 bits drop;
  -- variable blocking
  pub lpc : read (blocks_of 4096) (hex 42 0xfff960082a07e04c_ac8daa41a787a0d4_955f970a8abfb536_eda89b7e5e115f80_83ba1e0800031540_a532) (replicate 8 (pos 7))
      ≡ record { report = record { number = 0; consumed = 42; first = Some 42; rate = None; channels = 1; bits = 16; size = 8 }; buffer = minus 21363 ∷ minus 21951 ∷ minus 22649 ∷ minus 24364 ∷ minus 27297 ∷ minus 26870 ∷ minus 30017 ∷ minus 29718 ∷ [] }
  -- left/side, with a warm-up as long as its partition
  pub left-side : read (blocks_of 2) (hex 16 0xfff8608200013014_649c00002c8090e3) (replicate 4 (pos 7))
      ≡ record { report = record { number = 0; consumed = 16; first = Some 0; rate = None; channels = 2; bits = 8; size = 2 }; buffer = pos 100 ∷ minus 100 ∷ pos 256 ∷ pos 56 ∷ [] }
  -- a frame number in more bytes than it needs, and padding of ones
  pub seven_byte-number : read (blocks_of 1) (hex 18 0xfff86004fe808080_80808500ab00005f_5a74) (replicate 1 (pos 7))
      ≡ record { report = record { number = 0; consumed = 18; first = Some 5; rate = None; channels = 1; bits = 12; size = 1 }; buffer = pos 5 ∷ [] }

pub published : Published
unfolding computed
published = record {
  rfc_1 = refl;
  rfc_2a = refl;
  rfc_2b = refl;
  rfc_3 = refl;
  escaped-widths = refl;
  flac_stereo = refl;
  mid-side = refl;
  lpc = refl;
  left-side = refl;
  seven_byte-number = refl;
}
