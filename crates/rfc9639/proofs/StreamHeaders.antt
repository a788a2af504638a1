-- Stream headers: those of the RFC's examples, and inputs on which other checks, or another order of them, would give
-- another answer. Assumes nothing.
use Prim.Native.Nat.{ℕ}
use mathlib.Core.Path.{◌≡◌, refl}
use mathlib.Core.List.{List, [], ◌++◌}
use Rattle.reading.specs.Places.{At, got_at, refused_at, short_at}
use Rattle.rfc9639.specs.declared.StreamInfo.{StreamInfo}
use Rattle.rfc9639.specs.StreamHeader.{mark, sizes, rate_channels_and_bits, md5, stream_info, last_and_type, first_block, block_head, skipped_block, skipped_blocks, stream_start, stream_header, stream_header_of}
use Rattle.rfc9639.proofs.Evaluation.{hex, computed}

-- to unfold this is to unfold the whole definition of a stream header
unfoldable computed_header : List ℕ → At StreamInfo
unfolding computed mark sizes rate_channels_and_bits md5 stream_info last_and_type first_block block_head skipped_block skipped_blocks stream_start stream_header stream_header_of
computed_header s = stream_header_of s

-- a header that says this and takes n bytes
abbrev takes : List ℕ → StreamInfo → ℕ → Type 0
takes s info n = stream_header_of s ≡ got_at info (record { byte = n; bit = 0 })

abbrev refuses : List ℕ → ℕ → Type 0
refuses s n = stream_header_of s ≡ refused_at n

abbrev cut_short : List ℕ → Type 0
cut_short s = stream_header_of s ≡ short_at

-- The mark and STREAMINFO; `first` is the block's first byte, 0x80 if it is the last block.
abbrev start : ℕ → List ℕ
start first = hex 4 0x664c6143 ++ hex 1 first ++ hex 37 0x0000221000100000_000e00000e0ac442_f000000001112233_445566778899aabb_ccddeeff00

-- what it says
abbrev told : StreamInfo
told = record {
  blocks = record { smallest = 4096; largest = 4096 };
  frames = record { smallest = 14; largest = 14 };
  rate = 44100;
  channels = 2;
  bits = 16;
  samples = 1;
  md5 = record { high = 0x1122334455667788; low = 0x99aabbccddeeff00 };
}

pub record Headers : Type 0 where
  -- RFC 9639, appendix D.1: STREAMINFO alone; the rest of the file is a frame
  pub rfc_1 : takes (hex 57 0x664c614380000022_1000100000000f00_000f0ac442f00000_00013e84b41807dc_690307586a3dad1a_2e0ffff869180000_bf0358fd03128baa_9a)
      (record { blocks = record { smallest = 4096; largest = 4096 }; frames = record { smallest = 15; largest = 15 }; rate = 44100; channels = 2; bits = 16; samples = 1; md5 = record { high = 0x3e84b41807dc6903; low = 0x07586a3dad1a2e0f } }) 42
  -- RFC 9639, appendix D.2: a seek table, a comment and padding after it, up to the first frame's first two bytes
  pub rfc_2 : takes (hex 138 0x664c614300000022_0010001000001700_00440ac442f00000_0013d5b0564975e9_8b8d8b930422757b_8103030000120000_0000000000000000_0000000000000010_0400003a20000000_7265666572656e63_65206c6962464c41_4320312e332e3320_3230313930383034_010000000e000000_5449544c453dd7a9_d79cd795d79d8100_0006000000000000_fff8)
      (record { blocks = record { smallest = 16; largest = 16 }; frames = record { smallest = 23; largest = 68 }; rate = 44100; channels = 2; bits = 16; samples = 19; md5 = record { high = 0xd5b0564975e98b8d; low = 0x8b930422757b8103 } }) 136
  -- RFC 9639, appendix D.3
  pub rfc_3 : takes (hex 73 0x664c614380000022_1000100000001f00_001f07d000700000_0018f8f9e396f5cb_cfc6dc807f997790_6b32fff868020017_e944004f6f313d10_47d227cb6d090831_452bdc2822228057_a3)
      (record { blocks = record { smallest = 4096; largest = 4096 }; frames = record { smallest = 31; largest = 31 }; rate = 32000; channels = 1; bits = 8; samples = 24; md5 = record { high = 0xf8f9e396f5cbcfc6; low = 0xdc807f9977906b32 } }) 42
  -- what follows the last block is not looked at
  pub more_bytes : takes (start 0x80 ++ hex 2 0x7fff) told 42
  -- the mark is judged at its four bytes
  pub empty : cut_short []
  pub mark-cut : cut_short (hex 3 0x664c61)
  pub other-bytes-cut : cut_short (hex 3 0x494433)
  pub no_mark : refuses (hex 4 0x664c6142) 3
  pub mark-alone : cut_short (hex 4 0x664c6143)
  -- the first block's type, before its length
  pub first_type_127 : refuses (hex 5 0x664c6143_7f) 4
  pub first_type_127_last : refuses (hex 5 0x664c6143_ff) 4
  pub first_type_1 : refuses (hex 5 0x664c6143_01) 9
  -- its length, before its contents
  pub length_cut : cut_short (hex 7 0x664c6143_000000)
  pub length_33 : refuses (hex 8 0x664c6143_00000021) 9
  pub length_35 : refuses (hex 8 0x664c6143_00000023) 9
  -- the bits of a sample, before the number of samples: at least 4
  pub bits_3 : refuses (hex 22 0x664c614300000022_1000100000000e00_000e0ac44220) 9
  pub bits_4_cut : cut_short (hex 22 0x664c614300000022_1000100000000e00_000e0ac44230)
  pub info_cut : cut_short (hex 41 0x664c614380000022_1000100000000e00_000e0ac442f00000_0001112233445566_778899aabbccddee_ff)
  -- nothing else is checked: sizes that cross, a rate of 0, 8 channels of 32 bits, all samples that can be counted
  pub crossed_sizes : takes (hex 42 0x664c614380000022_0010000f00000900_000800000fffffff_ffff000000000000_0000000000000000_0000)
      (record { blocks = record { smallest = 16; largest = 15 }; frames = record { smallest = 9; largest = 8 }; rate = 0; channels = 8; bits = 32; samples = 0xfffffffff; md5 = record { high = 0; low = 0 } }) 42
  -- later blocks of any type but 127, which is judged at the type: a second STREAMINFO of 5 bytes, a block of type 126
  pub second_streaminfo : takes (start 0 ++ hex 9 0x800000050102030405) told 51
  pub type_126 : takes (start 0 ++ hex 5 0xfe00000101) told 47
  pub later_type_127 : refuses (start 0 ++ hex 1 0x7f) 4
  pub empty-blocks : takes (start 0 ++ hex 8 0x0100000081000000) told 50
  -- up to the last block's last byte
  pub no_last_block : cut_short (start 0)
  pub no_last_block_2 : cut_short (start 0 ++ hex 4 0x01000000)
  pub contents_cut : cut_short (start 0 ++ hex 8 0x8100000501020304)
  pub longest-block-cut : cut_short (start 0 ++ hex 4 0x86ffffff)

pub headers : Headers
unfolding computed_header
headers = record {
  rfc_1 = refl;
  rfc_2 = refl;
  rfc_3 = refl;
  more_bytes = refl;
  empty = refl;
  mark-cut = refl;
  other-bytes-cut = refl;
  no_mark = refl;
  mark-alone = refl;
  first_type_127 = refl;
  first_type_127_last = refl;
  first_type_1 = refl;
  length_cut = refl;
  length_33 = refl;
  length_35 = refl;
  bits_3 = refl;
  bits_4_cut = refl;
  info_cut = refl;
  crossed_sizes = refl;
  second_streaminfo = refl;
  type_126 = refl;
  later_type_127 = refl;
  empty-blocks = refl;
  no_last_block = refl;
  no_last_block_2 = refl;
  contents_cut = refl;
  longest-block-cut = refl;
}
