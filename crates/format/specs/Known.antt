-- Known pieces of the format, from outside.
use Rattle.std.specs.Prelude.{◌≡◌, [], ◌∷◌, slice_index_or}
use Rattle.elements.specs.Octets.{octets, product}
use Rattle.polynomials.specs.Differences.{differing}
use Rattle.coding.specs.Codewords.{parity}
use Rattle.format.specs.declared.mode.Mode.TheVariants.{M1, M6}
use Rattle.format.specs.Sequences.{drawn, mixed, scrambler, spreader}
use Rattle.format.specs.Codes.{code_a, code_b}
use Rattle.format.specs.Header.{hcs}
use Rattle.format.specs.Payload.{coded_octets, block_count, stuff_count}
use Rattle.format.specs.Frame.{frame_length}

pub record KnownPieces : Type 0 where
  pub seed_0 : drawn 16 (scrambler 0) ≡ 0 ∷ 0 ∷ 0 ∷ 1 ∷ 1 ∷ 1 ∷ 1 ∷ 0 ∷ 0 ∷ 0 ∷ 1 ∷ 1 ∷ 1 ∷ 0 ∷ 1 ∷ 0 ∷ []
  pub seed_1 : drawn 16 (scrambler 1) ≡ 1 ∷ 0 ∷ 0 ∷ 1 ∷ 1 ∷ 1 ∷ 1 ∷ 0 ∷ 0 ∷ 0 ∷ 1 ∷ 1 ∷ 1 ∷ 0 ∷ 0 ∷ 1 ∷ []
  pub spreading : drawn 16 spreader ≡ 0 ∷ 0 ∷ 0 ∷ 0 ∷ 1 ∷ 0 ∷ 0 ∷ 0 ∷ 0 ∷ 0 ∷ 1 ∷ 1 ∷ 1 ∷ 1 ∷ 0 ∷ 0 ∷ []
  pub mac_scrambled : mixed (scrambler 0) (0x00 ∷ 0x00 ∷ []) ≡ 0x78 ∷ 0x5C ∷ []
  pub hcs_sent : hcs (0x31 ∷ 0x32 ∷ 0x33 ∷ 0x34 ∷ 0x35 ∷ 0x36 ∷ 0x37 ∷ 0x38 ∷ 0x39 ∷ []) ≡ 0x6E ∷ 0x90 ∷ []
  pub parity_first : slice_index_or (parity (0x01 ∷ [])) 0 0 ≡ 0x76
  pub parity_last : slice_index_or (parity (0x01 ∷ [])) 15 0 ≡ 0x4F
  pub top_times_alpha : product 0x80 0x02 ≡ 0x1D
  pub empty_frame : frame_length M1 0 ≡ 6656
  pub blocks_224 : block_count 224 ≡ 4
  pub blocks_225 : block_count 225 ≡ 5
  pub stuff_225 : stuff_count 225 ≡ 484
  pub octets_2048 : coded_octets 2048 ≡ 2208
  pub blocks_2048 : block_count 2048 ≡ 35
  pub chips_2048 : frame_length M6 2048 ≡ 50176
  pub codes_apart : differing octets code_a code_b ≡ 64
