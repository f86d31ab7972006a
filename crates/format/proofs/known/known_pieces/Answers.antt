use Rattle.std.proofs.Common.{refl}
use Rattle.elements.specs.Octets.{product, times, double, power, inverse, squares}
use Rattle.coding.specs.Codewords.{parity, generator, roots_up_to}
use Rattle.format.specs.Sequences.{next, advanced, after, drawn, key, mixed, scrambler, spreader}
use Rattle.format.specs.Bits.{bits, line, octets_of}
use Rattle.format.specs.Codes.{high_first, code_a, code_b}
use Rattle.format.specs.Header.{hcs}
use Rattle.format.proofs.known.known_pieces.Goals as goal

pub returns : goal.returns
unfolding product times double power inverse squares parity generator roots_up_to next advanced after drawn key mixed scrambler spreader bits line octets_of high_first code_a code_b hcs
returns c = record {
  count = refl;
  pieces = record {
    seed_0 = refl;
    seed_1 = refl;
    spreading = refl;
    mac_scrambled = refl;
    hcs_sent = refl;
    parity_first = refl;
    parity_last = refl;
    top_times_alpha = refl;
    empty_frame = refl;
    blocks_224 = refl;
    blocks_225 = refl;
    stuff_225 = refl;
    octets_2048 = refl;
    blocks_2048 = refl;
    chips_2048 = refl;
    codes_apart = refl;
  };
}
