use Rattle.std.proofs.Common.{◌≡◌, ℕ, ◌*◌, ◌/◌, List, length, get_or, IfOk, vec_items, sym, subst, ap, ◌∙◌, rules, arith}
use Rattle.std.specs.Option.{option_map}
use Rattle.spelling.specs.Lists.{each}
use Rattle.spelling.specs.Octets.{hex_octet}
use Rattle.spelling.proofs.Readings.{each_pair, hex_odd}
use Rattle.spelling.proofs.octets.read_pairs.Goals as goal

pub returns-then-not-is_empty : goal.returns-then-not-is_empty
returns-then-not-is_empty c = sym (hex_odd (length c.args.text.now / 2) c.args.text.now (grind (arith, c.as_chunks.ensures.back_len, c.is_empty.ensures)))

pub returns : goal.returns
returns c =
    let pair : List ℕ → _ = λ p. hex_octet (get_or p 0 0) (get_or p 1 0) in
    let t = c.args.text.now in
    let even : length t ≡ 2 * (length t / 2) = grind (arith, c.as_chunks.ensures.back_len, c.is_empty.ensures) in
    subst (λ os. IfOk c.read_each.result (λ o. option_map vec_items o ≡ os)) (ap (each pair) c.as_chunks.ensures.front ∙ each_pair (length t / 2) t even)
    (c.read_each.ensures pair (λ part said h. search rules))
