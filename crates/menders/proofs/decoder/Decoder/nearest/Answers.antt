use Rattle.std.proofs.Common.{◌≡◌, true, drop, replicate, ◌∙◌, arith, rules}
use Rattle.std.proofs.Math.Seq.{take-append_seam}
use Rattle.std.proofs.lemmas.List.{drop-replicate}
use Rattle.std.proofs.lemmas.Slice.{drop-append-drop}
use Rattle.std.proofs.ByRecursion.{All-from_get_or}
use Rattle.std.proofs.lemmas.Bool.{both_ways}
use Rattle.elements.specs.Octets.{Octet}
use Rattle.words.specs.Changes.{fault_of, blank}
use Rattle.mending.specs.Menders.{sound}
use Rattle.menders.proofs.Nearness.{ok_sound, proposed_found, proposed_accepted, proposed_near}
use Rattle.menders.proofs.decoder.Decoder.nearest.Goals as goal
use Rattle.menders.proofs.decoder.Decoder.nearest.Goals.{then-len-via-then-len, then-len-via-else-len+then-is_err}

pub returns-then-len-clause-nearest : goal.returns-then-len-clause-nearest
returns-then-len-clause-nearest g c = λ d code long some near.
    let t = g.row.REACH in
    let w = c.args.word.now in
    let cs = c.candidates-changes.result.items in
    let P = c.candidates-changes.ensures in
    let H = All-from_get_or Octet w 0 (λ i _. (c.type_inv.word i).fits) in
    let accepted = proposed_accepted t w cs P H c.args.self.now.within d code long some near in
    elim c.then-len.branch [
      | then-len-via-then-len v ↦ omega (arith, c.len.ensures.value, proposed_near t w cs P H c.args.self.now.within d code long some near)
      | then-len-via-else-len+then-is_err v ↦ search (rules, ok_sound, both_ways)
    ]

pub returns-clause-nearest : goal.returns-clause-nearest
returns-clause-nearest g c =
    let t = g.row.REACH in
    let w = c.args.word.now in
    let cs = c.candidates-changes.result.items in
    let H = All-from_get_or Octet w 0 (λ i _. (c.type_inv.word i).fits) in
    let good : sound (fault_of c.args.word.now c.candidates-changes.result.items) ≡ true = search (rules, ok_sound) in
    let found = proposed_found t w cs c.candidates-changes.ensures H (search rules) good in
    let front = take-append_seam cs (drop c.len-2.result (replicate 16 blank)) in
    search rules

pub returns-clause-written : goal.returns-clause-written
returns-clause-written g c =
    let n = c.len-3.result in
    (search rules, drop-append-drop c.len-2.result (replicate 16 blank) c.copy_from_slice.new.self n (search rules) (search rules) ∙ drop-replicate n 16 blank)
