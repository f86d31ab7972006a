use Rattle.std.proofs.Common.{◌≡◌, ◌≤◌, Some, IfSome, sym, subst, ◌∙◌, rules, arith}
use Rattle.std.proofs.lemmas.Iterator.{YieldsList-from_slice}
use Rattle.std.proofs.lemmas.Iterator.Consumers.{fold_from_yields_List}
use Rattle.spelling.specs.Lists.{and_then}
use Rattle.spelling.specs.Numbers.{longer, digits_from}
use Rattle.spelling.proofs.Numbers.{folded, bounded}
use Rattle.spelling.proofs.number.read_digits.Goals as goal

pub returns : goal.returns
returns c =
    let most = c.args.most in
    let t = c.args.text.now in
    let value : c.fold.result ≡ digits_from most 0 t =
    fold_from_yields_List _ (λ p d. and_then p (λ n. longer most n d)) (Some 0) c.fold.result c.fold.ensures.ran (YieldsList-from_slice t cc) (λ a x b q k. search rules)
    ∙ folded most (Some 0) t in
    record { value = value; bound = subst (λ o. IfSome o (λ n. n ≤ most)) (sym value) (bounded most (Some 0) t (omega arith)) }
