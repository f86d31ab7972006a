use Rattle.std.proofs.Common.{◌≡◌, ℕ, ◌+◌, ◌<◌, List, [], ◌∷◌, length, get_or, drop, Some, None, sym, refl, ap, ◌∙◌}
use Rattle.std.proofs.lemmas.List.{at_drop_more, at_drop_all}
use Rattle.std.proofs.lemmas.Bool.{eqb-false}
use Rattle.captures.specs.Windows.{with_digit, counted, channel_count}
use Rattle.captures.proofs.line.channel_count.Goals as goal

stays_none : (ds : List ℕ) → counted None ds ≡ None
stays_none [] = refl
stays_none (d ∷ ds) = stays_none ds

at : (n : ℕ) (xs : List ℕ) (i : ℕ) → i < length xs → counted (Some n) (drop i xs) ≡ counted (with_digit n (get_or xs i 0)) (drop (i + 1) xs)
at n xs i h = at_drop_more (counted (Some n)) xs i 0 h

goes_on : (n m : ℕ) (xs : List ℕ) (i : ℕ) → i < length xs → Some m ≡ with_digit n (get_or xs i 0) → counted (Some m) (drop (i + 1) xs) ≡ counted (Some n) (drop i xs)
goes_on n m xs i h e = ap (λ o. counted o (drop (i + 1) xs)) e ∙ sym (at n xs i h)

stops : (n : ℕ) (xs : List ℕ) (i : ℕ) → i < length xs → None ≡ with_digit n (get_or xs i 0) → None ≡ counted (Some n) (drop i xs)
stops n xs i h e = sym (stays_none (drop (i + 1) xs)) ∙ (ap (λ o. counted o (drop (i + 1) xs)) e ∙ sym (at n xs i h))

whole : (xs : List ℕ) → (length xs ≡ 0 → ⊥) → counted (Some 0) xs ≡ channel_count xs
whole [] h = absurd (h refl)
whole (d ∷ ds) h = refl

pub returns-in_err-count : goal.returns-in_err-count
returns-in_err-count c =
    let xs = c.args.field.now in
    let i = c.loop-d.d-index in
    let none = stops c.loop-d.count xs i c.loop-d-test.true c.in_err-count.ensures in
    c.from_residual.ensures ∙ (none ∙ (c.loop-d.invariant ∙ whole xs (eqb-false (length xs) 0 (sym c.if-is_empty.ensures))))

pub loop-d-preserved : goal.loop-d-preserved
loop-d-preserved c =
    let xs = c.args.field.now in
    let i = c.loop-d.d-index in
    goes_on c.loop-d.count c.in_ok-count.count xs i c.loop-d-test.true c.in_ok-count.ensures ∙ c.loop-d.invariant

pub returns : goal.returns
returns c =
    let xs = c.args.field.now in
    let i = c.loop-d.d-index in
    let n = c.loop-d.count in
    sym (at_drop_all (counted (Some n)) xs i c.loop-d-test.false) ∙ (c.loop-d.invariant ∙ whole xs (eqb-false (length xs) 0 (sym c.if-is_empty.ensures)))
