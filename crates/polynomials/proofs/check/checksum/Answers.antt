use Rattle.std.proofs.Common.{◌≡◌, List, [], ◌∷◌, length, replicate, refl, ap₂, sym, arith, subst, rules}
use Rattle.std.specs.List.{FoldsTo}
use Rattle.std.proofs.lemmas.List.{ext_get_or}
use Rattle.polynomials.specs.Checks.{Checks}
use Rattle.polynomials.proofs.Streams.{check_remains}
use Rattle.polynomials.proofs.check.checksum.Goals as goal

-- a row whose elements all come from calls that answer v
filled : {E F : Type 0} (R : F → E → F → Type 0) (v : E) (f : F) (xs : List E) (last : F) → FoldsTo R f xs last → ((f : F) (x : E) (f' : F) → R f x f' → x ≡ v) → xs ≡ replicate (length xs) v
filled R v f [] last ran h = refl
filled R v f (x ∷ xs) last ran h = ap₂ (λ a l. a ∷ l) (h f x ran.0 ran.1) (filled R v ran.0 xs last ran.2 h)

pub take_in-requires : goal.take_in-requires
take_in-requires g c =
    let law = g.met.C.Check.generates in (
      ext_get_or g.C.Element.Element.ops.zero c.load.new.row g.C.Check.preset (omega (arith, law.preset_long)) (λ k h. search (rules, c.load.ensures k)),
      search rules,
      ext_get_or g.C.Element.Element.ops.zero c.load-2.new.row g.C.Check.generator (omega (arith, law.long)) (λ k h. search (rules, c.load-2.ensures k)),
    )

pub returns-clause-row : goal.returns-clause-row
returns-clause-row g c =
    let all = filled _ g.C.Element.Element.ops.zero _ c.fill_with.new.self _ c.fill_with.ensures.ran.1 (λ f x f' r. search rules) in
    search (rules, all)

pub returns-clause-divisor : goal.returns-clause-divisor
returns-clause-divisor g c = search (rules, ext_get_or g.C.Element.Element.ops.zero c.load-2.new.row g.C.Check.generator (omega (arith, g.met.C.Check.generates.long)) (λ k h. search (rules, c.load-2.ensures k)))

pub returns-clause-remains : goal.returns-clause-remains
returns-clause-remains g c =
    λ _. subst (Checks g.C.Element.Element.ops g.C.Check.generator g.C.Check.preset c.args.message.now) (sym c.take_in.ensures)
    (check_remains g.met.C.Element.Element.laws g.C.Check.DEGREE g.C.Check.generator g.C.Check.preset c.args.message.now g.met.C.Check.generates c.all_proper.ensures)
