-- What is known of a frame that is let in.
use Rattle.std.proofs.Common.{◌≡◌, ℕ, ◌≤◌, Bool, true, false, cond, eqb, leb, Some, None, Ok, Err, Option, Result, sym, refl, ap, ◌∙◌, arith}
use Rattle.std.proofs.lemmas.Bool.{eqb-true, leb-true, le-leb, cond-true}
use Rattle.format.specs.declared.mode.Mode.{Mode}
use Rattle.format.specs.Frame.{frame_length}
use Rattle.format.specs.declared.fault.DoorFault.{DoorFault}
use Rattle.format.specs.declared.fault.DoorFault.TheVariants.{Mac, Body}
use Rattle.frames.specs.Writing.{sized, roomed}

-- two tests that both have to pass
both_passed : {A B : Type 0} (s t : Bool) (x y : A) (f g : B) → ◌≡◌ {A = Result A B} (Ok x) (cond s (cond t (Ok y) (Err f)) (Err g)) → (s ≡ true) × (t ≡ true)
both_passed true true x y f g e = (refl, refl)
both_passed true false x y f g e = let z : ◌≡◌ {A = ℕ} 0 1 = cc in absurd (omega arith)
both_passed false t x y f g e = let z : ◌≡◌ {A = ℕ} 0 1 = cc in absurd (omega arith)

pub sized_fits : (o : Option Mode) (m : Mode) (mac body : ℕ) → Ok m ≡ sized o mac body → (mac ≡ 10) × (body ≤ 2048)
sized_fits None m mac body e = let z : ◌≡◌ {A = ℕ} 0 1 = cc in absurd (omega arith)
sized_fits (Some k) m mac body e =
    let passed = both_passed (eqb mac 10) (leb body 2048) m k Body Mac e in
    (eqb-true mac 10 passed.0, leb-true body 2048 passed.1)

-- there is room, for a mode that was let in
pub roomed_yes : (a : Result Mode DoorFault) (m : Mode) (body chips : ℕ) → Ok m ≡ a → frame_length m body ≤ chips → Ok m ≡ roomed a body chips
roomed_yes a m body chips e h = sym (cond-true _ _ _ (le-leb (frame_length m body) chips h)) ∙ ap (λ r. roomed r body chips) e
