-- Elimination leaves vectors that solve every equation and are not zero: each has a coordinate of its own, which no other one has.
use Rattle.std.proofs.Common.{◌≡◌, ℕ, zero, suc, ◌+◌, ◌<◌, ◌≤◌, true, false, cond, List, [], ◌∷◌, length, get_or, replicate, sym, refl, ap, ◌∙◌, ap₂, arith}
use lib.ListN.{length-replicate}
use Rattle.std.specs.List.{AllByRecursion as Each}
use Rattle.std.proofs.ByRecursion.{All-weaker}
use Rattle.elements.specs.Laws.{Operations}
use Rattle.coding.specs.Field.{Field}
use Rattle.coding.specs.Sums.{Zero, Nonzero}
use Rattle.coding.specs.Kernel.{dot, scale, add_mul, unit}
use Rattle.coding.proofs.FieldLaws.{ring, apart_of_false, compares}

-- a vector that is left, with the coordinate that is its own
pub record Alive (F : Type 0) : Type 0 where
  pub own : ℕ
  pub row : List F

module _ {F : Type 0} (K : Operations F) where
  open K use {zero as 𝟘, one as 𝟙, mul as ◌⊗◌, inv, same}

  infixl 70 ◌⊗◌
  abbrev entry : List F → ℕ → F
  entry v i = get_or v i 𝟘

  abbrev mix : F → Alive F → Alive F → Alive F
  mix c u p = record { own = u.own; row = add_mul K c u.row p.row }

  -- the steps of the elimination, with the own coordinates

  abbrev pub clear : List F → Alive F → List (Alive F) → List (Alive F)
  clear r p [] = []
  clear r p (v ∷ vs) = mix (dot K r v.row ⊗ inv (dot K r p.row)) v p ∷ clear r p vs

  abbrev pub eliminate : List F → List (Alive F) → List (Alive F)
  eliminate r [] = []
  eliminate r (v ∷ vs) = cond (same (dot K r v.row) 𝟘) (v ∷ eliminate r vs) (clear r v vs)

  abbrev pub kernel : List (List F) → List (Alive F) → List (Alive F)
  kernel [] vs = vs
  kernel (r ∷ rs) vs = kernel rs (eliminate r vs)

  abbrev pub units : ℕ → ℕ → ℕ → List (Alive F)
  units n i zero = []
  units n i (suc k) = record { own = i; row = unit K n i } ∷ units n (suc i) k

  -- what each vector keeps
  pub record Good (n : ℕ) (rs : List (List F)) (v : Alive F) : Type 0 where
    pub long : length v.row ≡ n
    pub one : get_or v.row v.own 𝟘 ≡ 𝟙
    pub solves : Each (λ r. dot K r v.row ≡ 𝟘) rs

  -- zero at each other's own coordinate
  abbrev Apart : Alive F → Alive F → Type 0
  Apart u v = (entry u.row v.own ≡ 𝟘) × (entry v.row u.own ≡ 𝟘)

  abbrev AllApart : List (Alive F) → Type 0
  AllApart [] = Unit {0}
  AllApart (v ∷ vs) = Each (Apart v) vs × AllApart vs

  -- lengths

  pub length_add_mul : (c : F) (u v : List F) → length u ≡ length v → length (add_mul K c u v) ≡ length u
  length_add_mul c [] [] h = refl
  length_add_mul c [] (b ∷ v) h = absurd (omega arith)
  length_add_mul c (a ∷ u) [] h = refl
  length_add_mul c (a ∷ u) (b ∷ v) h = ap suc (length_add_mul c u v (omega arith))

  pub length_unit : (n i : ℕ) → length (unit K n i) ≡ n
  length_unit zero i = refl
  length_unit (suc n) zero = ap suc (length-replicate n 𝟘)
  length_unit (suc n) (suc i) = ap suc (length_unit n i)

abbrev Kept : {F : Type 0} → Operations F → (Alive F → Type 0) → Type 0
Kept {F} K P = (c : F) (u p : Alive F) → P u → P p → P (mix K c u p)

-- the first list turned round before the second
abbrev onto : {A : Type 0} → List A → List A → List A
onto [] done = done
onto (r ∷ rs) done = onto rs (r ∷ done)

all_onto : {A : Type 0} (P : A → Type 0) (rs done : List A) → Each P (onto rs done) → Each P rs × Each P done
all_onto P [] done h = (tt, h)
all_onto P (r ∷ rs) done h = let k = all_onto P rs (r ∷ done) h in ((k.1.0, k.0), k.1.1)

module _ {F : Type 0} {K : Operations F} (L : Field K) where
  open K use {zero as 𝟘, one as 𝟙, add as ◌⊕◌, mul as ◌⊗◌, inv, same}

  infixl 65 ◌⊕◌
  infixl 70 ◌⊗◌
  -- vectors

  dot_scale_step : (r c b d : F) → c ⊗ b ⊗ r ⊕ c ⊗ d ≡ c ⊗ (b ⊗ r ⊕ d)
  dot_scale_step r c b d = simp (ring, L)

  dot_scale : (r : List F) (c : F) (v : List F) → dot K r (scale K c v) ≡ c ⊗ dot K r v
  dot_scale [] c v = simp (ring, L)
  dot_scale (r ∷ rs) c [] = simp (ring, L)
  dot_scale (r ∷ rs) c (b ∷ v) = ap (λ z. c ⊗ b ⊗ r ⊕ z) (dot_scale rs c v) ∙ dot_scale_step r c b (dot K rs v)

  dot_add_mul_step : (r a c b d e : F) → (a ⊕ c ⊗ b) ⊗ r ⊕ (d ⊕ c ⊗ e) ≡ (a ⊗ r ⊕ d) ⊕ c ⊗ (b ⊗ r ⊕ e)
  dot_add_mul_step r a c b d e = simp (ring, L)

  plain_zero : (a c : F) → a ≡ a ⊕ c ⊗ 𝟘
  plain_zero a c = simp (ring, L)

  zero_plain : (a : F) → a ≡ 𝟘 ⊕ a
  zero_plain a = simp (ring, L)

  dot_add_mul : (r : List F) (c : F) (u v : List F) → dot K r (add_mul K c u v) ≡ dot K r u ⊕ c ⊗ dot K r v
  dot_add_mul [] c u v = simp (ring, L)
  dot_add_mul (r ∷ rs) c [] v = dot_scale (r ∷ rs) c v ∙ zero_plain (c ⊗ dot K (r ∷ rs) v)
  dot_add_mul (r ∷ rs) c (a ∷ u) [] = plain_zero (dot K (r ∷ rs) (a ∷ u)) c
  dot_add_mul (r ∷ rs) c (a ∷ u) (b ∷ v) = ap (λ z. (a ⊕ c ⊗ b) ⊗ r ⊕ z) (dot_add_mul rs c u v) ∙ dot_add_mul_step r a c b (dot K rs u) (dot K rs v)

  entry_scale : (c : F) (v : List F) (i : ℕ) → entry K (scale K c v) i ≡ c ⊗ entry K v i
  entry_scale c [] i = simp (ring, L)
  entry_scale c (b ∷ v) zero = refl
  entry_scale c (b ∷ v) (suc i) = entry_scale c v i

  entry_add_mul : (c : F) (u v : List F) (i : ℕ) → entry K (add_mul K c u v) i ≡ entry K u i ⊕ c ⊗ entry K v i
  entry_add_mul c [] v i = entry_scale c v i ∙ zero_plain (c ⊗ entry K v i)
  entry_add_mul c (a ∷ u) [] i = plain_zero (entry K (a ∷ u) i) c
  entry_add_mul c (a ∷ u) (b ∷ v) zero = refl
  entry_add_mul c (a ∷ u) (b ∷ v) (suc i) = entry_add_mul c u v i

  -- what is kept by u + c · p, the own coordinate that of u, is kept by the step

  clear_all : (P : Alive F → Type 0) (r : List F) (p : Alive F) → ((c : F) (u : Alive F) → P u → P (mix K c u p)) → (vs : List (Alive F)) → Each P vs → Each P (clear K r p vs)
  clear_all P r p kept [] h = tt
  clear_all P r p kept (v ∷ vs) h = (kept (dot K r v.row ⊗ inv (dot K r p.row)) v h.0, clear_all P r p kept vs h.1)

  eliminate_all : (P : Alive F → Type 0) → Kept K P → (r : List F) (vs : List (Alive F)) → Each P vs → Each P (eliminate K r vs)
  eliminate_all P kept r [] h = tt
  eliminate_all P kept r (v ∷ vs) h =
      let rest = eliminate_all P kept r vs h.1 in
      elim (same (dot K r v.row) 𝟘) as (λ t. Each P (cond t (v ∷ eliminate K r vs) (clear K r v vs))) [
        | true ↦ (h.0, rest)
        | false ↦ clear_all P r v (λ c u k. kept c u v k h.0) vs h.1
      ]

  -- the parts of the invariant

  keep_zero : (c a b : F) → a ≡ 𝟘 → b ≡ 𝟘 → a ⊕ c ⊗ b ≡ 𝟘
  keep_zero c a b p q = ap₂ (λ x y. x ⊕ c ⊗ y) p q ∙ simp (ring, L)

  -- the vector u with as much of p as you like is apart from w as u was, if p is zero at w's own coordinate
  apart_mix : (w : Alive F) (c : F) (u p : Alive F) → Apart K w u → entry K p.row w.own ≡ 𝟘 → Apart K w (mix K c u p)
  apart_mix w c u p a b = (a.0, entry_add_mul c u.row p.row w.own ∙ keep_zero c _ _ a.1 b)

  apart_swap : (u v : Alive F) → Apart K u v → Apart K v u
  apart_swap u v a = (a.1, a.0)

  solved_mix : (rs : List (List F)) (c : F) (u p : Alive F) → Each (λ r. dot K r u.row ≡ 𝟘) rs → Each (λ r. dot K r p.row ≡ 𝟘) rs → Each (λ r. dot K r (add_mul K c u.row p.row) ≡ 𝟘) rs
  solved_mix [] c u p a b = tt
  solved_mix (r ∷ rs) c u p a b = (dot_add_mul r c u.row p.row ∙ keep_zero c _ _ a.0 b.0, solved_mix rs c u p a.1 b.1)

  -- a vector that is good stays so, if p is good and apart from it
  good_mix : (n : ℕ) (rs : List (List F)) (c : F) (u p : Alive F) → Good K n rs u → Good K n rs p → Apart K u p → Good K n rs (mix K c u p)
  good_mix n rs c u p g h a = record {
    long = length_add_mul K c u.row p.row (g.long ∙ sym h.long) ∙ g.long;
    one = entry_add_mul c u.row p.row u.own ∙ ap₂ (λ x y. x ⊕ c ⊗ y) g.one a.1 ∙ simp (ring, L);
    solves = solved_mix rs c u p g.solves h.solves;
  }

  cancel : (d p : F) → Nonzero K p → d ⊕ d ⊗ inv p ⊗ p ≡ 𝟘
  cancel d p h =
      let regroup : d ⊕ d ⊗ inv p ⊗ p ≡ d ⊕ d ⊗ (p ⊗ inv p) = simp (ring, L) in
      regroup ∙ ap (λ z. d ⊕ d ⊗ z) (L.mul_inv p h) ∙ simp (ring, L)

  -- the new equation holds too
  good_clear : (n : ℕ) (r : List F) (rs : List (List F)) (p : Alive F) (vs : List (Alive F)) → Nonzero K (dot K r p.row) → Good K n rs p → Each (Apart K p) vs → Each (Good K n rs) vs → Each (Good K n (r ∷ rs)) (clear K r p vs)
  good_clear n r rs p [] nonzero h apart all = tt
  good_clear n r rs p (v ∷ vs) nonzero h apart all =
      let d = dot K r p.row in
      let c = dot K r v.row ⊗ inv d in
      let g = good_mix n rs c v p all.0 h (apart_swap p v apart.0) in (
        record {
          long = g.long;
          one = g.one;
          solves = (dot_add_mul r c v.row p.row ∙ cancel (dot K r v.row) d nonzero, g.solves);
        },
        good_clear n r rs p vs nonzero h apart.1 all.1,
      )

  each_mix : (c : F) (v p : Alive F) (us : List (Alive F)) → Each (Apart K v) us → Each (Apart K p) us → Each (Apart K (mix K c v p)) us
  each_mix c v p [] a b = tt
  each_mix c v p (u ∷ us) a b =
      (apart_swap u (mix K c v p) (apart_mix u c v p (apart_swap v u a.0) b.0.0), each_mix c v p us a.1 b.1)

  apart_clear : (r : List F) (p : Alive F) (vs : List (Alive F)) → Each (Apart K p) vs → AllApart K vs → AllApart K (clear K r p vs)
  apart_clear r p [] apart h = tt
  apart_clear r p (v ∷ vs) apart h =
      let c = dot K r v.row ⊗ inv (dot K r p.row) in
      let w = mix K c v p in
      (clear_all (Apart K w) r p (λ c' u a. apart_mix w c' u p a apart.0.0) vs (each_mix c v p vs h.0 apart.1), apart_clear r p vs apart.1 h.1)

  -- one step

  solve_more : (n : ℕ) (r : List F) (rs : List (List F)) (v : Alive F) → dot K r v.row ≡ 𝟘 → Good K n rs v → Good K n (r ∷ rs) v
  solve_more n r rs v e g = record { long = g.long; one = g.one; solves = (e, g.solves) }

  good_eliminate : (n : ℕ) (r : List F) (rs : List (List F)) (vs : List (Alive F)) → AllApart K vs → Each (Good K n rs) vs → Each (Good K n (r ∷ rs)) (eliminate K r vs)
  good_eliminate n r rs [] apart good = tt
  good_eliminate n r rs (v ∷ vs) apart good =
      let d = dot K r v.row in
      let rest = good_eliminate n r rs vs apart.1 good.1 in
      (elim (same d 𝟘) as (λ t. same d 𝟘 ≡ t → Each (Good K n (r ∷ rs)) (cond t (v ∷ eliminate K r vs) (clear K r v vs))) [
        | true ↦ λ e. (solve_more n r rs v (L.same_true d 𝟘 e) good.0, rest)
        | false ↦ λ e. good_clear n r rs v vs (apart_of_false (compares L) d 𝟘 e) good.0 apart.0 good.1
      ]) refl

  apart_eliminate : (r : List F) (vs : List (Alive F)) → AllApart K vs → AllApart K (eliminate K r vs)
  apart_eliminate r [] apart = tt
  apart_eliminate r (v ∷ vs) apart =
      let rest = apart_eliminate r vs apart.1 in
      let away = eliminate_all (Apart K v) (λ c u p a b. apart_mix v c u p a b.1) r vs apart.0 in
      elim (same (dot K r v.row) 𝟘) as (λ t. AllApart K (cond t (v ∷ eliminate K r vs) (clear K r v vs))) [
        | true ↦ (away, rest)
        | false ↦ apart_clear r v vs apart.0 apart.1
      ]

  length_clear : (r : List F) (p : Alive F) (vs : List (Alive F)) → length (clear K r p vs) ≡ length vs
  length_clear r p [] = refl
  length_clear r p (v ∷ vs) = ap suc (length_clear r p vs)

  -- a step takes one vector at most
  length_eliminate : (r : List F) (vs : List (Alive F)) → length vs ≤ suc (length (eliminate K r vs))
  length_eliminate r [] = omega arith
  length_eliminate r (v ∷ vs) =
      let rest = length_eliminate r vs in
      elim (same (dot K r v.row) 𝟘) as (λ t. suc (length vs) ≤ suc (length (cond t (v ∷ eliminate K r vs) (clear K r v vs)))) [
        | true ↦ omega arith
        | false ↦ omega (arith, length_clear r v vs)
      ]

  -- all steps: `done` are the equations behind us, the last one first

  good_kernel : (n : ℕ) (rs done : List (List F)) (vs : List (Alive F)) → AllApart K vs → Each (Good K n done) vs → Each (Good K n (onto rs done)) (kernel K rs vs)
  good_kernel n [] done vs apart good = good
  good_kernel n (r ∷ rs) done vs apart good =
      good_kernel n rs (r ∷ done) (eliminate K r vs) (apart_eliminate r vs apart) (good_eliminate n r done vs apart good)

  length_kernel : (rs : List (List F)) (vs : List (Alive F)) → length vs ≤ length rs + length (kernel K rs vs)
  length_kernel [] vs = omega arith
  length_kernel (r ∷ rs) vs = omega (arith, length_kernel rs (eliminate K r vs), length_eliminate r vs)

  -- the start

  unit_own : (n i : ℕ) → i < n → entry K (unit K n i) i ≡ 𝟙
  unit_own zero i below = absurd (omega arith)
  unit_own (suc n) zero below = refl
  unit_own (suc n) (suc i) below = unit_own n i (omega arith)

  entry_zeros : (n i : ℕ) → entry K (replicate n 𝟘) i ≡ 𝟘
  entry_zeros zero i = refl
  entry_zeros (suc n) zero = refl
  entry_zeros (suc n) (suc i) = entry_zeros n i

  unit_other : (n i j : ℕ) → ¬ (i ≡ j) → entry K (unit K n i) j ≡ 𝟘
  unit_other zero i j h = refl
  unit_other (suc n) zero zero h = absurd (h refl)
  unit_other (suc n) zero (suc j) h = entry_zeros n j
  unit_other (suc n) (suc i) zero h = refl
  unit_other (suc n) (suc i) (suc j) h = unit_other n i j (λ e. h (ap suc e))

  away_units : (n i j k : ℕ) → i < j → Each (Apart K (record { own = i; row = unit K n i })) (units K n j k)
  away_units n i j zero h = tt
  away_units n i j (suc k) h = ((unit_other n i j (omega arith), unit_other n j i (omega arith)), away_units n i (suc j) k (omega arith))

  apart_units : (n i k : ℕ) → AllApart K (units K n i k)
  apart_units n i zero = tt
  apart_units n i (suc k) = (away_units n i (suc i) k (omega arith), apart_units n (suc i) k)

  good_units : (n i k : ℕ) → i + k ≤ n → Each (Good K n []) (units K n i k)
  good_units n i zero h = tt
  good_units n i (suc k) h =
      (record { long = length_unit K n i; one = unit_own n i (omega arith); solves = tt }, good_units n (suc i) k (omega arith))

  length_units : (n i k : ℕ) → length (units K n i k) ≡ k
  length_units n i zero = refl
  length_units n i (suc k) = ap suc (length_units n (suc i) k)

  -- what comes out

  pub kernel_good : (n : ℕ) (rs : List (List F)) → Each (Good K n rs) (kernel K rs (units K n 0 n))
  kernel_good n rs =
      All-weaker (Good K n (onto rs [])) (Good K n rs)
      (λ v g. record { long = g.long; one = g.one; solves = (all_onto (λ r. dot K r v.row ≡ 𝟘) rs [] g.solves).0 })
      (kernel K rs (units K n 0 n))
      (good_kernel n rs [] (units K n 0 n) (apart_units n 0 n) (good_units n 0 n (omega arith)))

  pub kernel_some : (n : ℕ) (rs : List (List F)) → length rs < n → 0 < length (kernel K rs (units K n 0 n))
  kernel_some n rs fewer = omega (arith, length_kernel rs (units K n 0 n), length_units n 0 n)

  zeros_entry : (v : List F) (i : ℕ) → Each (Zero K) v → entry K v i ≡ 𝟘
  zeros_entry [] i h = refl
  zeros_entry (a ∷ v) zero h = h.0
  zeros_entry (a ∷ v) (suc i) h = zeros_entry v i h.1

  pub good_nonzero : (n : ℕ) (rs : List (List F)) (v : Alive F) → Good K n rs v → ¬ (Each (Zero K) v.row)
  good_nonzero n rs v g zeros = L.one_not_zero (sym g.one ∙ zeros_entry v.row v.own zeros)
