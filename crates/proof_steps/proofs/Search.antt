-- The first number that passes a test, and the greatest number of a list.
use Rattle.std.proofs.Common.{◌≡◌, ℕ, ◌+◌, ◌<◌, ◌≤◌, max, zero, suc, List, [], ◌∷◌, length, get_or, refl, sym, ◌∙◌, ap, arith, Bool, true, false, inl, inr, ◌⊎◌}
use Rattle.std.specs.Prelude.{Option, Some, None}
use Rattle.std.specs.List.{list_all}
use Rattle.std.proofs.lemmas.Bool.{both_ways, and_parts}
use Rattle.poly_model.specs.Polynomial.{Polynomial}
use Rattle.proof_steps.specs.Numbers.{first_from, greatest}

-- What a search found.
pub record Found (test : ℕ → Bool) (n i : ℕ) (r : Option ℕ) : Type 0 where
  pub at : ℕ
  pub found : r ≡ Some at
  pub passes : test at ≡ true
  pub low : i ≤ at
  pub high : at < i + n

-- a search finds what there is
pub first_from-found : (test : ℕ → Bool) (n i j : ℕ) → i ≤ j → j < i + n → test j ≡ true → Found test n i (first_from test n i)
first_from-found test zero i j low high t = absurd (omega arith)
first_from-found test (suc n) i j low high t =
    elim (test i) as (λ b. test i ≡ b → Found test (suc n) i (elim b [ true ↦ Some i | false ↦ first_from test n (suc i) ])) [
      | true ↦ λ e. record { at = i; found = refl; passes = e; low = omega arith; high = omega arith }
      | false ↦ λ e.
          let apart : suc i ≤ j = beyond i j low (λ q. both_ways (test i) e (ap test q ∙ t)) in
          let f = first_from-found test n (suc i) j apart (omega arith) t in
          record { at = f.at; found = f.found; passes = f.passes; low = (let a = f.low in omega (arith, a)); high = (let a = f.high in omega (arith, a)) }
    ] refl
  where
    beyond : (i j : ℕ) → i ≤ j → (i ≡ j → ⊥) → suc i ≤ j
    beyond i j low n = grind arith

-- and finds only that
pub first_from-passes : (test : ℕ → Bool) (n i k : ℕ) → first_from test n i ≡ Some k → Found test n i (Some k)
first_from-passes test zero i k e = cc
first_from-passes test (suc n) i k e =
    elim (test i) as (λ b. test i ≡ b → (elim b as (λ _. Option ℕ) [ true ↦ Some i | false ↦ first_from test n (suc i) ]) ≡ Some k → Found test (suc n) i (Some k)) [
      | true ↦ λ t q. record { at = i; found = sym q; passes = t; low = omega arith; high = omega arith }
      | false ↦ λ t q.
          let f = first_from-passes test n (suc i) k q in
          record { at = f.at; found = f.found; passes = f.passes; low = (let a = f.low in omega (arith, a)); high = (let a = f.high in omega (arith, a)) }
    ] refl e

-- where it finds nothing, nothing passes
pub first_from-none : (test : ℕ → Bool) (n i j : ℕ) → first_from test n i ≡ None → i ≤ j → j < i + n → test j ≡ false
first_from-none test n i j e low high =
    elim (test j) as (λ b. test j ≡ b → b ≡ false) [
      | true ↦ λ t. let f = first_from-found test n i j low high t in absurd (differ f.at (sym e ∙ f.found))
      | false ↦ λ t. refl
    ] refl
  where
    differ : (k : ℕ) → None ≡ Some k → ⊥
    differ k q = cc

-- the greatest number is that of some item
pub record Attained (f : Polynomial → ℕ) (ps : List Polynomial) (m : ℕ) : Type 0 where
  pub at : ℕ
  pub within : at < length ps
  pub gives : f (get_or ps at []) ≡ m

pub greatest-attained : (f : Polynomial → ℕ) (ps : List Polynomial) (m : ℕ) → greatest f ps ≡ suc m → Attained f ps (suc m)
greatest-attained f [] m e = absurd (omega (arith, e))
greatest-attained f (p ∷ ps) m e = cases (largest (f p) (greatest f ps) (suc m) e) (greatest-attained f ps m)
  where
    largest : (a b m : ℕ) → max a b ≡ m → (a ≡ m) ⊎ (b ≡ m)
    largest a b m h = grind arith

    cases : (f p ≡ suc m) ⊎ (greatest f ps ≡ suc m) → (greatest f ps ≡ suc m → Attained f ps (suc m)) → Attained f (p ∷ ps) (suc m)
    cases (inl q) more = record { at = 0; within = omega arith; gives = q }
    cases (inr q) more = let a = more q in record { at = suc a.at; within = (let w = a.within in omega (arith, w)); gives = a.gives }

pub greatest-above : (f : Polynomial → ℕ) (ps : List Polynomial) (i : ℕ) → i < length ps → f (get_or ps i []) ≤ greatest f ps
greatest-above f [] i h = absurd (omega arith)
greatest-above f (p ∷ ps) zero h = omega arith
greatest-above f (p ∷ ps) (suc i) h = let a = greatest-above f ps i (omega arith) in omega (arith, a)

-- each item of a list passes a test that all pass
pub all-at : (test : Polynomial → Bool) (ps : List Polynomial) (i : ℕ) → i < length ps → list_all test ps ≡ true → test (get_or ps i []) ≡ true
all-at test [] i h e = absurd (omega arith)
all-at test (p ∷ ps) zero h e = (and_parts (test p) _ e).0
all-at test (p ∷ ps) (suc i) h e = all-at test ps i (omega arith) (and_parts (test p) _ e).1
