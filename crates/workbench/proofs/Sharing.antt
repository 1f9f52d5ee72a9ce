-- The fuel of the children of a split.
use Rattle.std.proofs.Common.{◌≡◌, ℕ, ◌+◌, ◌-◌, ◌≤◌, ◌<◌, max, List, [], ◌∷◌, ◌++◌, length, get_or, set, sym, ◌∙◌, ap, arith, true, false}
use Rattle.std.specs.Prelude.{◌||◌, ◌/◌}
use Rattle.std.specs.List.{list_any}
use Rattle.poly_model.specs.Polynomial.{Polynomial}
use Rattle.proof_steps.specs.Rules.{sizes, size_of, is_short, child, plus_child, minus_child, minus_fuel}
use Rattle.proof_steps.specs.declared.piece.Node.{Node}
use Rattle.workbench.specs.Splitting.{pair, second_fuel}
use Rattle.workbench.proofs.Benches.{sizes-set}
use Rattle.workbench.proofs.Tests.{below-is, not-below}

sizes-more : (ps : List Polynomial) (q : Polynomial) → sizes (ps ++ q ∷ []) ≡ sizes ps + (1 + length q)
sizes-more [] q = omega arith
sizes-more (p ∷ ps) q = let e = sizes-more ps q in omega (arith, e)

-- the numbers that the code has
pub record Counted (n : Node) (i : ℕ) (j r : Polynomial) (size t gain m : ℕ) : Type 0 where
  pub whole : size ≡ size_of n
  pub within : i < length n.eqs
  pub terms : t ≡ length (get_or n.eqs i [])
  pub gained : gain ≡ length j
  pub second : m + t ≡ size + length r + (1 + gain)

minus-size : (n : Node) (i : ℕ) (j r : Polynomial) (size t gain m fuel : ℕ) → Counted n i j r size t gain m → size_of (child n false (set n.eqs i r ++ j ∷ []) n.nes fuel) ≡ m
minus-size n i j r size t gain m fuel c =
    let a = sizes-more (set n.eqs i r) j in
    let b = sizes-set n.eqs i r c.within in
    omega (arith, a, b, c.whole, c.terms, c.gained, c.second)

plus-size : (n : Node) (i : ℕ) (j r : Polynomial) (size t gain m fuel : ℕ) → Counted n i j r size t gain m → size_of (child n true n.eqs (n.nes ++ j ∷ []) fuel) ≡ size + (1 + gain)
plus-size n i j r size t gain m fuel c = let a = sizes-more n.nes j in omega (arith, a, c.whole, c.gained)

fuel-is : (n : Node) (i : ℕ) (j r : Polynomial) (size t gain m : ℕ) → Counted n i j r size t gain m → minus_fuel n j (set n.eqs i r ++ j ∷ []) ≡ second_fuel n.fuel gain m
fuel-is n i j r size t gain m c = λ k. max ((n.fuel - (1 + sym c.gained k)) / 8) (minus-size n i j r size t gain m 0 c k)

rest-is : (n : Node) (i : ℕ) (j r : Polynomial) (size t gain m : ℕ) → Counted n i j r size t gain m
    → n.fuel - (1 + length j) - minus_fuel n j (set n.eqs i r ++ j ∷ []) ≡ n.fuel - (1 + gain) - second_fuel n.fuel gain m
rest-is n i j r size t gain m c = λ k. n.fuel - (1 + sym c.gained k) - fuel-is n i j r size t gain m c k

pub share-none : (n : Node) (i : ℕ) (j r : Polynomial) (size t gain m : ℕ) → Counted n i j r size t gain m → n.fuel - (1 + gain) - second_fuel n.fuel gain m < size + (1 + gain) → list_any is_short (pair n i j r) ≡ true
share-none n i j r size t gain m c short =
    let p = rest-is n i j r size t gain m c in
    let z = plus-size n i j r size t gain m (n.fuel - (1 + length j) - minus_fuel n j (set n.eqs i r ++ j ∷ [])) c in
    ap (λ b. b || (is_short (minus_child n j (set n.eqs i r ++ j ∷ [])) || false))
    (below-is (n.fuel - (1 + length j) - minus_fuel n j (set n.eqs i r ++ j ∷ [])) (size_of (plus_child n j n.eqs (set n.eqs i r ++ j ∷ []))) (omega (arith, p, z, short)))

pub share-some : (n : Node) (i : ℕ) (j r : Polynomial) (size t gain m p q : ℕ) → Counted n i j r size t gain m → q ≡ second_fuel n.fuel gain m → p ≡ n.fuel - (1 + gain) - second_fuel n.fuel gain m → size + (1 + gain) ≤ p
    → (pair n i j r ≡ child n true n.eqs (n.nes ++ j ∷ []) p ∷ child n false (set n.eqs i r ++ j ∷ []) n.nes q ∷ []) × (list_any is_short (pair n i j r) ≡ false)
share-some n i j r size t gain m p q c qi pi enough =
    let first = rest-is n i j r size t gain m c ∙ sym pi in
    let second = fuel-is n i j r size t gain m c ∙ sym qi in
    let z = plus-size n i j r size t gain m (n.fuel - (1 + length j) - minus_fuel n j (set n.eqs i r ++ j ∷ [])) c in
    let y = minus-size n i j r size t gain m (minus_fuel n j (set n.eqs i r ++ j ∷ [])) c in
    let floor : m ≤ second_fuel n.fuel gain m = at_least ((n.fuel - (1 + gain)) / 8) m in (
      (λ k. child n true n.eqs (n.nes ++ j ∷ []) (first k) ∷ child n false (set n.eqs i r ++ j ∷ []) n.nes (second k) ∷ []),
      (λ k. not-below (n.fuel - (1 + length j) - minus_fuel n j (set n.eqs i r ++ j ∷ [])) (size_of (plus_child n j n.eqs (set n.eqs i r ++ j ∷ []))) (omega (arith, first, z, enough)) k
          || (not-below (minus_fuel n j (set n.eqs i r ++ j ∷ [])) (size_of (minus_child n j (set n.eqs i r ++ j ∷ []))) (omega (arith, second, qi, y, floor)) k || false)),
    )
  where
    at_least : (a b : ℕ) → b ≤ max a b
    at_least a b = omega arith
