-- Nodes and their lists of equations.
use Rattle.std.proofs.Common.{◌≡◌, ℕ, zero, suc, List, [], ◌∷◌, ◌++◌, take, drop, refl, ap}
use Rattle.poly_model.specs.Polynomial.{Polynomial}
use Rattle.proof_steps.specs.Numbers.{without_place}

pub removed-is : (k : ℕ) (ps : List Polynomial) → take k ps ++ drop (suc k) ps ≡ without_place ps k
removed-is zero [] = refl
removed-is zero (p ∷ ps) = refl
removed-is (suc k) [] = refl
removed-is (suc k) (p ∷ ps) = ap (λ l. p ∷ l) (removed-is k ps)
