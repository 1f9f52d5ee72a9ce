-- The lines of the lists of a leaf.
use Rattle.std.proofs.Common.{◌≡◌, ℕ, zero, suc, List, [], ◌∷◌, length, drop, refl, ◌∙◌, arith, true, false}
use Rattle.std.specs.Prelude.{nat_le}
use Rattle.std.proofs.lemmas.Bool.Decides.{nat_tests}
use Rattle.poly_model.specs.Polynomial.{Polynomial}
use Rattle.log_checker.specs.Lists.{are_told}

pub at-end : (ps : List Polynomial) (k : ℕ) → nat_le (length ps) k ≡ are_told (drop k ps)
at-end [] zero = refl
at-end [] (suc k) = let e : nat_le 0 (suc k) ≡ true = grind (arith, nat_tests) in e
at-end (p ∷ ps) zero = let e : nat_le (suc (length ps)) 0 ≡ false = grind (arith, nat_tests) in e
at-end (p ∷ ps) (suc k) = let e : nat_le (suc (length ps)) (suc k) ≡ nat_le (length ps) k = grind (arith, nat_tests) in e ∙ at-end ps k
