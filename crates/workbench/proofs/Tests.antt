-- Tests of polynomials within the limits.
use Rattle.std.proofs.Common.{◌≡◌, ℕ, ◌<◌, ◌≤◌, List, length, refl, ap, arith, true, false, ◌&&◌, not, IsTrue}
use Rattle.std.specs.Prelude.{◌==◌, pos, nat_lt}
use Rattle.std.specs.Ordering.{int_eq}
use Rattle.std.proofs.lemmas.Bool.{and_from}
use Rattle.std.proofs.lemmas.Bool.Decides.{nat_tests}
use Rattle.std.proofs.lemmas.List.{length-map}
use Rattle.poly_model.specs.Polynomial.{Polynomial}
use Rattle.poly_model.specs.Standard.{is_standard, entry_of, polynomial_of}
use Rattle.poly_model.specs.declared.limits.TheConstants.{MOST_VARIABLES}
use Rattle.poly_model.specs.declared.term.Term.{Term}
use Rattle.poly_model.proofs.Within.{within-of}
use Rattle.poly_model.specs.Reduction.{class_of, number_of, is_nonzero_constant}
use Rattle.poly_model.proofs.Front.{zero-empty}

pub polynomial-length : (xs : List Term) → length (polynomial_of xs) ≡ length xs
polynomial-length xs = length-map xs entry_of

-- a polynomial with terms is a number other than 0 where it has no class
pub number-is : (p : Polynomial) → IsTrue (is_standard p) → 0 < length p → (class_of p == 0) ≡ is_nonzero_constant p
number-is p st long =
    elim (class_of p == 0) as (λ b. (class_of p == 0) ≡ b → b ≡ (b && not (int_eq (number_of p) (pos 0)))) [
      | false ↦ λ e. refl
      | true ↦ λ e.
          elim (int_eq (number_of p) (pos 0)) as (λ z. int_eq (number_of p) (pos 0) ≡ z → true ≡ not z) [
            | false ↦ λ z. refl
            | true ↦ λ z. absurd (let n : length p ≡ 0 = ap length (zero-empty MOST_VARIABLES p (within-of p st).descending (and_from (class_of p == 0) _ e z)) in omega (arith, n, long))
          ] refl
    ] refl

pub not-below : (a b : ℕ) → b ≤ a → nat_lt a b ≡ false
not-below a b h = grind (arith, nat_tests)

pub below-is : (a b : ℕ) → a < b → nat_lt a b ≡ true
below-is a b h = grind (arith, nat_tests)
