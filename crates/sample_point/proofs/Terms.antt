-- What the first term of a polynomial within the limits tells.
use Rattle.std.proofs.Common.{◌≡◌, ◌≤◌, List, [], ◌∷◌, length, get_or, refl, arith, true, false}
use Rattle.std.specs.Prelude.{◌==◌}
use Rattle.poly_model.specs.Polynomial.{Polynomial}
use Rattle.poly_model.specs.Standard.{is_standard, polynomial_of}
use Rattle.poly_model.specs.declared.limits.TheConstants.{MOST_VARIABLES}
use Rattle.poly_model.specs.declared.term.Term.{Term}
use Rattle.poly_model.proofs.Within.{within-of}
use Rattle.poly_model.specs.Reduction.{class_of, monomial_class}
use Rattle.polynomials.proofs.Reading.{class-within, class-of_first}

pub few-classes : (p : Polynomial) → is_standard p ≡ true → class_of p ≤ MOST_VARIABLES
few-classes p e = class-within MOST_VARIABLES p (within-of p e).descending

pub first-class : (xs : List Term) (d : Term) → (length xs == 0) ≡ false → is_standard (polynomial_of xs) ≡ true → monomial_class (get_or xs 0 d).exps ≡ class_of (polynomial_of xs)
first-class [] d some e = cc
first-class (x ∷ xs) d some e = class-of_first MOST_VARIABLES (x ∷ xs) x (λ none. omega (arith, none)) refl (within-of (polynomial_of (x ∷ xs)) e).descending
