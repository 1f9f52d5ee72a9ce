-- A division that goes one step further.
use Rattle.std.proofs.Common.{◌≡◌, ℕ, ◌+◌, ◌-◌, ◌≤◌, suc, refl, List, [], ◌∷◌, ◌++◌, length, length-append, sym, ◌∙◌, ap, subst, arith, IsTrue, true}
use Rattle.std.specs.Prelude.{ℤ, Ok}
use Rattle.poly_model.specs.Polynomial.{Polynomial}
use Rattle.poly_model.specs.Standard.{is_standard}
use Rattle.poly_model.specs.Reduction.{reaches}
use Rattle.poly_model.specs.Bounded.{bounded_reduction}
use Rattle.poly_model.specs.Division.{division_of}
use Rattle.poly_model.specs.declared.limits.TheConstants.{MOST_VARIABLES}
use Rattle.poly_model.proofs.Within.{within-of}
use Rattle.poly_model.proofs.Reductions.{bounded_reduction-is}
use Rattle.pseudo_div.specs.Steps.{cost_of, AreSteps, rest_after}

-- a step behind the others
pub steps-more : (f : Polynomial) (steps : List (ℤ × Polynomial)) (g : Polynomial) (fuel : ℕ) (rest : Polynomial) (left : ℕ) (step : ℤ × Polynomial) → AreSteps f steps g fuel rest left
    → IsTrue (reaches rest f) → bounded_reduction rest f ≡ Ok step → cost_of step.1 ≤ left → AreSteps f (steps ++ step ∷ []) g fuel step.1 (left - cost_of step.1)
steps-more f [] g fuel rest left step a r e le =
    subst (λ p. AreSteps f (step ∷ []) p fuel step.1 (left - cost_of step.1)) (sym a.0)
    (subst (λ k. AreSteps f (step ∷ []) rest k step.1 (left - cost_of step.1)) (sym a.1) (r, e, le, (refl, refl)))
steps-more f (first ∷ steps) g fuel rest left step a r e le = (a.0, a.1, a.2, steps-more f steps first.1 (fuel - cost_of first.1) rest left step a.3 r e le)

-- the rest after one step more
pub rest-more : (g f : Polynomial) (steps : List (ℤ × Polynomial)) (step : ℤ × Polynomial) → is_standard (rest_after g f steps) ≡ true → is_standard f ≡ true
    → bounded_reduction (rest_after g f steps) f ≡ Ok step → rest_after g f (steps ++ step ∷ []) ≡ step.1
rest-more g f steps step r s e =
    ap (λ n. (division_of g f n).rest) (length-append steps (step ∷ []) ∙ (let h : length steps + 1 ≡ suc (length steps) = omega arith in h))
    ∙ sym (ap (λ (q : ℤ × Polynomial). q.1) (bounded_reduction-is MOST_VARIABLES (rest_after g f steps) f step (within-of _ r).descending (within-of f s).descending e))
