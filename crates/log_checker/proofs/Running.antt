-- Lines that fit one behind the other.
use Rattle.std.proofs.Common.{◌≡◌, List, [], ◌∷◌, ◌++◌, ap, ◌∙◌, Some, None}
use Rattle.proof_log.specs.declared.line.LogLine.{LogLine}
use Rattle.log_checker.specs.Fitting.{State, after, fitted}
use Rattle.log_checker.proofs.Fits.{fitted_from}

pub fitted_append : (s t : State) (a b : List LogLine) → fitted s a ≡ Some t → fitted s (a ++ b) ≡ fitted t b
unfolding fitted
fitted_append s t [] b e = ap (λ o. fitted_from o b) e
fitted_append s t (l ∷ a) b e = elim (after s l) as (λ o. fitted_from o a ≡ Some t → fitted_from o (a ++ b) ≡ fitted t b)
    [ None ↦ λ h. cc | Some u ↦ λ h. fitted_append u t a b h ] e

pub fitted_snoc : (s t u : State) (a : List LogLine) (l : LogLine) → fitted s a ≡ Some t → after t l ≡ Some u → fitted s (a ++ l ∷ []) ≡ Some u
unfolding fitted
fitted_snoc s t u a l e f = fitted_append s t a (l ∷ []) e ∙ ap (λ o. fitted_from o []) f
