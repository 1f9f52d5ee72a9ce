-- What holds of the polynomials of a problem that a figure states.
use Rattle.std.specs.Prelude.{ℕ, ◌<◌, ◌≤◌, List, length, Bool, IsTrue, nat_le}
use Rattle.std.specs.List.{list_all}
use Rattle.poly_model.specs.Polynomial.{Polynomial, is_over}
use Rattle.poly_model.specs.Content.{primitive_part}
use Rattle.poly_model.specs.Standard.{is_standard}
use Rattle.poly_model.specs.Reduction.{same}
use Rattle.poly_model.specs.declared.limits.TheConstants.{MOST_HYPOTHESES, MOST_CONCLUSIONS}
use Rattle.proof_steps.specs.declared.problem.Problem.{Problem}
use Rattle.proof_steps.specs.declared.problem.TheConstants.{MOST_CONCLUSION_TERMS, MOST_STATED_TERMS}

-- A polynomial is its own primitive part.
abbrev pub is_own_part : Polynomial → Bool
is_own_part p = same p (primitive_part p)

-- It has at most so many terms.
abbrev pub is_brief : (most : ℕ) → Polynomial → Bool
is_brief most p = nat_le (length p) most

-- Polynomials over the first n variables and within the limits, each its own primitive part and of at most so many terms.
pub record AreStated (n most : ℕ) (ps : List Polynomial) : Type 0 where
  pub own : IsTrue (list_all (is_over n) ps)
  pub standard : IsTrue (list_all is_standard ps)
  pub parts : IsTrue (list_all is_own_part ps)
  pub brief : IsTrue (list_all (is_brief most) ps)

-- The polynomials of a problem are within the limits.
pub record IsWithinLimits (problem : Problem) : Type 0 where
  pub hyps : IsTrue (list_all is_standard problem.hyps)
  pub cons : IsTrue (list_all is_standard problem.cons)

-- A problem whose polynomials are so; it has at least one conclusion, and not too many polynomials.
pub record IsStated (problem : Problem) : Type 0 where
  pub hyps : AreStated (length problem.vars) MOST_STATED_TERMS problem.hyps
  pub cons : AreStated (length problem.vars) MOST_CONCLUSION_TERMS problem.cons
  pub few_hyps : length problem.hyps ≤ MOST_HYPOTHESES
  pub some_con : 0 < length problem.cons
  pub few_cons : length problem.cons ≤ MOST_CONCLUSIONS
