-- How large the root of a problem is that a figure states.
use Rattle.std.proofs.Common.{◌≡◌, ◌≤◌, ◌+◌, ◌*◌, ℕ, suc, List, [], ◌∷◌, length, arith, true, nat_le}
use Rattle.std.specs.List.{list_all}
use Rattle.std.proofs.lemmas.Bool.{and_parts}
use Rattle.std.proofs.lemmas.Bool.Decides.{nat_tests}
use Rattle.poly_model.specs.Polynomial.{Polynomial}
use Rattle.poly_model.specs.declared.limits.TheConstants.{MOST_HYPOTHESES}
use Rattle.proof_steps.specs.declared.problem.Problem.{Problem}
use Rattle.proof_steps.specs.declared.problem.TheConstants.{MOST_STATED_TERMS}
use Rattle.proof_steps.specs.Rules.{sizes, size_of}
use Rattle.proof_steps.specs.Stated.{is_brief, IsStated}
use Rattle.proof_steps.specs.Trees.{root_of}

le_of : (a b : ℕ) → nat_le a b ≡ true → a ≤ b
le_of a b h = grind (arith, nat_tests)

-- polynomials of few terms
pub brief-sizes : (most : ℕ) (ps : List Polynomial) → list_all (is_brief most) ps ≡ true → sizes ps ≤ length ps * (1 + most)
brief-sizes most [] h = omega arith
brief-sizes most (p ∷ ps) h =
    let parts = and_parts (is_brief most p) (list_all (is_brief most) ps) h in
    let one = le_of (length p) most parts.0 in
    let more = brief-sizes most ps parts.1 in
    let e : suc (length ps) * (1 + most) ≡ 1 + most + length ps * (1 + most) = grind arith in
    omega (arith, one, more, e)

pub stated-size : (problem : Problem) (fuel : ℕ) → IsStated problem → size_of (root_of problem fuel) ≤ 4 + MOST_HYPOTHESES * (1 + MOST_STATED_TERMS)
stated-size problem fuel h = omega (arith, brief-sizes MOST_STATED_TERMS problem.hyps h.hyps.brief, h.few_hyps)
