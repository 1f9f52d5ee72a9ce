-- What is known of the polynomials of a problem that a figure states.
use Rattle.std.proofs.Common.{◌≡◌, ℕ, ◌+◌, ◌*◌, ◌/◌, ◌<◌, ◌≤◌, List, [], ◌∷◌, length, arith, true}
use Rattle.std.specs.List.{list_all, AllByRecursion}
use Rattle.std.proofs.lemmas.Bool.{and_parts}
use Rattle.std.proofs.lemmas.List.Elements.{All-from_recursion}
use Rattle.std.proofs.lemmas.Nat.{le-div}
use Rattle.poly_model.specs.Polynomial.{Polynomial, is_over}
use Rattle.poly_model.specs.Standard.{is_standard}
use Rattle.poly_model.specs.declared.limits.TheConstants.{MOST_CONCLUSIONS, MOST_FUEL, MOST_HYPOTHESES}
use Rattle.proof_steps.specs.Rules.{sizes, size_of}
use Rattle.proof_steps.specs.Stated.{IsStated}
use Rattle.proof_steps.specs.declared.problem.TheConstants.{MOST_CONCLUSION_TERMS, MOST_STATED_TERMS}
use Rattle.proof_steps.proofs.Stated.{brief-sizes}
use Rattle.proof_steps.specs.Trees.{root_of}
use Rattle.proof_steps.specs.declared.problem.Problem.{Problem}
use Rattle.tree_laws.specs.Ranges.{IsPolynomial, IsProblem}

polynomials-of : (n : ℕ) (ps : List Polynomial) → list_all is_standard ps ≡ true → list_all (is_over n) ps ≡ true → AllByRecursion (IsPolynomial n) ps
polynomials-of n [] s o = tt
polynomials-of n (p ∷ ps) s o =
    let a = and_parts (is_standard p) _ s in
    let b = and_parts (is_over n p) _ o in
    ((a.0, b.0), polynomials-of n ps a.1 b.1)

pub stated-within : (problem : Problem) → IsStated problem → IsProblem (length problem.vars) problem
stated-within problem s = record {
  hypotheses = s.few_hyps;
  conclusions = s.few_cons;
  hyps = All-from_recursion (IsPolynomial (length problem.vars)) problem.hyps (polynomials-of _ problem.hyps s.hyps.standard s.hyps.own);
  cons = All-from_recursion (IsPolynomial (length problem.vars)) problem.cons (polynomials-of _ problem.cons s.cons.standard s.cons.own);
}

pub stated-sizes : (problem : Problem) → IsStated problem
    → (sizes problem.hyps ≤ MOST_HYPOTHESES * (1 + MOST_STATED_TERMS)) × (sizes problem.cons ≤ MOST_CONCLUSIONS * (1 + MOST_CONCLUSION_TERMS))
stated-sizes problem s =
    let h = brief-sizes MOST_STATED_TERMS problem.hyps s.hyps.brief in
    let c = brief-sizes MOST_CONCLUSION_TERMS problem.cons s.cons.brief in
    let few = s.few_hyps in
    let less = s.few_cons in
    (omega (arith, h, few), omega (arith, c, less))

-- each of at most 16 proofs has fuel for the root
share : (n : ℕ) → n ≤ 16 → 0 < n → 20000 ≤ MOST_FUEL / n
share n few some = le-div 20000 MOST_FUEL n some (omega arith)

pub root-pays : (problem : Problem) (n : ℕ) → IsStated problem → n ≤ 16 → 0 < n → size_of (root_of problem (MOST_FUEL / n)) ≤ MOST_FUEL / n
root-pays problem n s few some =
    let a = stated-sizes problem s in
    let b = share n few some in
    let h = a.0 in
    omega (arith, h, b)
