-- The log of problems as figures state them is accepted.
use Rattle.std.proofs.Common.{◌≡◌, ℕ, ◌/◌, ◌<◌, ◌≤◌, List, [], ◌∷◌, map, length, refl, subst, sym, arith}
use Rattle.std.specs.List.{AllByRecursion}
use Rattle.std.proofs.lemmas.List.{length-map}
use Rattle.std.proofs.lemmas.List.Elements.{All-map, recursion_from_All}
use Rattle.poly_model.specs.declared.limits.TheConstants.{MOST_FUEL}
use Rattle.proof_steps.specs.Stated.{IsStated}
use Rattle.proof_steps.specs.declared.problem.Problem.{Problem}
use Rattle.tree_laws.proofs.Growth.{trees-valid}
use Rattle.proof_log.specs.Accepted.{IsAcceptedProof, AreAccepted}
use Rattle.proof_log.specs.declared.limits.TheConstants.{MOST_PROOFS}
use Rattle.proof_log.specs.Headings.{Heading, heading, share_of}
use Rattle.proof_log.specs.declared.log.Proof.{Proof}
use Rattle.prove_run.specs.Logs.{proof_of, log_of}
use Rattle.prove_run.specs.Whole.{IsPosed, LogsAreAccepted, LogsAreWhole}
use Rattle.prove_run.proofs.Posed.{root-pays}
use Rattle.prove_run.proofs.Written.{accepted-whole}

proof-accepted : (version n : ℕ) (problem : Problem) → n ≤ MOST_PROOFS → 0 < n → IsStated problem
    → IsAcceptedProof version (MOST_FUEL / n) (proof_of version (MOST_FUEL / n) problem)
proof-accepted version n problem few some w = record {
  hyps = w.hyps.parts;
  cons = w.cons.parts;
  tree = trees-valid version problem (MOST_FUEL / n) (root-pays problem n w few some);
  verdict = refl;
}

proofs-accepted : (version n : ℕ) (problems : List Problem) → n ≤ MOST_PROOFS → length problems ≤ n → AllByRecursion IsStated problems
    → AreAccepted version (MOST_FUEL / n) (map (proof_of version (MOST_FUEL / n)) problems)
unfolding AreAccepted
proofs-accepted version n [] few all w = tt
proofs-accepted version n (p ∷ ps) few all w =
    (proof-accepted version n p few (omega (arith, all)) w.0, proofs-accepted version n ps few (omega (arith, all)) w.1)

pub log-length : (h : Heading) (problems : List Problem) → length (log_of h problems) ≡ length problems
log-length h problems = length-map problems (proof_of h.version (share_of h.fuel (length problems)))

pub logs-accepted : LogsAreAccepted
logs-accepted version problems few w =
    let h = heading version MOST_FUEL in
    subst (λ n. AreAccepted version (share_of MOST_FUEL n) (log_of h problems)) (sym (log-length h problems))
    (proofs-accepted version (length problems) problems few (omega arith) (recursion_from_All IsStated problems w))

pub logs-whole : LogsAreWhole
logs-whole version problems known few w =
    let h = heading version MOST_FUEL in
    let same = log-length h problems in
    accepted-whole h (log_of h problems) known (omega (arith, same, few))
    (All-map (λ (p : Proof). IsPosed p.problem) (proof_of version (share_of MOST_FUEL (length problems))) problems w)
    (logs-accepted version problems few (λ k d lt. (w k d lt).stated))
