-- The proofs of a program's problems, one after the other, are its log.
use Rattle.std.proofs.Common.{◌≡◌, ◌<◌, ◌++◌, ◌∷◌, ℕ, zero, suc, Bool, false, List, [], map, length, refl, sym, ◌∙◌, ap, subst, arith, Ok}
use Rattle.std.specs.Prelude.{All, IsTrue, ◌==◌}
use Rattle.std.proofs.lemmas.List.{map-append}
use Rattle.std.proofs.lemmas.List.Elements.{All-push}
use Rattle.poly_model.specs.Names.{are_variables}
use Rattle.gcl_names.specs.Sound.{IsSound}
use Rattle.gcl_names.specs.declared.program.Program.{Program}
use Rattle.algebraize.specs.Formed.{equations}
use Rattle.algebraize.specs.Problem.{problems_of}
use Rattle.proof_steps.specs.Stated.{IsStated}
use Rattle.proof_steps.specs.declared.problem.Problem.{Problem}
use Rattle.proof_log.specs.Accepted.{IsAccepted}
use Rattle.proof_steps.specs.declared.version.TheConstants.{VERSION}
use Rattle.proof_log.specs.declared.log.Proof.{Proof}
use Rattle.prove_run.specs.Logs.{proof_of, log_of, log_of_program, newest}
use Rattle.prove_run.specs.Whole.{IsPosed, IsKnown, IsWhole}
use Rattle.prove_run.proofs.Logs.{log-length, logs-accepted}
use Rattle.prove_run.proofs.Program.{few-problems, program-log}
use Rattle.prove_run.proofs.Written.{accepted-whole}

-- ---- one problem after the other
pub first-stated : (problems : List Problem) (p : Problem) (rest : List Problem) → problems ≡ p ∷ rest → All IsStated problems
    → IsStated p × All IsStated rest
first-stated problems p rest e h = let a = subst (All IsStated) e h in (a 0 p (omega arith), λ k d lt. a (suc k) d (omega (arith, lt)))

pub some-there : (empty : Bool) (n : ℕ) → empty ≡ (n == 0) → empty ≡ false → 0 < n
some-there empty zero e f = cc
some-there empty (suc n) e f = omega arith

-- the proofs of some problems, so far
pub record AreProved (fuel : ℕ) (problems : List Problem) (proofs : List Proof) : Type 0 where
  pub made : proofs ≡ map (proof_of VERSION fuel) problems
  pub posed : All (λ (p : Proof). IsPosed p.problem) proofs

pub one-more : (fuel : ℕ) (problems : List Problem) (proofs after : List Proof) (problem : Problem) (proof : Proof)
    → AreProved fuel problems proofs → after ≡ proofs ++ proof ∷ [] → IsStated problem → proof ≡ proof_of VERSION fuel problem
    → IsTrue (are_variables proof.problem.vars) → AreProved fuel (problems ++ problem ∷ []) after
one-more fuel problems proofs after problem proof so_far grown stated made vars =
    let same : proof.problem ≡ problem = ap (λ (p : Proof). p.problem) made in
    let posed : IsPosed proof.problem = record { vars = vars; stated = subst IsStated (sym same) stated } in
    let IsPosedOf : Proof → Type 0 = λ p. IsPosed p.problem in
    record {
      made =
          grown ∙ ap (λ l. l ++ proof ∷ []) so_far.made ∙ ap (λ p. map (proof_of VERSION fuel) problems ++ p ∷ []) made
          ∙ sym (map-append (proof_of VERSION fuel) problems (problem ∷ []));
      posed = subst (All IsPosedOf) (sym grown) (All-push IsPosedOf proofs proof so_far.posed posed);
    }

-- ---- the log
pub newest-known : IsKnown newest
newest-known = record { some = omega arith; newest = omega arith; some_fuel = omega arith; most_fuel = omega arith; stated = λ e. refl }

pub record IsLogOf (program : Program) (proofs : List Proof) : Type 0 where
  pub log : log_of_program program.acts ≡ Ok proofs
  pub accepted : IsAccepted newest proofs
  pub whole : IsWhole newest proofs

pub log-told : (program : Program) → IsSound program → (problems : List Problem) → problems_of program.acts ≡ Ok (map equations problems)
    → All IsStated problems → (proofs result : List Proof) → result ≡ proofs → proofs ≡ log_of newest problems
    → All (λ (p : Proof). IsPosed p.problem) proofs → IsLogOf program result
log-told program sound problems value stated proofs result is made posed =
    let few = few-problems program sound problems value in
    let n = log-length newest problems in
    let same : result ≡ log_of newest problems = is ∙ made in
    let k = ap (λ (l : List Proof). length l) same in
    let accepted : IsAccepted newest result = subst (IsAccepted newest) (sym same) (logs-accepted VERSION problems few stated) in
    let IsPosedOf : Proof → Type 0 = λ p. IsPosed p.problem in
    record {
      log = program-log program.acts problems value ∙ ap Ok (sym same);
      accepted = accepted;
      whole =
          accepted-whole newest result newest-known (omega (arith, n, k, few)) (subst (All IsPosedOf) (sym is) posed) accepted;
    }
