-- The log of a program is that of its problems.
use Rattle.std.proofs.Common.{◌≡◌, ℕ, ◌+◌, ◌≤◌, zero, suc, List, [], ◌∷◌, length, map, refl, ◌∙◌, ap, arith, Result, Ok, Err}
use Rattle.std.proofs.lemmas.List.{length-map}
use Rattle.gcl_reader.specs.Grammar.{◌>>=◌}
use Rattle.gcl_reader.specs.declared.refusal.Refusal.{Refusal}
use Rattle.gcl_names.specs.declared.program.Act.{Act}
use Rattle.gcl_names.specs.declared.program.Program.{Program}
use Rattle.gcl_names.specs.Sound.{Counts, IsSound}
use Rattle.algebraize.specs.Equations.{Equations}
use Rattle.algebraize.specs.Formed.{equations}
use Rattle.algebraize.specs.Problem.{problem_of, problems_from, problems_of, proves_in}
use Rattle.algebraize.proofs.Proves.{counted}
use Rattle.proof_steps.specs.declared.problem.Problem.{Problem}
use Rattle.proof_log.specs.declared.limits.TheConstants.{MOST_PROOFS}
use Rattle.prove_run.specs.Logs as logs
use Rattle.prove_run.specs.Logs.{log_of, log_of_program, newest}

-- ---- how many problems there are
one-more : (n : ℕ) (first : Result Equations Refusal) (others : Result (List Equations) Refusal) → ((es : List Equations) → others ≡ Ok es → length es ≡ n)
    → (es : List Equations) → (first >>= λ e. others >>= λ more. Ok (e ∷ more)) ≡ Ok es → length es ≡ suc n
one-more n (Err r) others h es w = cc
one-more n (Ok e) (Err r) h es w = cc
one-more n (Ok e) (Ok more) h es w =
    let a = h more refl in
    let b : e ∷ more ≡ es = cc in
    let l = ap length b in
    omega (arith, a, l)

problems-length : (acts : List Act) (k n : ℕ) (es : List Equations) → problems_from acts k n ≡ Ok es → length es ≡ n
unfolding problems_from
problems-length acts k zero es w = let b : [] ≡ es = cc in let l = ap length b in omega (arith, l)
problems-length acts k (suc n) es w = one-more n (problem_of acts k) (problems_from acts (k + 1) n) (problems-length acts (k + 1) n) es w

pub few-problems : (program : Program) → IsSound program → (problems : List Problem) → problems_of program.acts ≡ Ok (map equations problems)
    → length problems ≤ MOST_PROOFS
few-problems program s problems w =
    let all = problems-length program.acts 0 (proves_in program.acts) (map equations problems) w in
    let n = counted program.acts program.proves (ap (λ (k : Counts). k.proves) s.counts) in
    let m = length-map problems equations in
    let few = s.proves in
    omega (arith, all, n, m, few)

-- ---- the log
again : (problems : List Problem) → map logs.problem_of (map equations problems) ≡ problems
again [] = refl
again (p ∷ ps) = ap (λ l. p ∷ l) (again ps)

pub program-log : (acts : List Act) (problems : List Problem) → problems_of acts ≡ Ok (map equations problems)
    → log_of_program acts ≡ Ok (log_of newest problems)
program-log acts problems w =
    ap (λ r. r >>= λ es. Ok (log_of newest (map logs.problem_of es))) w ∙ ap (λ ps. Ok (log_of newest ps)) (again problems)

pub program-refused : (acts : List Act) (r : Refusal) → problems_of acts ≡ Err r → log_of_program acts ≡ Err r
program-refused acts r w = ap (λ q. q >>= λ es. Ok (log_of newest (map logs.problem_of es))) w
