-- The log of a file's proves is accepted, and can be written whole.
use Rattle.std.proofs.Common.{◌≡◌, ◌≤◌, ◌<◌, ◌+◌, ℕ, zero, suc, List, [], ◌∷◌, ◌++◌, map, length, Bool, true, false, if◌then◌else◌, Ok, refl, sym, ◌∙◌, ap, subst, arith}
use Rattle.std.specs.List.{AllByRecursion}
use Rattle.std.proofs.lemmas.List.Elements.{All-from_recursion}
use Rattle.gcl_reader.specs.Grammar.{◌>>=◌, file_of}
use Rattle.gcl_reader.specs.Tokens.{lexed}
use Rattle.gcl_reader.specs.declared.limits.TheConstants.{MOST_COMMANDS}
use Rattle.gcl_reader.specs.declared.word.Statement.{Statement}
use Rattle.gcl_reader.proofs.Bind.{bind-ok, ok-is}
use Rattle.gcl_reader.proofs.Spelled.{commands-in}
use Rattle.gcl_names.specs.Program.{program_of, resolved}
use Rattle.gcl_names.specs.Sound.{IsSound, nothing}
use Rattle.gcl_names.specs.declared.program.Act.{Act}
use Rattle.gcl_names.specs.declared.program.Deed.{Deed}
use Rattle.gcl_names.specs.declared.program.Deed.TheVariants as deed
use Rattle.gcl_names.specs.declared.program.Program.{Program}
use Rattle.gcl_names.proofs.SoundActs.{resolved-sound}
use Rattle.poly_model.specs.Names.{are_variables}
use Rattle.poly_model.specs.declared.limits.TheConstants.{MOST_FUEL}
use Rattle.proof_steps.specs.declared.problem.Problem.{Problem}
use Rattle.algebraize.specs.Equations.{Equations, equations_of}
use Rattle.algebraize.specs.Formed.{equations}
use Rattle.algebraize.specs.Problem.{is_prove, problem_of, problems_from, problems_of, proves_in}
use Rattle.algebraize.proofs.Limits.{AllNear, sound-near, front-near, problem-within}
use Rattle.algebraize.proofs.Proves.{variables_of_layout}
use Rattle.algebraize.proofs.Stated.{stated_problem}
use Rattle.proof_log.specs.Accepted.{IsAccepted}
use Rattle.proof_log.specs.Headings.{share_of}
use Rattle.proof_steps.specs.declared.version.TheConstants.{VERSION}
use Rattle.proof_log.specs.declared.log.Proof.{Proof}
use Rattle.prove_run.specs.Logs as logs
use Rattle.prove_run.specs.Logs.{log_of, log_of_program, newest}
use Rattle.prove_run.specs.Whole.{IsPosed, IsWhole}
use Rattle.prove_run.proofs.Logs.{logs-accepted, logs-whole}
use Rattle.prove_run.proofs.Program.{few-problems}
use Rattle.prove_run.proofs.Proved.{newest-known}
use Rattle.command_line.specs.Checking.{stated_in}
use Rattle.command_line.specs.Proving.{proofs_of}
use Rattle.command_line.specs.VerdictLines.{problems_in}
use Rattle.command_line.proofs.Figures.{problem-behind, equations-given}

-- ---- the prove of a number
record ProveAt (acts : List Act) (k : ℕ) : Type 0 where
  before : List Act
  prove : Act
  after : List Act
  statement : Statement
  points : List ℕ
  parts : acts ≡ before ++ prove ∷ after
  asks : prove.deed ≡ deed.Prove statement points
  place : proves_in before ≡ k

asked : (d : Deed) → is_prove d ≡ true → (s : Statement) × (points : List ℕ) × (d ≡ deed.Prove s points)
asked (deed.Prove s points) e = (s, points, refl)
asked d e = cc

first-asks : (a : Act) (acts : List Act) → is_prove a.deed ≡ true → ProveAt (a ∷ acts) 0
first-asks a acts e =
    let q = asked a.deed e in
    record { before = []; prove = a; after = acts; statement = q.0; points = q.1; parts = refl; asks = q.2; place = refl }

behind-one : (a : Act) (acts : List Act) (n k : ℕ) → ProveAt acts n → (if is_prove a.deed then 1 else 0) + n ≡ k → ProveAt (a ∷ acts) k
behind-one a acts n k at e = record {
  before = a ∷ at.before;
  prove = at.prove;
  after = at.after;
  statement = at.statement;
  points = at.points;
  parts = ap (λ l. a ∷ l) at.parts;
  asks = at.asks;
  place = ap (λ m. (if is_prove a.deed then 1 else 0) + m) at.place ∙ e;
}

by-first : (a : Act) (acts : List Act) → ((k : ℕ) → k < proves_in acts → ProveAt acts k) → (b : Bool) → is_prove a.deed ≡ b → (k : ℕ)
    → k < (if is_prove a.deed then 1 else 0) + proves_in acts → ProveAt (a ∷ acts) k
by-first a acts later true e zero lt = first-asks a acts e
by-first a acts later true e (suc k) lt =
    let one : ◌≡◌ {A = ℕ} (if is_prove a.deed then 1 else 0) 1 = ap (λ b. if b then 1 else 0) e in
    behind-one a acts k (suc k) (later k (omega (arith, one, lt))) (omega (arith, one))
by-first a acts later false e k lt =
    let none : ◌≡◌ {A = ℕ} (if is_prove a.deed then 1 else 0) 0 = ap (λ b. if b then 1 else 0) e in
    behind-one a acts k k (later k (omega (arith, none, lt))) (omega (arith, none))

prove-at : (acts : List Act) (k : ℕ) → k < proves_in acts → ProveAt acts k
prove-at [] k lt = absurd (omega (arith, lt))
prove-at (a ∷ acts) k lt = by-first a acts (prove-at acts) (is_prove a.deed) refl k lt

-- ---- its problem
problem-posed : (acts : List Act) (k : ℕ) (e : Equations) → AllNear acts → k < proves_in acts → problem_of acts k ≡ Ok e → IsPosed (logs.problem_of e)
problem-posed acts k e sized lt h =
    let at = prove-at acts k lt in
    let found = ap (problem_of (at.before ++ at.prove ∷ at.after)) at.place ∙ ap (λ l. problem_of l k) (sym at.parts) ∙ h in
    let given = equations-given at.before at.prove at.statement at.points e
    (sym (problem-behind at.before at.after at.prove at.statement at.points at.asks) ∙ found) in
    let front = front-near at.before (at.prove ∷ at.after) (subst AllNear at.parts sized) in
    let is : equations (logs.problem_of e) ≡ equations_of at.before at.statement at.points = given.1 in
    record {
      vars = ap (λ (x : Equations). are_variables x.variables) given.1 ∙ variables_of_layout at.before given.0;
      stated = stated_problem at.before at.statement at.points (logs.problem_of e) is given.0
          (problem-within at.before at.statement at.points (logs.problem_of e) front is);
    }

problems-posed : (acts : List Act) → AllNear acts → (n k : ℕ) (es : List Equations) → k + n ≤ proves_in acts → problems_from acts k n ≡ Ok es
    → AllByRecursion IsPosed (map logs.problem_of es)
unfolding problems_from
problems-posed acts sized zero k es le h = subst (λ l. AllByRecursion IsPosed (map logs.problem_of l)) (ok-is h) tt
problems-posed acts sized (suc n) k es le h =
    let first = bind-ok (problem_of acts k) _ es h in
    let others = bind-ok (problems_from acts (k + 1) n) _ es first.2 in
    subst (λ l. AllByRecursion IsPosed (map logs.problem_of l)) (ok-is others.2) (
      problem-posed acts k first.0 sized (omega (arith, le)) first.1,
      problems-posed acts sized n (k + 1) others.0 (omega (arith, le)) others.1,
    )

again : (es : List Equations) → es ≡ map equations (map logs.problem_of es)
again [] = refl
again (e ∷ es) = ap (λ l. e ∷ l) (again es)

problems-back : (version fuel : ℕ) (problems : List Problem) → problems_in (map (logs.proof_of version fuel) problems) ≡ problems
problems-back version fuel [] = refl
problems-back version fuel (p ∷ ps) = ap (λ l. p ∷ l) (problems-back version fuel ps)

-- ---- the log
pub record IsSure (proofs : List Proof) : Type 0 where
  pub accepted : IsAccepted newest proofs
  pub whole : IsWhole newest proofs

program-sure : (program : Program) (proofs : List Proof) → IsSound program → log_of_program program.acts ≡ Ok proofs → IsSure proofs
program-sure program proofs sound h =
    let es = bind-ok (problems_of program.acts) _ proofs h in
    let problems = map logs.problem_of es.0 in
    let posed = All-from_recursion IsPosed problems
    (problems-posed program.acts (sound-near nothing program.acts sound.follow) (proves_in program.acts) 0 es.0 (omega arith) es.1) in
    let few = few-problems program sound problems (es.1 ∙ ap Ok (again es.0)) in
    subst IsSure (ok-is es.2) record {
      accepted = logs-accepted VERSION problems few (λ k d lt. (posed k d lt).stated);
      whole = logs-whole VERSION problems newest-known few posed;
    }

-- The problems of the log are those of the file.
pub log-stated : (bytes : List ℕ) (proofs : List Proof) → proofs_of bytes ≡ Ok proofs → stated_in bytes ≡ Ok (map equations (problems_in proofs))
unfolding proofs_of stated_in
log-stated bytes proofs h =
    let p = bind-ok (program_of bytes) _ proofs h in
    let es = bind-ok (problems_of p.0.acts) _ proofs p.2 in
    let problems = map logs.problem_of es.0 in
    ap (λ r. r >>= λ program. problems_of program.acts) p.1 ∙ es.1
    ∙ ap Ok (again es.0 ∙ ap (map equations) (sym (problems-back VERSION (share_of MOST_FUEL (length problems)) problems) ∙ ap problems_in (ok-is es.2)))

-- The program of a file is sound.
pub program-sound : (bytes : List ℕ) (p : Program) → program_of bytes ≡ Ok p → IsSound p
program-sound bytes p h =
    let f = bind-ok (file_of bytes) resolved p h in
    let spelled = commands-in MOST_COMMANDS (lexed bytes) f.0 f.1 in
    (resolved-sound f.0 p (spelled.1, spelled.2) f.2).0

-- The log of a file is accepted and whole.
pub log-sure : (bytes : List ℕ) (proofs : List Proof) → proofs_of bytes ≡ Ok proofs → IsSure proofs
unfolding proofs_of
log-sure bytes proofs h =
    let p = bind-ok (program_of bytes) _ proofs h in
    program-sure p.0 proofs (program-sound bytes p.0 p.1) p.2
