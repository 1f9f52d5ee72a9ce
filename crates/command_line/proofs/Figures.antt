-- What the verdicts of a log with a program's problems say of the program's figures.
use Rattle.std.proofs.Common.{◌≡◌, ◌≤◌, ◌+◌, ◌-◌, ◌==◌, ℕ, zero, suc, List, [], ◌∷◌, ◌++◌, length, length-append, map, take, drop, All, Ok, Bool, true, false, if◌then◌else◌, refl, sym, ◌∙◌, ap, subst, arith}
use Rattle.std.specs.List.{AllByRecursion}
use Rattle.std.proofs.lemmas.List.{length-map}
use Rattle.std.proofs.lemmas.List.Elements.{recursion_from_All}
use Rattle.poly_model.specs.Domain.{Operations}
use Rattle.poly_model.specs.declared.limits.TheConstants.{MOST_VARIABLES}
use Rattle.gcl_reader.specs.declared.word.Statement.{Statement}
use Rattle.gcl_reader.proofs.Bind.{bind-ok, ok-is}
use Rattle.gcl_names.specs.declared.program.Act.{Act}
use Rattle.gcl_names.specs.declared.program.Deed.TheVariants as deed
use Rattle.algebraize.specs.Equations.{Equations, equations_of, Mean}
use Rattle.algebraize.specs.Formed.{equations}
use Rattle.algebraize.specs.Layout.{layout_of}
use Rattle.algebraize.specs.Problem.{is_prove, acts_before, laid_out, problem_at, problem_of_deed, problem_between, problem_of, problems_from, problems_of, proves_in}
use Rattle.algebraize.proofs.Proves.{laid_out-ok}
use Rattle.proof_steps.specs.declared.problem.Problem.{Problem}
use Rattle.verdicts.specs.declared.verdict.Verdict.{Verdict}
use Rattle.verdicts.specs.declared.verdict.Verdict.TheVariants as verdict
use Rattle.verdicts.specs.Claims.{Claims}
use Rattle.proof_log.specs.declared.log.Proof.{Proof}
use Rattle.command_line.specs.Assured.{IsAssuredProof}
use Rattle.command_line.specs.Figures.{FigureClaims, FiguresHold}
use Rattle.command_line.specs.VerdictLines.{problems_in}

-- what a verdict claims of the equations of a statement, it claims of its figures
figure_claims : {M : Type 0} (o : Operations M) (acts : List Act) (s : Statement) (points : List ℕ) (problem : Problem) (v : Verdict)
    → Mean o acts s points (equations problem) → Claims o problem v → FigureClaims o acts s points v
figure_claims o acts s points problem verdict.Proved mean claims =
    λ point meets none. (mean.conclusions point).0 (claims point ((mean.hypotheses point).1 meets) none)
figure_claims o acts s points problem (verdict.Under cs) mean claims =
    λ point meets none. (mean.conclusions point).0 (claims point ((mean.hypotheses point).1 meets) none)
figure_claims o acts s points problem (verdict.NotProved path k r) mean claims = tt
figure_claims o acts s points problem (verdict.Degenerate path) mean claims = tt
figure_claims o acts s points problem (verdict.Left path reason) mean claims = tt

-- how many acts stand before the prove behind these
pub before-prove : (before after : List Act) (prove : Act) → is_prove prove.deed ≡ true
    → acts_before (proves_in before) (before ++ prove ∷ after) ≡ length before
unfolding acts_before
before-prove [] after prove e = ap (λ b. if b then (if 0 == 0 then 0 else acts_before (0 - 1) after + 1) else acts_before 0 after + 1) e
before-prove (a ∷ before) after prove e = by (is_prove a.deed) (before-prove before after prove e) where
  acts : List Act
  acts = before ++ prove ∷ after

  here : Bool → ℕ
  here b = (if b then 1 else 0) + proves_in before

  by : (b : Bool) → acts_before (proves_in before) acts ≡ length before
      → (if b then (if here b == 0 then 0 else acts_before (here b - 1) acts + 1) else acts_before (here b) acts + 1) ≡ suc (length before)
  by true h = grind (arith, h)
  by false h = grind (arith, h)

pub take-front : {X : Type 0} (a b : List X) → take (length a) (a ++ b) ≡ a
take-front [] b = refl
take-front (x ∷ a) b = ap (λ l. x ∷ l) (take-front a b)

drop-front : {X : Type 0} (a b : List X) → drop (length a) (a ++ b) ≡ b
drop-front [] b = refl
drop-front (x ∷ a) b = drop-front a b

-- the problem of the prove behind these acts
pub problem-behind : (before after : List Act) (prove : Act) (s : Statement) (points : List ℕ) → prove.deed ≡ deed.Prove s points
    → problem_of (before ++ prove ∷ after) (proves_in before) ≡ problem_at before prove s points
problem-behind before after prove s points e =
    let acts = before ++ prove ∷ after in
    ap (λ n. problem_between (take n acts) (drop n acts)) (before-prove before after prove (ap is_prove e))
    ∙ ap (λ front. problem_between front (drop (length before) acts)) (take-front before (prove ∷ after))
    ∙ ap (problem_between before) (drop-front before (prove ∷ after)) ∙ ap (problem_of_deed before prove) e

pub equations-given : (before : List Act) (prove : Act) (s : Statement) (points : List ℕ) (e : Equations) → problem_at before prove s points ≡ Ok e
    → (length (layout_of before).variables ≤ MOST_VARIABLES) × (e ≡ equations_of before s points)
unfolding problem_at
equations-given before prove s points e h =
    let l = bind-ok (laid_out before prove) (λ l. Ok (equations_of before s points)) e h in
    ((laid_out-ok before prove l.0 l.1).1, sym (ok-is l.2))

-- the problem of a place in the list
problems-item : (acts : List Act) (n k : ℕ) (es earlier later : List Equations) (e : Equations) → problems_from acts k n ≡ Ok es → es ≡ earlier ++ e ∷ later
    → problem_of acts (k + length earlier) ≡ Ok e
unfolding problems_from
problems-item acts zero k es earlier later e h s =
    let none : [] ≡ es = ok-is h in absurd (omega (arith, ap length (none ∙ s), length-append earlier (e ∷ later)))
problems-item acts (suc n) k es earlier later e h s =
    let first = bind-ok (problem_of acts k) _ es h in
    let others = bind-ok (problems_from acts (k + 1) n) _ es first.2 in
    let both : first.0 ∷ others.0 ≡ es = ok-is others.2 in
    at first.0 others.0 first.1 (problems-item acts n (k + 1) others.0) others.1 earlier (both ∙ s)
  where
    at : (first : Equations) (others : List Equations) → problem_of acts k ≡ Ok first
        → ((earlier later : List Equations) (e : Equations) → problems_from acts (k + 1) n ≡ Ok others → others ≡ earlier ++ e ∷ later
        → problem_of acts ((k + 1) + length earlier) ≡ Ok e) → problems_from acts (k + 1) n ≡ Ok others
        → (front : List Equations) → first ∷ others ≡ front ++ e ∷ later → problem_of acts (k + length front) ≡ Ok e
    at first others is next more [] m = let f : first ≡ e = cc in ap (problem_of acts) (omega arith) ∙ is ∙ ap Ok f
    at first others is next more (x ∷ front) m =
        let t : others ≡ front ++ e ∷ later = cc in ap (problem_of acts) (omega arith) ∙ next front later e more t

-- as many problems as were asked for
pub problems-length : (acts : List Act) (n k : ℕ) (es : List Equations) → problems_from acts k n ≡ Ok es → length es ≡ n
unfolding problems_from
problems-length acts zero k es h = let none : [] ≡ es = ok-is h in omega (arith, ap length none)
problems-length acts (suc n) k es h =
    let first = bind-ok (problem_of acts k) _ es h in
    let others = bind-ok (problems_from acts (k + 1) n) _ es first.2 in
    let both : first.0 ∷ others.0 ≡ es = ok-is others.2 in
    let more = problems-length acts n (k + 1) others.0 others.1 in
    omega (arith, ap length both, more)

map-cut : {X Y : Type 0} (f : X → Y) (a b : List X) (x : X) → map f (a ++ x ∷ b) ≡ map f a ++ f x ∷ map f b
map-cut f [] b x = refl
map-cut f (y ∷ a) b x = ap (λ l. f y ∷ l) (map-cut f a b x)

all-at : {A : Type 0} (P : A → Type 0) (a b : List A) (x : A) → AllByRecursion P (a ++ x ∷ b) → P x
all-at P [] b x h = h.0
all-at P (y ∷ a) b x h = all-at P a b x h.1

abbrev pub AllMean : {M : Type 0} → Operations M → Type 0
AllMean o =
    (acts : List Act) (s : Statement) (points : List ℕ) → length (layout_of acts).variables ≤ MOST_VARIABLES
    → Mean o acts s points (equations_of acts s points)

abbrev pub stated_by : List Proof → List Equations
stated_by proofs = map equations (problems_in proofs)

-- the problem of a proof is that of the prove of its number
proof-problem : (acts : List Act) (proofs earlier later : List Proof) (p : Proof) → problems_of acts ≡ Ok (stated_by proofs)
    → proofs ≡ earlier ++ p ∷ later → problem_of acts (length earlier) ≡ Ok (equations p.problem)
proof-problem acts proofs earlier later p stated parts =
    let cut : stated_by proofs ≡ stated_by earlier ++ equations p.problem ∷ stated_by later =
    ap stated_by parts ∙ ap (map equations) (map-cut (λ (q : Proof). q.problem) earlier later p)
    ∙ map-cut equations (problems_in earlier) (problems_in later) p.problem in
    let a = length-map earlier (λ (q : Proof). q.problem) in
    let b = length-map (problems_in earlier) equations in
    let there : length earlier ≡ 0 + length (stated_by earlier) = omega (arith, a, b) in
    ap (problem_of acts) there
    ∙ problems-item acts (proves_in acts) 0 (stated_by proofs) (stated_by earlier) (stated_by later) (equations p.problem) stated cut

-- and so it is the problem behind the acts before that prove
pub proof-behind : (acts : List Act) (proofs : List Proof) → problems_of acts ≡ Ok (stated_by proofs)
    → (before after : List Act) (prove : Act) (s : Statement) (points : List ℕ) → acts ≡ before ++ prove ∷ after → prove.deed ≡ deed.Prove s points
    → (earlier later : List Proof) (p : Proof) → proofs ≡ earlier ++ p ∷ later → length earlier ≡ proves_in before
    → problem_at before prove s points ≡ Ok (equations p.problem)
proof-behind acts proofs stated before after prove s points is asks earlier later p parts place =
    sym (problem-behind before after prove s points asks) ∙ ap (λ l. problem_of l (proves_in before)) (sym is) ∙ ap (problem_of acts) (sym place)
    ∙ proof-problem acts proofs earlier later p stated parts

-- each proof is assured
pub proof-assured : {M : Type 0} (o : Operations M) (proofs : List Proof) → All (IsAssuredProof o) proofs
    → (earlier later : List Proof) (p : Proof) → proofs ≡ earlier ++ p ∷ later → IsAssuredProof o p
proof-assured o proofs assured earlier later p parts =
    let all = subst (All (IsAssuredProof o)) parts assured in
    all-at (IsAssuredProof o) earlier later p (recursion_from_All (IsAssuredProof o) (earlier ++ p ∷ later) all)

-- The verdicts of a log with the problems of these acts hold of their figures.
pub figures_hold : {M : Type 0} (o : Operations M) → AllMean o → (acts : List Act) (proofs : List Proof)
    → problems_of acts ≡ Ok (stated_by proofs) → All (IsAssuredProof o) proofs → FiguresHold o acts proofs
figures_hold o means acts proofs stated assured = record { many = many; each = each } where
  many : length proofs ≡ proves_in acts
  many =
      let a = length-map proofs (λ (q : Proof). q.problem) in
      let b = length-map (problems_in proofs) equations in
      let c = problems-length acts (proves_in acts) 0 (stated_by proofs) stated in
      omega (arith, a, b, c)

  each : (before after : List Act) (prove : Act) (s : Statement) (points : List ℕ)
      → acts ≡ before ++ prove ∷ after → prove.deed ≡ deed.Prove s points
      → (earlier later : List Proof) (p : Proof) → proofs ≡ earlier ++ p ∷ later → length earlier ≡ proves_in before
      → FigureClaims o before s points p.verdict
  each before after prove s points is asks earlier later p parts place =
      let same = proof-behind acts proofs stated before after prove s points is asks earlier later p parts place in
      let given = equations-given before prove s points (equations p.problem) same in
      let mean = subst (Mean o before s points) (sym given.1) (means before s points given.0) in
      figure_claims o before s points p.problem p.verdict mean (proof-assured o proofs assured earlier later p parts).claims
