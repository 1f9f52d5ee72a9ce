-- The lines of verdicts, one behind the other.
use Rattle.std.proofs.Common.{◌≡◌, ◌+◌, ◌++◌, ◌∙◌, ℕ, List, [], ◌∷◌, length, refl, ap, sym, subst, append_assoc, append-nil}
use Rattle.std.proofs.lemmas.List.Concat.{flat_map-append}
use Rattle.std.specs.List.{flat_map}
use Rattle.proof_steps.specs.declared.problem.Problem.{Problem}
use Rattle.verdicts.specs.declared.verdict.Verdict.{Verdict}
use Rattle.proof_log.specs.Own.{VerdictIsOver}
use Rattle.proof_log.specs.declared.log.Proof.{Proof}
use Rattle.command_line.specs.Found.{AreOver}
use Rattle.command_line.specs.VerdictLines.{verdict_line, verdict_lines, problems_in, verdicts_in}

-- a line more in memory, and one less to come
pub next_line : {X : Type 0} (bytes : X → List ℕ) (lines : List X) (line : X) (k : ℕ) (proofs others : List Proof) (p : Proof) (all : List ℕ)
    → proofs ≡ p ∷ others → bytes line ≡ verdict_line k p.problem.vars p.verdict
    → flat_map bytes lines ++ flat_map (λ l. l) (verdict_lines k (problems_in proofs) (verdicts_in proofs)) ≡ all
    → flat_map bytes (lines ++ line ∷ []) ++ flat_map (λ l. l) (verdict_lines (k + 1) (problems_in others) (verdicts_in others)) ≡ all
next_line bytes lines line k proofs others p all is made whole =
    let rest = flat_map (λ l. l) (verdict_lines (k + 1) (problems_in others) (verdicts_in others)) in
    ap (λ t. t ++ rest) (flat_map-append bytes lines (line ∷ []) ∙ ap (λ t. flat_map bytes lines ++ t) (append-nil (bytes line) ∙ made))
    ∙ append_assoc (flat_map bytes lines) (verdict_line k p.problem.vars p.verdict) rest
    ∙ ap (λ ps. flat_map bytes lines ++ flat_map (λ l. l) (verdict_lines k (problems_in ps) (verdicts_in ps))) (sym is) ∙ whole

-- the lines of problems and their verdicts, numbered from k on
abbrev pub text_from : ℕ → List Problem → List Verdict → List ℕ
text_from k problems verdicts = flat_map (λ l. l) (verdict_lines k problems verdicts)

-- the line of the first, and those of the others
pub first_line : (k : ℕ) (problems others : List Problem) (verdicts more : List Verdict) (p : Problem) (v : Verdict) → problems ≡ p ∷ others → verdicts ≡ v ∷ more
    → text_from k problems verdicts ≡ verdict_line k p.vars v ++ text_from (k + 1) others more
first_line k problems others verdicts more p v e f = ap (λ ps. text_from k ps verdicts) e ∙ ap (text_from k (p ∷ others)) f

pub no_problems : (k : ℕ) (problems : List Problem) (verdicts : List Verdict) → problems ≡ [] → text_from k problems verdicts ≡ []
no_problems k problems verdicts e = ap (λ ps. text_from k ps verdicts) e

pub no_verdicts : (k : ℕ) (problems : List Problem) (verdicts : List Verdict) → verdicts ≡ [] → text_from k problems verdicts ≡ []
no_verdicts k [] verdicts e = refl
no_verdicts k (p ∷ ps) verdicts e = ap (text_from k (p ∷ ps)) e

-- the first verdict has only the variables of its problem, and so have the others
pub over_next : (problems others : List Problem) (verdicts more : List Verdict) (p : Problem) (v : Verdict) → problems ≡ p ∷ others → verdicts ≡ v ∷ more
    → AreOver problems verdicts → VerdictIsOver (length p.vars) v × AreOver others more
over_next problems others verdicts more p v e f h = subst (AreOver (p ∷ others)) f (subst (λ ps. AreOver ps verdicts) e h)
