-- What an accepted log assures.
use Rattle.std.proofs.Common.{◌≡◌, ℕ, suc, List, [], ◌∷◌, ◌++◌, length, map, refl, sym, ap, subst, Result, Ok, Err, IfOk, IsTrue, Bool, true, false}
use Rattle.std.specs.List.{flat_map}
use Rattle.std.proofs.lemmas.Bool.{and_from}
use Rattle.poly_model.specs.Domain.{Operations}
use Rattle.poly_model.specs.Polynomial.{Polynomial, is_over}
use Rattle.poly_model.specs.declared.vars.VarName.{VarName}
use Rattle.proof_steps.specs.declared.problem.Problem.{Problem}
use Rattle.verdicts.specs.Claims.{Claims}
use Rattle.assurance.specs.Assured.{TreesCover, VerdictsHold, TreesKeepVariables, all_over}
use Rattle.assurance.specs.Polynomials.{of_verdict}
use Rattle.proof_log.specs.Accepted.{IsAcceptedProof, AreAccepted}
use Rattle.proof_steps.specs.Rules.{has_second}
use Rattle.proof_log.specs.Grammar.{names_behind}
use Rattle.proof_log.specs.Headings.{fuel_lines, share_of}
use Rattle.proof_log.specs.Lines.{piece_lines, problem_lines, proof_lines, proofs_lines}
use Rattle.proof_log.specs.Text.{AreLines}
use Rattle.proof_log.specs.declared.line.LogLine.{LogLine}
use Rattle.proof_log.specs.declared.line.LogLine.TheVariants as line
use Rattle.proof_log.specs.declared.log.Proof.{Proof}
use Rattle.log_checker.specs.Answers.{IsAcceptedText}
use Rattle.log_checker.specs.Checked.{problems_of, verdicts_of, Judged, IsAssured, AreAssured, AllCovered, IsCovered}
use Rattle.log_checker.specs.declared.checking.Checked.{Checked}
use Rattle.log_checker.specs.declared.fault.CheckFault.{CheckFault}
use Rattle.log_checker.proofs.Exact.{all_lines}
use Rattle.log_checker.proofs.Passes.{lines_front}

-- ---- the problem of a proof is over its variables
over_hyps : (names : List VarName) (ps : List Polynomial) (more : List LogLine) → AreLines names (map line.Hyp ps ++ more) → IsTrue
    (all_over (length names) ps) × AreLines names more
unfolding AreLines
over_hyps names [] more h = (refl, h)
over_hyps names (p ∷ ps) more h =
    let r = over_hyps names ps more h.1 in (and_from (is_over (length names) p) (all_over (length names) ps) h.0.1.1 r.0, r.1)

over_cons : (names : List VarName) (ps : List Polynomial) (more : List LogLine) → AreLines names (map line.Con ps ++ more) → IsTrue
    (all_over (length names) ps) × AreLines names more
unfolding AreLines
over_cons names [] more h = (refl, h)
over_cons names (p ∷ ps) more h =
    let r = over_cons names ps more h.1 in (and_from (is_over (length names) p) (all_over (length names) ps) h.0.1.1 r.0, r.1)

pub record IsOver (problem : Problem) : Type 0 where
  pub hyps : IsTrue (all_over (length problem.vars) problem.hyps)
  pub cons : IsTrue (all_over (length problem.vars) problem.cons)

problem_over : (names : List VarName) (p : Problem) (more : List LogLine) → AreLines names (problem_lines p ++ more) → IsOver p
unfolding AreLines
problem_over names p more h =
    let a = over_hyps p.vars p.hyps (map line.Con p.cons) (lines_front p.vars (map line.Hyp p.hyps ++ map line.Con p.cons) more h.1) in
    record { hyps = a.0; cons = (over_cons p.vars p.cons [] (subst (AreLines p.vars) (nothing_more (map line.Con p.cons)) a.1)).0 }
  where
    nothing_more : (ls : List LogLine) → ls ≡ ls ++ []
    nothing_more [] = refl
    nothing_more (l ∷ ls) = ap (λ t. l ∷ t) (nothing_more ls)

proof_over : (names : List VarName) (k : ℕ) (p : Proof) → AreLines names (proof_lines k p) → IsOver p.problem
unfolding AreLines
proof_over names k p h = problem_over names p.problem (flat_map piece_lines p.tree.pieces ++ line.Verdict p.verdict ∷ []) h.1

-- ---- each proof
module _ {M : Type 0} (o : Operations M) where
  assured : VerdictsHold o → TreesKeepVariables → (version fuel : ℕ) (p : Proof) → IsAcceptedProof version fuel p → IsOver p.problem
      → IsAssured o p.problem p.verdict
  assured hold keep version fuel p a over = record {
    claim = subst (Claims o p.problem) (sym a.verdict) (hold version p.problem fuel p.tree.pieces a.tree);
    hyps = over.hyps;
    cons = over.cons;
    verdict = subst (λ v. IsTrue (all_over (length p.problem.vars) (of_verdict v))) (sym a.verdict)
        (keep version (length p.problem.vars) p.problem fuel p.tree.pieces over.hyps over.cons a.tree).1;
  }

  all_assured : VerdictsHold o → TreesKeepVariables → (version fuel k : ℕ) (names : List VarName) (log : List Proof) → AreAccepted version fuel log
      → AreLines names (proofs_lines k log)
      → AreAssured o (problems_of log) (verdicts_of log)
  unfolding AreAccepted proofs_lines
  all_assured hold keep version fuel k names [] a h = tt
  all_assured hold keep version fuel k names (p ∷ ps) a h = (
    assured hold keep version fuel p a.0 (proof_over names k p (lines_front names (proof_lines k p) (proofs_lines (suc k) ps) h)),
    all_assured hold keep version fuel (suc k) (names_behind names (proof_lines k p)) ps a.1 (all_lines names (proof_lines k p) (proofs_lines (suc k) ps) h),
  )

  all_covered : TreesCover o → (version fuel : ℕ) (log : List Proof) → AreAccepted version fuel log → AllCovered o log
  unfolding AreAccepted
  all_covered cover version fuel [] a = tt
  all_covered cover version fuel (p ∷ ps) a = (cover version p.problem fuel p.tree.pieces a.0.tree, all_covered cover version fuel ps a.1)

  -- ---- the log
  log_assured : VerdictsHold o → TreesKeepVariables → (bytes : List ℕ) (log : List Proof) → IsAcceptedText log bytes → AreAssured o (problems_of log)
      (verdicts_of log)
  unfolding AreLines
  log_assured hold keep bytes log t =
      all_assured hold keep t.heading.version (share_of t.heading.fuel (length log)) 1 [] log t.accepted
      (lines_front [] (proofs_lines 1 log) (line.End ∷ []) (behind (has_second t.heading.version) t.lines.1))
    where
      behind : (b : Bool) → AreLines [] (fuel_lines b t.heading.fuel ++ (line.Proves (length log) ∷ (proofs_lines 1 log ++ line.End ∷ []))) → AreLines [] (proofs_lines 1 log ++ line.End ∷ [])
      behind true l = l.1.1
      behind false l = l.1

  pub are_assured : VerdictsHold o → TreesKeepVariables → (x : Result Checked CheckFault) (bytes : List ℕ) → Judged x bytes → IfOk x
      (λ checked. AreAssured o checked.problems checked.verdicts)
  are_assured hold keep (Ok checked) bytes j =
      subst (λ vs. AreAssured o checked.problems vs) (sym j.2.verdicts)
      (subst (λ ps. AreAssured o ps (verdicts_of j.0)) (sym j.2.problems) (log_assured hold keep bytes j.0 j.1))
  are_assured hold keep (Err f) bytes j = tt

  pub is_covered : TreesCover o → (x : Result Checked CheckFault) (bytes : List ℕ) → Judged x bytes → IfOk x (λ checked. IsCovered o checked bytes)
  is_covered cover (Ok checked) bytes j = record {
    log = j.0;
    text = j.1;
    tells = j.2;
    covered = all_covered cover j.1.heading.version
        (share_of j.1.heading.fuel (length j.0)) j.0 j.1.accepted;
  }
  is_covered cover (Err f) bytes j = tt
