-- What is found of a log, and the answers to it.
use Rattle.std.proofs.Common.{◌≡◌, ℕ, List, [], ◌∷◌, length, map, Result, Ok, Err, IsTrue, inl, inr, true, refl, sym, ◌∙◌, ap, subst}
use Rattle.std.specs.List.{list_all, AllByRecursion}
use Rattle.std.proofs.lemmas.Bool.{and_parts}
use Rattle.std.proofs.lemmas.List.Elements.{All-from_recursion}
use Rattle.poly_model.specs.Domain.{Operations}
use Rattle.poly_model.specs.Polynomial.{Polynomial, is_over}
use Rattle.gcl_reader.specs.declared.refusal.Refusal.{Refusal}
use Rattle.algebraize.specs.Equations.{Equations}
use Rattle.algebraize.specs.Formed.{equations}
use Rattle.proof_steps.specs.declared.problem.Problem.{Problem}
use Rattle.verdicts.specs.declared.verdict.Verdict.{Verdict}
use Rattle.verdicts.specs.declared.verdict.Verdict.TheVariants as verdict
use Rattle.assurance.specs.Polynomials.{of_verdict}
use Rattle.proof_log.specs.Own.{IsOver, VerdictIsOver}
use Rattle.proof_log.specs.declared.log.Proof.{Proof}
use Rattle.log_checker.specs.Answers.{Accepted, Malformed, Rejected}
use Rattle.log_checker.specs.Checked.{AreAssured}
use Rattle.log_checker.specs.declared.checking.Checked.{Checked}
use Rattle.command_line.specs.Answer.{Answer, text_answer}
use Rattle.command_line.specs.Checking.{IsChecked, IsComparedWith, assured_text}
use Rattle.command_line.specs.Found.{Finds, answer_of, IsAnswerFor, AreOver}
use Rattle.command_line.specs.Run.{IsSilent}
use Rattle.command_line.specs.VerdictLines.{problems_in, verdicts_in}
use Rattle.command_line.specs.declared.checking.Found.{Found}
use Rattle.command_line.specs.declared.checking.Found.TheVariants as found
use Rattle.command_line.specs.declared.status.Status.TheVariants.{WriteFault}
use Rattle.command_line.proofs.Table.{silent_text}

-- ---- only the variables of its problem occur in a verdict
each_over : (n : ℕ) (ps : List Polynomial) → list_all (is_over n) ps ≡ true → AllByRecursion (IsOver n) ps
each_over n [] h = tt
each_over n (p ∷ ps) h = let parts = and_parts (is_over n p) (list_all (is_over n) ps) h in (parts.0, each_over n ps parts.1)

verdict_over : (n : ℕ) (v : Verdict) → IsTrue (list_all (is_over n) (of_verdict v)) → VerdictIsOver n v
verdict_over n verdict.Proved h = tt
verdict_over n (verdict.Under cs) h = All-from_recursion (IsOver n) cs (each_over n cs h)
verdict_over n (verdict.NotProved path k r) h = (each_over n (r ∷ []) h).0
verdict_over n (verdict.Degenerate path) h = tt
verdict_over n (verdict.Left path why) h = tt

pub over_of : {M : Type 0} (o : Operations M) (ps : List Problem) (vs : List Verdict) → AreAssured o ps vs → AreOver ps vs
over_of o [] [] h = tt
over_of o [] (v ∷ vs) h = tt
over_of o (p ∷ ps) [] h = tt
over_of o (p ∷ ps) (v ∷ vs) h = (verdict_over (length p.vars) v h.0.verdict, over_of o ps vs h.1)

-- ---- answers
pub silent_found : (f : Found) → IsSilent (answer_of f)
silent_found (found.Accepted c) = silent_text (assured_text c.problems c.verdicts)
silent_found (found.Malformed n) = λ done unproved. refl
silent_found (found.Rejected n w) = λ done unproved. refl

pub proper_found : (f : Found) → (answer_of f).status ≡ WriteFault → ⊥
proper_found (found.Accepted c) = λ e. cc
proper_found (found.Malformed n) = λ e. cc
proper_found (found.Rejected n w) = λ e. cc

-- An answer that has no bytes on out unless it is done, and whose status is not that of a failed put.
pub record IsFit (a : Answer) : Type 0 where
  pub silent : IsSilent a
  pub proper : a.status ≡ WriteFault → ⊥

pub fit_for : (read : Result (List Equations) Refusal) (file : List ℕ) (f : Found) (a : Answer) → IsAnswerFor read file f a → IsFit a
fit_for (Ok stated) file f a (inl h) = subst IsFit (sym h.1) (record { silent = silent_found f; proper = proper_found f })
fit_for (Ok stated) file f a (inr h) = subst IsFit (sym h.1) (record { silent = λ done unproved. refl; proper = λ e. cc })
fit_for (Err refusal) file f a h = subst IsFit (sym h) (record { silent = λ done unproved. refl; proper = λ e. cc })

-- what is found of the bytes of a log decides
told_text : (c : Checked) (proofs : List Proof) → c.problems ≡ problems_in proofs → c.verdicts ≡ verdicts_in proofs
    → text_answer (assured_text c.problems c.verdicts) ≡ text_answer (assured_text (problems_in proofs) (verdicts_in proofs))
told_text c proofs p v = ap (λ ps. text_answer (assured_text ps c.verdicts)) p ∙ ap (λ vs. text_answer (assured_text (problems_in proofs) vs)) v

pub checked_of : (f : Found) (log : List ℕ) → Finds f log → IsChecked log (answer_of f)
checked_of (found.Accepted c) log h = record { finding = Accepted h.0; found = h.1; answer = told_text c h.0 h.2.problems h.2.verdicts }
checked_of (found.Malformed n) log h = record { finding = Malformed n; found = h; answer = refl }
checked_of (found.Rejected n w) log h = record { finding = Rejected n w; found = h; answer = refl }

pub compared_of : (f : Found) (log file : List ℕ) (read : Result (List Equations) Refusal) (a : Answer) → Finds f log → IsAnswerFor read file f a → IsComparedWith read log file a
compared_of (found.Accepted c) log file (Ok stated) a h (inl k) = record {
  finding = Accepted h.0;
  found = h.1;
  answer = inl (ap (map equations) (sym h.2.problems) ∙ k.0, k.1 ∙ told_text c h.0 h.2.problems h.2.verdicts);
}
compared_of (found.Accepted c) log file (Ok stated) a h (inr k) = record {
  finding = Accepted h.0;
  found = h.1;
  answer = inr ((λ has. k.0 (ap (map equations) h.2.problems ∙ has)), k.1);
}
compared_of (found.Malformed n) log file (Ok stated) a h k = record { finding = Malformed n; found = h; answer = k }
compared_of (found.Rejected n w) log file (Ok stated) a h k = record { finding = Rejected n w; found = h; answer = k }
compared_of f log file (Err refusal) a h k = k
