-- The answer that is due where a figure is carried.
use Rattle.std.proofs.Common.{◌≡◌, ◌≤◌, ◌<◌, ◌+◌, ℕ, List, [], ◌∷◌, length, get_or, map, Option, Some, Result, Ok, Err, Bool, IsTrue, true, false, inl, inr, refl, sym, ◌∙◌, ap, subst, arith}
use Rattle.std.specs.Prelude.{ℤ, ◌↔◌, ◌⊎◌}
use Rattle.std.proofs.lemmas.List.{length-map}
use Rattle.desk_io.specs.Files.{Files}
use Rattle.gcl_reader.specs.Figure.{figure_of}
use Rattle.gcl_reader.specs.declared.limits.TheConstants.{MOST_BYTES}
use Rattle.gcl_reader.specs.declared.refusal.Refusal.{Refusal}
use Rattle.gcl_names.specs.Sound.{Counts, IsSound}
use Rattle.gcl_names.specs.declared.program.Act.{Act}
use Rattle.gcl_names.specs.declared.program.Program.{Program}
use Rattle.algebraize.specs.Equations.{Equations}
use Rattle.algebraize.specs.Figure.{Figure}
use Rattle.algebraize.specs.Formed.{equations}
use Rattle.algebraize.specs.Problem.{problems_of, proves_in}
use Rattle.algebraize.proofs.Proves.{counted}
use Rattle.proof_steps.specs.declared.problem.Problem.{Problem}
use Rattle.verdicts.specs.declared.verdict.Verdict.{Verdict}
use Rattle.proof_log.specs.declared.log.Proof.{Proof}
use Rattle.log_checker.specs.Answers.{Accepted, Malformed, Rejected}
use Rattle.log_checker.specs.declared.checking.Checked.{Checked}
use Rattle.placement.specs.Carrying.{carried_of}
use Rattle.command_line.specs.Answer.{Answer, refused, text_answer}
use Rattle.command_line.specs.Carrying.{Posed, IsCarriedBy, IsCarriedFor, IsCarriedWith, all_carried, carried_text, posed_in}
use Rattle.command_line.specs.CarryStages.{AreFew, IsCarriedBehind, IsCarriedFound, IsDrawnFor, IsToldFor, told_answer}
use Rattle.command_line.specs.Checking.{other_problems}
use Rattle.command_line.specs.Found.{Compares, Finds, Has, WasFound}
use Rattle.command_line.specs.Run.{Answers, GivesOne}
use Rattle.command_line.specs.Statuses.{IsComparingStatus, IsReadingFault}
use Rattle.command_line.specs.Table.{CarryOf, OfSources, IsAnswerOf, IsAnswerOver, names_of, source}
use Rattle.command_line.specs.VerdictLines.{problems_in, verdicts_in}
use Rattle.command_line.specs.declared.checking.Found.{Found}
use Rattle.command_line.specs.declared.checking.Found.TheVariants as found
use Rattle.command_line.specs.declared.status.Status.{Status}
use Rattle.command_line.specs.declared.status.Status.TheVariants.{Unproved, Usage}
use Rattle.command_line.proofs.Checks.{found_given}
use Rattle.command_line.proofs.Figures.{problems-length}
use Rattle.command_line.proofs.Found.{IsFit}
use Rattle.command_line.proofs.Table.{silent_text}

-- ---- answers that can be given
fit_answer : (acts : List Act) (f : Figure ℤ) (x : Found) → IsFit (told_answer acts f x)
fit_answer acts f (found.Accepted c) = record { silent = silent_text (carried_text acts f c.problems c.verdicts); proper = λ e. cc }
fit_answer acts f (found.Malformed n) = record { silent = λ done unproved. refl; proper = λ e. cc }
fit_answer acts f (found.Rejected n w) = record { silent = λ done unproved. refl; proper = λ e. cc }

fit_refused : (bytes : List ℕ) (refusal : Refusal) → IsFit (refused bytes refusal)
fit_refused bytes refusal = record { silent = λ done unproved. refl; proper = λ e. cc }

fit_told : (p : Posed) (f : Figure ℤ) (x : Found) (a : Answer) → IsToldFor p f x a → IsFit a
fit_told p f x a (inl h) = subst IsFit (sym h.1) (fit_answer p.program.acts f x)
fit_told p f x a (inr h) = subst IsFit (sym h.1) (record { silent = λ done unproved. refl; proper = λ e. cc })

fit_drawn : (p : Posed) (drawn : Result (Figure ℤ) Refusal) (figure : List ℕ) (x : Found) (a : Answer) → IsDrawnFor p drawn figure x a → IsFit a
fit_drawn p (Ok f) figure x a h = fit_told p f x a h
fit_drawn p (Err refusal) figure x a h = subst IsFit (sym h) (fit_refused figure refusal)

pub fit_found : (read : Result Posed Refusal) (file figure : List ℕ) (x : Found) (a : Answer) → IsCarriedFound read file figure x a → IsFit a
fit_found (Ok p) file figure x a h = fit_drawn p (figure_of p.program.points figure) figure x a h
fit_found (Err refusal) file figure x a h = subst IsFit (sym h) (fit_refused file refusal)

-- ---- what is found of the bytes of a log decides
told_text : (acts : List Act) (f : Figure ℤ) (c : Checked) (proofs : List Proof) → c.problems ≡ problems_in proofs → c.verdicts ≡ verdicts_in proofs
    → text_answer (carried_text acts f c.problems c.verdicts) ≡ text_answer (carried_text acts f (problems_in proofs) (verdicts_in proofs))
told_text acts f c proofs p v =
    ap (λ ps. text_answer (carried_text acts f ps c.verdicts)) p ∙ ap (λ vs. text_answer (carried_text acts f (problems_in proofs) vs)) v

carried_by : (p : Posed) (f : Figure ℤ) (x : Found) (log : List ℕ) (a : Answer) → Finds x log → IsToldFor p f x a → IsCarriedBy p f log a
carried_by p f (found.Accepted c) log a h (inl k) = record {
  finding = Accepted h.0;
  found = h.1;
  answer = inl (ap (map equations) (sym h.2.problems) ∙ k.0, k.1 ∙ told_text p.program.acts f c h.0 h.2.problems h.2.verdicts);
}
carried_by p f (found.Accepted c) log a h (inr k) = record {
  finding = Accepted h.0;
  found = h.1;
  answer = inr ((λ has. k.0 (ap (map equations) h.2.problems ∙ has)), k.1);
}
carried_by p f (found.Malformed n) log a h k = record { finding = Malformed n; found = h; answer = k }
carried_by p f (found.Rejected n w) log a h k = record { finding = Rejected n w; found = h; answer = k }

carried_for : (p : Posed) (drawn : Result (Figure ℤ) Refusal) (x : Found) (log figure : List ℕ) (a : Answer) → Finds x log → IsDrawnFor p drawn figure x a
    → IsCarriedFor p drawn log figure a
carried_for p (Ok f) x log figure a h k = carried_by p f x log a h k
carried_for p (Err refusal) x log figure a h k = k

carried_with : (read : Result Posed Refusal) (x : Found) (log file figure : List ℕ) (a : Answer) → Finds x log → IsCarriedFound read file figure x a
    → IsCarriedWith read log file figure a
carried_with (Ok p) x log file figure a h k = carried_for p (figure_of p.program.points figure) x log figure a h k
carried_with (Err refusal) x log file figure a h k = k

-- ---- which answer it is
pub told_others : (p : Posed) (f : Figure ℤ) (x : Found) → (IsTrue false ↔ Has p.stated x) → IsToldFor p f x other_problems
told_others p f x h = inr ((λ has. let e = h.1 has in cc), refl)

pub told_found : (p : Posed) (f : Figure ℤ) (x : Found) → (IsTrue true ↔ Has p.stated x) → IsToldFor p f x (told_answer p.program.acts f x)
told_found p f x h = inl (h.0 refl, refl)

-- the answer to what is found, by whether it has the problems
pub told_not : (p : Posed) (f : Figure ℤ) (x : Found) (has : Bool) → has ≡ false → (IsTrue has ↔ Has p.stated x) → IsToldFor p f x other_problems
told_not p f x has e h = told_others p f x (subst (λ b. IsTrue b ↔ Has p.stated x) e h)

pub told_so : (p : Posed) (f : Figure ℤ) (x y : Found) (has : Bool) → has ≡ true → (IsTrue has ↔ Has p.stated x) → x ≡ y
    → IsToldFor p f x (told_answer p.program.acts f y)
told_so p f x y has e h is =
    subst (λ z. IsToldFor p f x (told_answer p.program.acts f z)) is (told_found p f x (subst (λ b. IsTrue b ↔ Has p.stated x) e h))

-- a figure that was read decides what is told, and so does one that is refused
pub drawn_read : (p : Posed) (drawn : Result (Figure ℤ) Refusal) (f : Figure ℤ) (figure : List ℕ) (x : Found)
    (out_old out_new notes_old notes_new : Option (List ℕ)) (status : Status) → drawn ≡ Ok f
    → GivesOne (IsToldFor p f x) out_old out_new notes_old notes_new status
    → GivesOne (IsDrawnFor p drawn figure x) out_old out_new notes_old notes_new status
drawn_read p drawn f figure x out_old out_new notes_old notes_new status is h =
    subst (λ r. GivesOne (IsDrawnFor p r figure x) out_old out_new notes_old notes_new status) (sym is) h

pub drawn_refused : (p : Posed) (drawn : Result (Figure ℤ) Refusal) (figure : List ℕ) (x : Found) (refusal : Refusal) → drawn ≡ Err refusal
    → IsDrawnFor p drawn figure x (refused figure refusal)
drawn_refused p drawn figure x refusal is = subst (λ r. IsDrawnFor p r figure x (refused figure refusal)) (sym is) refl

-- and so does a file
pub posed_read : (read : Result Posed Refusal) (p : Posed) (file figure : List ℕ) (x : Found)
    (out_old out_new notes_old notes_new : Option (List ℕ)) (status : Status) → read ≡ Ok p
    → GivesOne (IsDrawnFor p (figure_of p.program.points figure) figure x) out_old out_new notes_old notes_new status
    → GivesOne (IsCarriedFound read file figure x) out_old out_new notes_old notes_new status
posed_read read p file figure x out_old out_new notes_old notes_new status is h =
    subst (λ r. GivesOne (IsCarriedFound r file figure x) out_old out_new notes_old notes_new status) (sym is) h

pub posed_refused : (read : Result Posed Refusal) (file figure : List ℕ) (x : Found) (refusal : Refusal) → read ≡ Err refusal
    → IsCarriedFound read file figure x (refused file refusal)
posed_refused read file figure x refusal is = subst (λ r. IsCarriedFound r file figure x (refused file refusal)) (sym is) refl

-- an accepted log with the problems of a program has few
pub few_problems : (x : Found) (program : Program) (stated : List Equations) → IsSound program → problems_of program.acts ≡ Ok stated → Has stated x → AreFew x
few_problems (found.Accepted c) program stated sound is has =
    let a = length-map c.problems equations in
    let b = ap length has in
    let n = problems-length program.acts (proves_in program.acts) 0 stated is in
    let m = counted program.acts program.proves (ap (λ (k : Counts). k.proves) sound.counts) in
    omega (arith, a, b, n, m, sound.proves)
few_problems (found.Malformed n) program stated sound is has = tt
few_problems (found.Rejected n w) program stated sound is has = tt

pub few_compared : (x : Found) (program : Program) (has : Bool) → IsSound program → Compares x (Ok has) (problems_of program.acts) → IsTrue has → AreFew x
few_compared x program has sound h same = few_problems x program h.0 sound h.1 (h.2.0 same)

-- ---- files that are read one after another
-- what is found of a log, with a file and a figure behind it
pub carried_given : (held held' : Option Files) (rose rose' : Type 0) (log file figure : List ℕ) (f : Found)
    (out_old out_new notes_old notes_read notes_new : Option (List ℕ)) (status : Status) → WasFound held log f
    → held' ≡ held → (rose → rose') → notes_read ≡ notes_old
    → Answers held' rose (file ∷ figure ∷ []) (OfSources (source file MOST_BYTES ∷ source figure MOST_BYTES ∷ []) (IsCarriedBehind f))
    out_old out_new notes_read notes_new status
    → Answers held rose' (names_of (Some (CarryOf log file figure))) (IsAnswerOf (Some (CarryOf log file figure))) out_old out_new notes_old notes_new status
carried_given held held' rose rose' log file figure f out_old out_new notes_old notes_read notes_new status was same later unsaid answered =
    found_given held held' rose rose' log (source file MOST_BYTES ∷ source figure MOST_BYTES ∷ []) f (IsCarriedBehind f) (IsAnswerOver (CarryOf log file figure))
    out_old out_new notes_old notes_read notes_new status was
    (λ files a k. carried_with (posed_in (get_or files 0 [])) f was.log (get_or files 0 []) (get_or files 1 []) a was.finds k) same later unsaid answered

-- ---- statuses
one_of : (s : Status) → IsReadingFault s ⊎ IsComparingStatus s → (t : Status) → s ≡ t → IsReadingFault t ⊎ IsComparingStatus t
one_of s h t e = subst (λ r. IsReadingFault r ⊎ IsComparingStatus r) e h

pub no_usage : (s : Status) → IsReadingFault s ⊎ IsComparingStatus s → (s ≡ Usage → ⊥) × (s ≡ Unproved → ⊥)
no_usage s h = ((λ e. none (one_of s h Usage e)), (λ e. never (one_of s h Unproved e))) where
  none : IsReadingFault Usage ⊎ IsComparingStatus Usage → ⊥
  none (inl (inl e)) = cc
  none (inl (inr (inl e))) = cc
  none (inl (inr (inr (inl e)))) = cc
  none (inl (inr (inr (inr e)))) = cc
  none (inr (inl (inl e))) = cc
  none (inr (inl (inr (inl e)))) = cc
  none (inr (inl (inr (inr (inl e))))) = cc
  none (inr (inl (inr (inr (inr e))))) = cc
  none (inr (inr e)) = cc

  never : IsReadingFault Unproved ⊎ IsComparingStatus Unproved → ⊥
  never (inl (inl e)) = cc
  never (inl (inr (inl e))) = cc
  never (inl (inr (inr (inl e)))) = cc
  never (inl (inr (inr (inr e)))) = cc
  never (inr (inl (inl e))) = cc
  never (inr (inl (inr (inl e)))) = cc
  never (inr (inl (inr (inr (inl e))))) = cc
  never (inr (inl (inr (inr (inr e))))) = cc
  never (inr (inr e)) = cc

-- ---- what verdicts tell, one after another
pub first_carried : (acts : List Act) (f : Figure ℤ) (k : ℕ) (problems others : List Problem) (verdicts more : List Verdict) (p : Problem) (v : Verdict)
    → problems ≡ p ∷ others → verdicts ≡ v ∷ more
    → all_carried acts f k problems verdicts ≡ carried_of acts k f p v ∷ all_carried acts f (k + 1) others more
first_carried acts f k problems others verdicts more p v e g = ap (λ ps. all_carried acts f k ps verdicts) e ∙ ap (all_carried acts f k (p ∷ others)) g

pub none_carried : (acts : List Act) (f : Figure ℤ) (k : ℕ) (problems : List Problem) (verdicts : List Verdict) → verdicts ≡ [] → all_carried acts f k problems verdicts ≡ []
none_carried acts f k [] verdicts e = refl
none_carried acts f k (p ∷ ps) verdicts e = ap (all_carried acts f k (p ∷ ps)) e

pub end_carried : (acts : List Act) (f : Figure ℤ) (k : ℕ) (problems : List Problem) (verdicts : List Verdict) → problems ≡ [] → all_carried acts f k problems verdicts ≡ []
end_carried acts f k problems verdicts e = ap (λ ps. all_carried acts f k ps verdicts) e
