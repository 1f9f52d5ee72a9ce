-- The answer that is due where a log was checked.
use Rattle.std.proofs.Common.{◌≡◌, ◌⊎◌, ℕ, List, [], ◌∷◌, get_or, map, Option, None, Some, Result, Ok, Err, Bool, true, false, inl, inr, refl, sym, ◌∙◌, ap, subst}
use Rattle.poly_model.specs.declared.limits.TheConstants.{MOST_LOG_BYTES}
use Rattle.desk_io.specs.Files.{Files}
use Rattle.gcl_reader.specs.declared.limits.TheConstants.{MOST_BYTES}
use Rattle.gcl_reader.specs.declared.refusal.GclFault.{GclFault}
use Rattle.gcl_reader.specs.declared.refusal.Refusal.{Refusal}
use Rattle.algebraize.specs.Equations.{Equations}
use Rattle.algebraize.specs.Formed.{equations}
use Rattle.proof_steps.specs.declared.problem.Problem.{Problem}
use Rattle.log_checker.specs.Against as checker
use Rattle.log_checker.specs.declared.checking.Checked.{Checked}
use Rattle.command_line.specs.Answer.{Answer, refused}
use Rattle.command_line.specs.Checking.{stated_in, other_problems}
use Rattle.command_line.specs.Found.{Finds, WasFound, answer_of, Compares, IsAnswerBehind, IsAnswerFor}
use Rattle.command_line.specs.Readings.{Reading, WasRead, first_of, readings_of}
use Rattle.command_line.specs.Run.{Ends, Whole, CutOff, Nothing, Answers, GivesOne}
use Rattle.command_line.specs.Table.{CheckOf, Source, source, OfFileAlone, OfSources, IsAnswerOver, IsAnswerOf, names_of}
use Rattle.command_line.specs.declared.checking.Found.{Found}
use Rattle.command_line.specs.declared.checking.Found.TheVariants as found
use Rattle.command_line.specs.declared.status.Status.{Status}
use Rattle.command_line.proofs.Dues.{names_in, passed_on, each_widened, first_decides, first_read, read_and_given}
use Rattle.command_line.proofs.Found.{IsFit, silent_found, proper_found, checked_of, compared_of}

-- ---- whether a log has the problems of a file
abbrev problem_with : Equations → Problem
problem_with e = record { vars = e.variables; hyps = e.hypotheses; cons = e.conclusions }

problems_back : (ps : List Problem) → map problem_with (map equations ps) ≡ ps
problems_back [] = refl
problems_back (p ∷ ps) = ap (λ qs. p ∷ qs) (problems_back ps)

-- problems with the same equations are the same
one_problem : (ps qs : List Problem) → map equations ps ≡ map equations qs → ps ≡ qs
one_problem ps qs e = sym (problems_back ps) ∙ ap (map problem_with) e ∙ problems_back qs

pub compared_accepted : (f : Found) (c : Checked) (r : Result Bool GclFault) (read : Result (List Equations) Refusal) → f ≡ found.Accepted c
    → checker.Compares c.problems r read → Compares f r read
compared_accepted f c (Ok has) read is h =
    subst (λ g. Compares g (Ok has) read) (sym is)
    (map equations h.0, h.1, ((λ t. ap (map equations) (h.2.0 t)), (λ e. h.2.1 (one_problem c.problems h.0 e))))
compared_accepted f c (Err fault) read is h = h

-- ---- what is given
pub gives : (Is : Answer → Type 0) (a : Answer) (out_old out_new notes_old notes_new : Option (List ℕ)) (status : Status) → Is a
    → Ends a out_old out_new notes_old notes_new status → GivesOne Is out_old out_new notes_old notes_new status
gives Is a out_old out_new notes_old notes_new status is (inl w) = inl (a, is, inl w)
gives Is a out_old out_new notes_old notes_new status is (inr (inl x)) = inl (a, is, inr x)
gives Is a out_old out_new notes_old notes_new status is (inr (inr n)) = inr n

-- the log has the problems of the file, if it is accepted
pub has_them : (read : Result (List Equations) Refusal) (file : List ℕ) (f : Found) → Compares f (Ok true) read → IsAnswerFor read file f (answer_of f)
has_them read file f h = subst (λ r. IsAnswerFor r file f (answer_of f)) (sym h.1) (inl (h.2.0 refl, refl))

pub has_others : (read : Result (List Equations) Refusal) (file : List ℕ) (f : Found) → Compares f (Ok false) read → IsAnswerFor read file f other_problems
has_others read file f h = subst (λ r. IsAnswerFor r file f other_problems) (sym h.1) (inr ((λ has. let e = h.2.1 has in cc), refl))

pub has_none : (read : Result (List Equations) Refusal) (file : List ℕ) (f : Found) (refusal : Refusal) → read ≡ Err refusal
    → IsAnswerFor read file f (refused file refusal)
has_none read file f refusal e = subst (λ r. IsAnswerFor r file f (refused file refusal)) (sym e) refl

-- the only file was read, and one of the answers over its bytes is given
pub read_and_one_given : (held : Option Files) (rose : Type 0) (s : Source) (bytes : List ℕ) (Over : List (List ℕ) → Answer → Type 0)
    (out_old out_new notes_old notes_read notes_new : Option (List ℕ)) (status : Status) → ((a : Answer) → Over (bytes ∷ []) a → IsFit a)
    → WasRead held s.name s.most bytes → notes_read ≡ notes_old → GivesOne (Over (bytes ∷ [])) out_old out_new notes_read notes_new status
    → Answers held rose (s.name ∷ []) (OfSources (s ∷ []) Over) out_old out_new notes_old notes_new status
read_and_one_given held rose s bytes Over out_old out_new notes_old notes_read notes_new status fit was unsaid (inl (a, is, ends)) =
    read_and_given held rose s bytes Over a out_old out_new notes_old notes_read notes_new status (fit a is).silent (fit a is).proper is was unsaid (by ends)
  where
    by : Whole a out_old out_new notes_read notes_new status ⊎ CutOff a out_old out_new notes_read notes_new status → Ends a out_old out_new notes_read notes_new status
    by (inl w) = inl w
    by (inr x) = inr (inl x)
read_and_one_given held rose s bytes Over out_old out_new notes_old notes_read notes_new status fit was unsaid (inr n) =
    inr (subst (λ n. Nothing out_old out_new n notes_new status) unsaid n)

-- ---- forms
-- the log alone decides
pub log_decides : (held : Option Files) (rose : Type 0) (log : List ℕ) (file : Option (List ℕ)) (out_old out_new notes_old notes_new : Option (List ℕ)) (status : Status)
    → Answers held rose (log ∷ []) (λ readings a. OfFileAlone MOST_LOG_BYTES (first_of readings) a) out_old out_new notes_old notes_new status
    → Answers held rose (names_of (Some (CheckOf log file))) (IsAnswerOf (Some (CheckOf log file))) out_old out_new notes_old notes_new status
log_decides held rose log None out_old out_new notes_old notes_new status answered =
    first_decides held rose (source log MOST_LOG_BYTES) [] (IsAnswerOver (CheckOf log None)) out_old out_new notes_old notes_new status answered
log_decides held rose log (Some name) out_old out_new notes_old notes_new status answered =
    first_decides held rose (source log MOST_LOG_BYTES) (source name MOST_BYTES ∷ []) (IsAnswerOver (CheckOf log (Some name)))
    out_old out_new notes_old notes_new status answered

-- what is found of the log is answered
pub log_given : (held : Option Files) (rose : Type 0) (log : List ℕ) (file : Option (List ℕ)) (f : Found)
    (out_old out_new notes_old notes_read notes_new : Option (List ℕ)) (status : Status) → file ≡ None → WasFound held log f → notes_read ≡ notes_old
    → Ends (answer_of f) out_old out_new notes_read notes_new status
    → Answers held rose (names_of (Some (CheckOf log file))) (IsAnswerOf (Some (CheckOf log file))) out_old out_new notes_old notes_new status
log_given held rose log file f out_old out_new notes_old notes_read notes_new status none was unsaid ends =
    subst (λ n. Answers held rose (names_of (Some (CheckOf log n))) (IsAnswerOf (Some (CheckOf log n))) out_old out_new notes_old notes_new status) (sym none)
    (read_and_given held rose (source log MOST_LOG_BYTES) was.log (IsAnswerOver (CheckOf log None)) (answer_of f)
    out_old out_new notes_old notes_read notes_new status (silent_found f) (proper_found f) (checked_of f was.log was.finds) was.read unsaid ends)

-- what is found of the log decides, with the files that are read behind it
pub found_given : (held held' : Option Files) (rose rose' : Type 0) (log : List ℕ) (sources : List Source) (f : Found) (Behind Over : List (List ℕ) → Answer → Type 0)
    (out_old out_new notes_old notes_read notes_new : Option (List ℕ)) (status : Status) → (was : WasFound held log f)
    → ((files : List (List ℕ)) (a : Answer) → Behind files a → Over (was.log ∷ files) a) → held' ≡ held → (rose → rose') → notes_read ≡ notes_old
    → Answers held' rose (names_in sources) (OfSources sources Behind) out_old out_new notes_read notes_new status
    → Answers held rose' (names_in (source log MOST_LOG_BYTES ∷ sources)) (OfSources (source log MOST_LOG_BYTES ∷ sources) Over) out_old out_new notes_old notes_new status
found_given held held' rose rose' log sources f Behind Over out_old out_new notes_old notes_read notes_new status was over same later unsaid answered =
    first_read held held' rose rose' (source log MOST_LOG_BYTES) sources Over was.log out_old out_new notes_old notes_read notes_new status was.read same later unsaid
    (passed_on held' held' rose rose (names_in sources) (names_in sources) (OfSources sources Behind) (OfSources sources (λ others b. Over (was.log ∷ others) b))
    out_old out_new notes_read notes_new status refl (λ r. r)
    (λ readings a k. (readings, each_widened sources Behind (λ others b. Over (was.log ∷ others) b) over readings a k))
    (λ files e a k. each_widened sources Behind (λ others b. Over (was.log ∷ others) b) over (readings_of files (names_in sources)) a k)
    answered)

-- and so it is of a log that is to have the problems of a file
pub compared_given : (held held' : Option Files) (rose rose' : Type 0) (log name : List ℕ) (file : Option (List ℕ)) (f : Found)
    (out_old out_new notes_old notes_read notes_new : Option (List ℕ)) (status : Status) → file ≡ Some name → WasFound held log f
    → held' ≡ held → (rose → rose') → notes_read ≡ notes_old
    → Answers held' rose (name ∷ []) (OfSources (source name MOST_BYTES ∷ []) (IsAnswerBehind f)) out_old out_new notes_read notes_new status
    → Answers held rose' (names_of (Some (CheckOf log file))) (IsAnswerOf (Some (CheckOf log file))) out_old out_new notes_old notes_new status
compared_given held held' rose rose' log name file f out_old out_new notes_old notes_read notes_new status some was same later unsaid answered =
    subst (λ n. Answers held rose' (names_of (Some (CheckOf log n))) (IsAnswerOf (Some (CheckOf log n))) out_old out_new notes_old notes_new status) (sym some)
    (found_given held held' rose rose' log (source name MOST_BYTES ∷ []) f (IsAnswerBehind f) (IsAnswerOver (CheckOf log (Some name)))
    out_old out_new notes_old notes_read notes_new status was
    (λ files a k. compared_of f was.log (get_or files 0 []) (stated_in (get_or files 0 [])) a was.finds k) same later unsaid answered)
