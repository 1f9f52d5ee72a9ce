-- Trials: the number that a word tells, and that the file of a number has a log, which is accepted.
use Rattle.std.proofs.Common.{◌≡◌, ◌<◌, ◌≤◌, ◌⊎◌, inl, inr, ◌+◌, ℕ, List, [], ◌∷◌, Option, None, Some, Err, Bool, true, false, ◌&&◌, nat_lt, refl, sym, ◌∙◌, ap, arith}
use Rattle.std.specs.Prelude.{if◌then◌else◌, decimal}
use Rattle.std.specs.Str.{bytes_eq}
use Rattle.std.specs.Str.Parse.{digits_value}
use Rattle.std.proofs.lemmas.Bool.{and_parts}
use Rattle.std.proofs.lemmas.Bool.Decides.{nat_tests}
use Rattle.std.proofs.lemmas.Fmt.{decimal_is_IsNumeral}
use Rattle.std.proofs.lemmas.List.Sums.{sum_by-cons}
use Rattle.std.proofs.lemmas.Slice.Eq.{bytes_eq-Decides}
use Rattle.gcl_reader.specs.declared.refusal.Refusal.{Refusal}
use Rattle.verdicts.specs.declared.verdict.Verdict.{Verdict}
use Rattle.verdicts.specs.declared.verdict.Verdict.TheVariants as verdict
use Rattle.proof_log.specs.declared.log.Proof.{Proof}
use Rattle.log_checker.specs.Answers.{Accepted, Malformed, Rejected}
use Rattle.log_checker.specs.Checked.{Judged}
use Rattle.log_checker.specs.declared.fault.CheckFault.{CheckFault}
use Rattle.log_checker.specs.declared.fault.CheckFault.TheVariants as fault
use Rattle.log_checker.proofs.Exact.{one_finding}
use Rattle.trial_file.specs.Accepted.{IsAccepted, TrialsAreAccepted}
use Rattle.trial_file.specs.Trial.{trial_text}
use Rattle.desk_io.specs.Causes.{Rose}
use Rattle.command_line.specs.Answer.{answer_from, text_answer}
use Rattle.command_line.specs.Contract.{Views, IsRun, IsQuiet, lent}
use Rattle.command_line.specs.Proving.{log_text}
use Rattle.command_line.specs.Run.{Ends}
use Rattle.command_line.specs.Table.{TrialOf, IsAnswerOf, trial_number}
use Rattle.command_line.specs.Trials.{is_other, is_proved, is_under, one_if, trial_of, verdicts_of}
use Rattle.command_line.specs.declared.numbers.TheConstants.{TRIALS}
use Rattle.command_line.specs.declared.status.Status.{Status}
use Rattle.command_line.specs.declared.status.Status.TheVariants.{Done, Usage, ReadFault, WriteFault, OutOfMemory}
use Rattle.command_line.proofs.Dues.{given, due_at_once}
use Rattle.command_line.proofs.FileLogs.{IsSure}
use Rattle.command_line.proofs.Headline.{accepted_text}
use Rattle.command_line.proofs.Runs.{run_of}
use Rattle.command_line.proofs.Table.{silent_text, silent_from, proper_text, proper_from}

-- ---- the number of a word
-- The word is the decimal text of a number.
pub number-told : (word : List ℕ) (n : ℕ) → n < TRIALS → word ≡ decimal n → trial_number word ≡ Some n
number-told word n few is =
    let value : digits_value 10 word ≡ n = ap (digits_value 10) is ∙ (decimal_is_IsNumeral n (omega (arith, few))).1 in
    let low : nat_lt n TRIALS ≡ true = grind (arith, nat_tests, few) in
    let same : bytes_eq word (decimal n) ≡ true = (bytes_eq-Decides word (decimal n)).1 is in
    rw (value, low, same) refl

-- It is none of a number.
by-test : (n : ℕ) (b : Bool) → (b ≡ true → ⊥) → ◌≡◌ {A = Option ℕ} (if b then Some n else None) None
by-test n true never = absurd (never refl)
by-test n false never = refl

pub none-told : (word : List ℕ) → ((n : ℕ) → n < TRIALS → word ≡ decimal n → ⊥) → trial_number word ≡ None
none-told word never =
    let n = digits_value 10 word in
    by-test n (nat_lt n TRIALS && bytes_eq word (decimal n)) (λ passed.
    let parts = and_parts (nat_lt n TRIALS) (bytes_eq word (decimal n)) passed in
    never n (grind (arith, nat_tests, parts.0)) ((bytes_eq-Decides word (decimal n)).0 parts.1))

-- ---- the verdicts
-- One proof more.
pub counts-next : (kind : Verdict → Bool) (proof : Proof) (proofs : List Proof) → verdicts_of kind (proof ∷ proofs) ≡ one_if (kind proof.verdict) + verdicts_of kind proofs
counts-next kind proof proofs = sum_by-cons (λ (p : Proof). one_if (kind p.verdict)) proof proofs

-- Each verdict is of one kind.
pub one-kind : (v : Verdict) → one_if (is_proved v) + one_if (is_under v) + one_if (is_other v) ≡ 1
unfolding is_proved is_under is_other
one-kind verdict.Proved = refl
one-kind (verdict.Under cs) = refl
one-kind (verdict.NotProved path k r) = refl
one-kind (verdict.Degenerate path) = refl
one-kind (verdict.Left path reason) = refl

-- ---- the log
-- No fault is found of the text of a log that is accepted.
pub no-fault : (proofs : List Proof) (bytes : List ℕ) (f : CheckFault) → IsSure proofs → bytes ≡ log_text proofs → Judged (Err f) bytes → f ≡ fault.OutOfMemory
no-fault proofs bytes (fault.Malformed n) sure is judged =
    let accepted = accepted_text proofs sure in
    let same = one_finding (log_text proofs) (Accepted proofs) (Malformed n) accepted (rw (← is) judged) in cc
no-fault proofs bytes (fault.Rejected n w) sure is judged =
    let accepted = accepted_text proofs sure in
    let same = one_finding (log_text proofs) (Accepted proofs) (Rejected n w) accepted (rw (← is) judged) in cc
no-fault proofs bytes fault.ReadFault sure is judged = absurd judged
no-fault proofs bytes fault.TooLarge sure is judged = absurd judged
no-fault proofs bytes fault.OutOfMemory sure is judged = refl

-- ---- the file
-- No file of a number is refused.
program-given : (n : ℕ) (r : Refusal) → IsAccepted (trial_text n) → trial_of n ≡ Err r → ⊥
unfolding trial_of
program-given n r accepted refused =
    let made = rw (accepted.resolved, accepted.stated) at refused in cc

pub never-refused : TrialsAreAccepted → (n : ℕ) (r : Refusal) → trial_of n ≡ Err r → ⊥
never-refused accepted n r refused = program-given n r (accepted n) refused

-- ---- the run
quiet-out : {S : Type 0} (out new : S) (status : Status) → (status ≡ Done) ⊎ (status ≡ WriteFault) ⊎ (status ≡ OutOfMemory) → (status ≡ OutOfMemory → new ≡ out)
    → IsQuiet status → new ≡ out
quiet-out out new status (inl e) untouched quiet = absurd (quiet.0 e)
quiet-out out new status (inr (inl e)) untouched quiet = absurd (quiet.2 e)
quiet-out out new status (inr (inr e)) untouched quiet = untouched e

no-usage : (status : Status) → (status ≡ Done) ⊎ (status ≡ WriteFault) ⊎ (status ≡ OutOfMemory) → status ≡ Usage → ⊥
no-usage status (inl e) f = let h = sym e ∙ f in cc
no-usage status (inr (inl e)) f = let h = sym e ∙ f in cc
no-usage status (inr (inr e)) f = let h = sym e ∙ f in cc

no-read_fault : (status : Status) → (status ≡ Done) ⊎ (status ≡ WriteFault) ⊎ (status ≡ OutOfMemory) → status ≡ ReadFault → ⊥
no-read_fault status (inl e) f = let h = sym e ∙ f in cc
no-read_fault status (inr (inl e)) f = let h = sym e ∙ f in cc
no-read_fault status (inr (inr e)) f = let h = sym e ∙ f in cc

-- A call that tells what comes of a number, and has neither desk nor notes, promises what is asked of a run.
pub trial-runs : {K S N : Type 0} (v : Views K S N) (desk : K) (out new : S) (notes : N) (n : ℕ) (status : Status)
    → Ends (answer_from text_answer (trial_text n) (trial_of n)) (v.written out) (v.written new) (v.said notes) (v.said notes) status
    → (status ≡ Done) ⊎ (status ≡ WriteFault) ⊎ (status ≡ OutOfMemory)
    → (status ≡ WriteFault → Rose (v.out_faults out) (v.out_faults new)) → (status ≡ OutOfMemory → new ≡ out) → v.out_faults out ≤ v.out_faults new
    → IsRun v (lent desk out notes) (lent desk new notes) (Some (TrialOf n)) status
trial-runs v desk out new notes n status ends one write_fault untouched later =
    let held = v.held desk in
    let rose = Rose (v.desk_faults desk) (v.desk_faults desk) in
    let answer = answer_from text_answer (trial_text n) (trial_of n) in
    run_of v (lent desk out notes) (lent desk new notes) (TrialOf n) status
    (given held rose [] (IsAnswerOf (Some (TrialOf n))) answer _ _ _ _ status
    (due_at_once held rose (IsAnswerOf (Some (TrialOf n))) answer (silent_from text_answer (trial_text n) (trial_of n) silent_text)
    (proper_from text_answer (trial_text n) (trial_of n) proper_text) refl) ends)
    (no-usage status one) (λ e. absurd (no-read_fault status one e)) (λ put. inl (write_fault put)) (quiet-out out new status one untouched) (λ e. refl) refl
    (omega arith, later, omega arith)
