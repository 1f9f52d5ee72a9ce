-- A check that is done is of an assured log, and what `prove` writes is assured.
use Rattle.std.proofs.Common.{◌≡◌, ◌≤◌, ◌⊎◌, ℕ, List, [], ◌∷◌, length, map, Option, None, Some, Result, Ok, Err, Bool, true, false, nat_lt, inl, inr, refl, sym, ◌∙◌, ap, subst, arith}
use Rattle.std.specs.List.{AllByRecursion}
use Rattle.std.proofs.lemmas.Bool.Decides.{nat_tests}
use Rattle.std.proofs.lemmas.List.Elements.{recursion_from_All}
use Rattle.std.proofs.lemmas.Option.{same_Some}
use Rattle.std.specs.Io.KnownBytes.{append_known}
use Rattle.poly_model.specs.Domain.{Operations, integers}
use Rattle.poly_model.specs.declared.limits.TheConstants.{MOST_LOG_BYTES}
use Rattle.desk_io.specs.Files.{Files, Holds, file_of}
use Rattle.gcl_reader.specs.declared.limits.TheConstants.{MOST_BYTES}
use Rattle.gcl_reader.specs.declared.refusal.Refusal.{Refusal}
use Rattle.gcl_reader.proofs.Bind.{bind-ok}
use Rattle.gcl_names.specs.Program.{program_of}
use Rattle.algebraize.specs.Equations.{Equations}
use Rattle.algebraize.specs.Formed.{equations}
use Rattle.algebraize.specs.Problem.{problems_of}
use Rattle.assurance.specs.Assured.{TreesCover, VerdictsHold}
use Rattle.prove_run.specs.Logs.{newest}
use Rattle.prove_run.proofs.Proved.{newest-known}
use Rattle.prove_run.proofs.Written.{are-proofs}
use Rattle.proof_log.specs.declared.log.Proof.{Proof}
use Rattle.log_checker.specs.Checked.{AreOf}
use Rattle.log_checker.specs.Answers.{Finding, Accepted, Malformed, Rejected, IsFound, IsAcceptedText}
use Rattle.prove_run.specs.Whole.{HasCounts}
use Rattle.command_line.specs.Answer.{Answer, read_fault, too_large, text_answer, answer_from}
use Rattle.placement.specs.Carrying.{CarriedIsMet}
use Rattle.command_line.specs.Carrying.{IsCarried, posed_in}
use Rattle.command_line.specs.Checking.{answer_to, IsChecked, HasProblems, IsCheckedAgainst, IsCompared, IsComparedWith, stated_in}
use Rattle.command_line.specs.Figures.{IsAssuredOf}
use Rattle.command_line.specs.Headline.{Headline, IsWritten, ProvesOf, ShowsProofs, ShowsLog, ShowsFigures, ShowsCarried, assured_lines, assured_so, ProvedIsAssured}
use Rattle.command_line.specs.Readings.{Reading, readings_of}
use Rattle.command_line.specs.Run.{Due, Whole, CutOff, Answers}
use Rattle.command_line.specs.Proving.{proofs_of, log_text, proved}
use Rattle.command_line.specs.Table.{Form, TextOf, ProveOf, CheckOf, CarryOf, TrialOf, source, OfFile, OfSources, IsAnswerOver, IsAnswerOf, names_of}
use Rattle.command_line.specs.VerdictLines.{problems_in}
use Rattle.command_line.specs.declared.status.Status.{Status}
use Rattle.command_line.specs.declared.status.Status.TheVariants.{Done, WriteFault, OutOfMemory}
use Rattle.command_line.proofs.Assured.{spelled, log_assured}
use Rattle.command_line.proofs.CarriedFigures.{carries}
use Rattle.command_line.proofs.Figures.{AllMean, figures_hold}
use Rattle.command_line.proofs.FileLogs.{IsSure, log-sure, log-stated}
use Rattle.command_line.proofs.Single.{carried_with_one}

-- ---- files that were read
-- The file of an answer that has a log on out was read.
record Opened (most : ℕ) (o : Option (List ℕ)) (Next : List ℕ → Answer → Type 0) (a : Answer) : Type 0 where
  bytes : List ℕ
  held : o ≡ Some bytes
  fits : nat_lt most (length bytes) ≡ false
  next : Next bytes a

not_read_fault : IsWritten read_fault.status → ⊥
not_read_fault (inl e) = cc
not_read_fault (inr e) = cc

not_too_large : IsWritten too_large.status → ⊥
not_too_large (inl e) = cc
not_too_large (inr e) = cc

opened : (most : ℕ) (o : Option (List ℕ)) (Next : List ℕ → Answer → Type 0) (a : Answer) → OfFile most o Next a → IsWritten a.status → Opened most o Next a
opened most None Next a e log = absurd (not_read_fault (subst (λ (b : Answer). IsWritten b.status) e log))
opened most (Some bytes) Next a over log = by (nat_lt most (length bytes)) refl over where
  by : (t : Bool) → nat_lt most (length bytes) ≡ t → elim t as (λ _. Type 0) [ true ↦ a ≡ too_large | false ↦ Next bytes a ] → Opened most (Some bytes) Next a
  by true t e = absurd (not_too_large (subst (λ (b : Answer). IsWritten b.status) e log))
  by false t next = record { bytes = bytes; held = refl; fits = t; next = next }

of_bytes : (most : ℕ) (o : Option (List ℕ)) (bytes : List ℕ) (Next : List ℕ → Answer → Type 0) (a : Answer) → o ≡ Some bytes
    → nat_lt most (length bytes) ≡ false → Next bytes a → OfFile most o Next a
of_bytes most o bytes Next a held fits next =
    subst (λ f. OfFile most f Next a) (sym held) (subst (λ t. elim t as (λ _. Type 0) [ true ↦ a ≡ too_large | false ↦ Next bytes a ]) (sym fits) next)

-- ---- what was found of a log that is accepted
record WasAccepted (log : List ℕ) (finding : Finding) (a : Answer) : Type 0 where
  proofs : List Proof
  text : IsAcceptedText proofs log
  is : finding ≡ Accepted proofs
  out : a.out ≡ assured_lines proofs

was_accepted : (log : List ℕ) (finding : Finding) (a : Answer) → IsFound finding log → a ≡ answer_to finding → a.status ≡ Done → WasAccepted log finding a
was_accepted log (Accepted proofs) a found e done = record { proofs = proofs; text = found; is = refl; out = ap (λ (b : Answer). b.out) e }
was_accepted log (Malformed n) a found e done = let h = sym (ap (λ (b : Answer). b.status) e) ∙ done in cc
was_accepted log (Rejected n w) a found e done = let h = sym (ap (λ (b : Answer). b.status) e) ∙ done in cc

record WasCompared (read : Result (List Equations) Refusal) (log out : List ℕ) : Type 0 where
  proofs : List Proof
  text : IsAcceptedText proofs log
  stated : read ≡ Ok (map equations (problems_in proofs))
  told : out ≡ assured_lines proofs

of_stated : (stated : List Equations) (log : List ℕ) (a : Answer) → IsCompared stated log a → a.status ≡ Done → WasCompared (Ok stated) log a.out
of_stated stated log a c done = elim c.answer [
  | inl p ↦ let w = was_accepted log c.finding a c.found p.1 done in
      record { proofs = w.proofs; text = w.text; stated = ap Ok (sym (subst (HasProblems stated) w.is p.0)); told = w.out }
  | inr p ↦ let h = sym (ap (λ (b : Answer). b.status) p.1) ∙ done in cc
]

was_compared : (read : Result (List Equations) Refusal) (log file : List ℕ) (a : Answer) → IsComparedWith read log file a → a.status ≡ Done
    → WasCompared read log a.out
was_compared (Ok stated) log file a c done = of_stated stated log a c done
was_compared (Err refusal) log file a e done = let h = sym (ap (λ (b : Answer). b.status) e) ∙ done in cc

-- ---- what was read
-- The readings over which an answer is given that is no read fault: where the desk tells its files, they are theirs.
record Chosen (held : Option Files) (names : List (List ℕ)) (Of : List Reading → Answer → Type 0) (a : Answer) : Type 0 where
  readings : List Reading
  over : Of readings a
  own : (files : Files) → held ≡ Some files → readings ≡ readings_of files names

chosen : (held : Option Files) (rose : Type 0) (names : List (List ℕ)) (Of : List Reading → Answer → Type 0) (a : Answer) → Due held rose names Of a
    → IsWritten a.status → Chosen held names Of a
chosen None rose names Of a due written = record { readings = due.readings; over = due.read; own = λ files e. cc }
chosen (Some files) rose names Of a due written = by (due.told files refl) where
  by : Of (readings_of files names) a ⊎ (rose × (a ≡ read_fault)) → Chosen (Some files) names Of a
  by (inl over) = record { readings = readings_of files names; over = over; own = λ others e. ap (λ (f : Files). readings_of f names) (same_Some files others e) }
  by (inr fault) = absurd (not_read_fault (subst (λ (b : Answer). IsWritten b.status) fault.1 written))

-- The answer of a run whose text was written whole.
record Written (held : Option Files) (names : List (List ℕ)) (Of : List Reading → Answer → Type 0) (out_old out_new : Option (List ℕ)) (status : Status) : Type 0 where
  answer : Answer
  is : answer.status ≡ status
  out : out_new ≡ append_known out_old answer.out
  read : Chosen held names Of answer

not_written_fault : IsWritten WriteFault → ⊥
not_written_fault (inl e) = cc
not_written_fault (inr e) = cc

not_written_memory : IsWritten OutOfMemory → ⊥
not_written_memory (inl e) = cc
not_written_memory (inr e) = cc

was_written : (held : Option Files) (rose : Type 0) (names : List (List ℕ)) (Of : List Reading → Answer → Type 0)
    (out_old out_new notes_old notes_new : Option (List ℕ)) (status : Status)
    → Answers held rose names Of out_old out_new notes_old notes_new status → IsWritten status → Written held names Of out_old out_new status
was_written held rose names Of out_old out_new notes_old notes_new status (inl g) written = by g.ends where
  by : Whole g.answer out_old out_new notes_old notes_new status ⊎ CutOff g.answer out_old out_new notes_old notes_new status
      → Written held names Of out_old out_new status
  by (inl w) = record {
    answer = g.answer;
    is = sym w.status_is;
    out = w.out;
    read = chosen held rose names Of g.answer g.due (subst IsWritten w.status_is written);
  }
  by (inr x) = absurd (not_written_fault (subst IsWritten x.status_is written))
was_written held rose names Of out_old out_new notes_old notes_new status (inr n) written = absurd (not_written_memory (subst IsWritten n.status_is written))

held_of : (held : Option Files) (name file : List ℕ) → Holds held name file → (files : Files) × (held ≡ Some files) × (file_of files name ≡ Some file)
held_of None name file h = cc
held_of (Some files) name file h = (files, refl, same_Some _ _ h)

abbrev OwnReadings : Option Files → List (List ℕ) → List Reading → Type 0
OwnReadings held names readings = (files : Files) → held ≡ Some files → readings ≡ readings_of files names

-- the bytes that were read first are the file's
first_own : (held : Option Files) (name : List ℕ) (names : List (List ℕ)) (reading : Reading) (readings : List Reading) (bytes : List ℕ)
    → OwnReadings held (name ∷ names) (reading ∷ readings) → reading ≡ Some bytes → AreOf held name bytes
first_own held name names reading readings bytes own is = λ file holds.
    let f = held_of held name file holds in
    let same : reading ≡ file_of f.0 name = let e = own f.0 f.1 in cc in
    same_Some bytes file (sym is ∙ same ∙ f.2)

others_own : (held : Option Files) (name : List ℕ) (names : List (List ℕ)) (reading : Reading) (readings : List Reading)
    → OwnReadings held (name ∷ names) (reading ∷ readings) → OwnReadings held names readings
others_own held name names reading readings own = λ files e. let same = own files e in cc

-- ---- what is proved
pub accepted_text : (proofs : List Proof) → IsSure proofs → IsAcceptedText proofs (log_text proofs)
accepted_text proofs sure = record {
  heading = newest;
  stated = newest-known.stated;
  fits = record { proofs = are-proofs proofs (recursion_from_All HasCounts proofs sure.whole.counts); written = sure.whole.written };
  lines = sure.whole.lines;
  own = sure.whole.own;
  text = refl;
  accepted = sure.accepted;
}

record WasProved (bytes : List ℕ) (a : Answer) : Type 0 where
  proofs : List Proof
  made : proofs_of bytes ≡ Ok proofs
  is : a ≡ proved proofs

was_proved : (bytes : List ℕ) (made : Result (List Proof) Refusal) (a : Answer) → proofs_of bytes ≡ made
    → a ≡ answer_from proved bytes made → IsWritten a.status → WasProved bytes a
was_proved bytes (Ok proofs) a of e log = record { proofs = proofs; made = of; is = e }
was_proved bytes (Err refusal) a of e (inl s) = let h = sym (ap (λ (b : Answer). b.status) e) ∙ s in cc
was_proved bytes (Err refusal) a of e (inr s) = let h = sym (ap (λ (b : Answer). b.status) e) ∙ s in cc

not_longer : (a b : ℕ) → a ≤ b → nat_lt b a ≡ false
not_longer a b le = grind (arith, nat_tests)

-- what `check` answers to the log of a file
checked_alone : (proofs : List Proof) → IsSure proofs → (log : List ℕ)
    → IsAnswerOf (Some (CheckOf log None)) (Some (log_text proofs) ∷ []) (text_answer (assured_lines proofs))
checked_alone proofs sure log =
    let text = log_text proofs in
    let a = text_answer (assured_lines proofs) in
    let alone : IsChecked text a = record { finding = Accepted proofs; found = accepted_text proofs sure; answer = refl } in
    of_bytes MOST_LOG_BYTES (Some text) text (λ bytes b. IsChecked bytes b) a refl (not_longer (length text) MOST_LOG_BYTES sure.whole.bytes) alone

checked_against : (source : List ℕ) (proofs : List Proof) → nat_lt MOST_BYTES (length source) ≡ false → proofs_of source ≡ Ok proofs → IsSure proofs
    → (log file : List ℕ)
    → IsAnswerOf (Some (CheckOf log (Some file))) (Some (log_text proofs) ∷ Some source ∷ []) (text_answer (assured_lines proofs))
checked_against source proofs fits made sure log file =
    let text = log_text proofs in
    let a = text_answer (assured_lines proofs) in
    let against : IsComparedWith (Ok (map equations (problems_in proofs))) text source a =
    record { finding = Accepted proofs; found = accepted_text proofs sure; answer = inl (refl, refl) } in
    let compared : IsCheckedAgainst text source a = subst (λ s. IsComparedWith s text source a) (sym (log-stated source proofs made)) against in
    of_bytes MOST_LOG_BYTES (Some text) text (λ bytes b. OfFile MOST_BYTES (Some source) (λ other c. IsCheckedAgainst bytes other c) b) a refl
    (not_longer (length text) MOST_LOG_BYTES sure.whole.bytes)
    (of_bytes MOST_BYTES (Some source) source (λ other c. IsCheckedAgainst text other c) a refl fits compared)

pub proved_assured : ProvedIsAssured
proved_assured files file log a h has there =
    let r = opened MOST_BYTES (file_of files file) _ a h has in
    let p = was_proved r.bytes (proofs_of r.bytes) a refl r.next has in
    let proofs = p.proofs in
    let sure = log-sure r.bytes proofs p.made in
    let told : text_answer (assured_lines proofs) ≡ assured_so a.notes = ap (λ (b : Answer). assured_so b.notes) (sym p.is) in
    let held : Some (log_text proofs) ≡ file_of files log = ap (λ (b : Answer). Some b.out) (sym p.is) ∙ sym there in
    let alone = checked_alone proofs sure log in
    let against = checked_against r.bytes proofs r.fits p.made sure log file in (
      subst (λ (o : Reading). IsAnswerOf (Some (CheckOf log None)) (o ∷ []) (assured_so a.notes)) held
          (subst (IsAnswerOf (Some (CheckOf log None)) (Some (log_text proofs) ∷ [])) told alone),
      subst (λ (o : Reading). IsAnswerOf (Some (CheckOf log (Some file))) (o ∷ file_of files file ∷ []) (assured_so a.notes)) held
          (subst (λ (o : Reading). IsAnswerOf (Some (CheckOf log (Some file))) (Some (log_text proofs) ∷ o ∷ []) (assured_so a.notes)) (sym r.held)
          (subst (IsAnswerOf (Some (CheckOf log (Some file))) (Some (log_text proofs) ∷ Some r.bytes ∷ [])) told against)),
    )

-- ---- a figure that was carried
-- What is known over the whole numbers.
pub record OfWholeNumbers : Type 0 where
  pub cover : TreesCover integers
  pub hold : VerdictsHold integers
  pub mean : AllMean integers
  pub met : CarriedIsMet

module _ (whole : OfWholeNumbers) (held : Option Files) (out_old out_new : Option (List ℕ)) (status : Status) (log file figure : List ℕ) where
  carried_shown : status ≡ Done → Written held (log ∷ file ∷ figure ∷ []) (IsAnswerOf (Some (CarryOf log file figure))) out_old out_new status
      → ShowsCarried held log file figure out_old out_new
  carried_shown done w = by w.read.readings w.read.over w.read.own where
    has : IsWritten w.answer.status
    has = inl (w.is ∙ done)

    shown : (bytes text drawn : List ℕ) → AreOf held log bytes → AreOf held file text → AreOf held figure drawn → IsCarried bytes text drawn w.answer
        → ShowsCarried held log file figure out_old out_new
    shown bytes text drawn log_own file_own own h =
        let c = carries whole.cover whole.hold whole.mean whole.met bytes text drawn w.answer h (w.is ∙ done) in
        record {
          bytes = bytes;
          source = text;
          drawn = drawn;
          own = log_own;
          file_own = file_own;
          figure_own = own;
          shown = c;
          text = w.out ∙ ap (λ (a : Answer). append_known out_old a.out) (carried_with_one (posed_in text) bytes text drawn w.answer _ h c.text);
        }

    last : (bytes text : List ℕ) → AreOf held log bytes → AreOf held file text → (readings : List Reading)
        → OfSources (source figure MOST_BYTES ∷ []) (λ others b. IsAnswerOver (CarryOf log file figure) (bytes ∷ text ∷ others) b) readings w.answer
        → OwnReadings held (figure ∷ []) readings → ShowsCarried held log file figure out_old out_new
    last bytes text log_own file_own [] over own = absurd over
    last bytes text log_own file_own (reading ∷ readings) over own =
        let t = opened MOST_BYTES reading _ w.answer over has in
        shown bytes text t.bytes log_own file_own (first_own held figure [] reading readings t.bytes own t.held) t.next

    behind : (bytes : List ℕ) → AreOf held log bytes → (readings : List Reading)
        → OfSources (source file MOST_BYTES ∷ source figure MOST_BYTES ∷ []) (λ others b. IsAnswerOver (CarryOf log file figure) (bytes ∷ others) b) readings w.answer
        → OwnReadings held (file ∷ figure ∷ []) readings → ShowsCarried held log file figure out_old out_new
    behind bytes log_own [] over own = absurd over
    behind bytes log_own (reading ∷ readings) over own =
        let q = opened MOST_BYTES reading _ w.answer over has in
        last bytes q.bytes log_own (first_own held file (figure ∷ []) reading readings q.bytes own q.held) readings q.next
        (others_own held file (figure ∷ []) reading readings own)

    by : (readings : List Reading) → IsAnswerOf (Some (CarryOf log file figure)) readings w.answer → OwnReadings held (log ∷ file ∷ figure ∷ []) readings
        → ShowsCarried held log file figure out_old out_new
    by [] over own = absurd over
    by (reading ∷ readings) over own =
        let r = opened MOST_LOG_BYTES reading _ w.answer over has in
        behind r.bytes (first_own held log (file ∷ figure ∷ []) reading readings r.bytes own r.held) readings r.next
        (others_own held log (file ∷ figure ∷ []) reading readings own)

-- ---- the headline
module _ {M : Type 0} (o : Operations M) (cover : TreesCover o) (hold : VerdictsHold o) (mean : AllMean o) where
  of_file : (log file : List ℕ) (proofs : List Proof) → IsAcceptedText proofs log → stated_in file ≡ Ok (map equations (problems_in proofs)) → IsAssuredOf o log file
  unfolding stated_in
  of_file log file proofs text stated =
      let p = bind-ok (program_of file) (λ program. problems_of program.acts) (map equations (problems_in proofs)) stated in
      let assured = log_assured o cover hold log proofs text in
      let same : proofs ≡ assured.proofs = assured.only proofs (spelled log proofs text) in
      record {
        program = p.0;
        read = p.1;
        assured = assured;
        figures = figures_hold o mean p.0.acts assured.proofs (p.2 ∙ ap (λ ps. Ok (map equations (problems_in ps))) same) assured.assured;
      }

  proves_of : (source : List ℕ) (proofs : List Proof) → nat_lt MOST_BYTES (length source) ≡ false → proofs_of source ≡ Ok proofs → ProvesOf o source
  proves_of source proofs fits made =
      let sure = log-sure source proofs made in
      record {
        proofs = proofs;
        made = made;
        assured = of_file (log_text proofs) source proofs (accepted_text proofs sure) (log-stated source proofs made);
        checks = checked_alone proofs sure;
        compares = checked_against source proofs fits made sure;
      }

  -- ---- by the form
  module _ (held : Option Files) (out_old out_new : Option (List ℕ)) (status : Status) where
    proofs_shown : (file : List ℕ) → IsWritten status → Written held (file ∷ []) (IsAnswerOf (Some (ProveOf file))) out_old out_new status
        → ShowsProofs o held file out_old out_new
    unfolding proves_of was_proved
    proofs_shown file written w = by w.read.readings w.read.over w.read.own where
      has : IsWritten w.answer.status
      has = subst IsWritten (sym w.is) written

      by : (readings : List Reading) → IsAnswerOf (Some (ProveOf file)) readings w.answer → OwnReadings held (file ∷ []) readings → ShowsProofs o held file out_old out_new
      by [] over own = absurd over
      by (reading ∷ readings) over own =
          let r = opened MOST_BYTES reading _ w.answer over has in
          let p = was_proved r.bytes (proofs_of r.bytes) w.answer refl r.next has in
          record {
            source = r.bytes;
            own = first_own held file [] reading readings r.bytes own r.held;
            shown = proves_of r.bytes p.proofs r.fits p.made;
            text = w.out ∙ ap (λ (a : Answer). append_known out_old a.out) p.is;
          }

    log_shown : (log : List ℕ) → status ≡ Done → Written held (log ∷ []) (IsAnswerOf (Some (CheckOf log None))) out_old out_new status → ShowsLog o held log out_old out_new
    log_shown log done w = by w.read.readings w.read.over w.read.own where
      by : (readings : List Reading) → IsAnswerOf (Some (CheckOf log None)) readings w.answer → OwnReadings held (log ∷ []) readings → ShowsLog o held log out_old out_new
      by [] over own = absurd over
      by (reading ∷ readings) over own =
          let r = opened MOST_LOG_BYTES reading _ w.answer over (inl (w.is ∙ done)) in
          let a = was_accepted r.bytes r.next.finding w.answer r.next.found r.next.answer (w.is ∙ done) in
          let shown = log_assured o cover hold r.bytes a.proofs a.text in
          record {
            bytes = r.bytes;
            own = first_own held log [] reading readings r.bytes own r.held;
            shown = shown;
            text = w.out ∙ ap (append_known out_old) (a.out ∙ ap assured_lines (shown.only a.proofs (spelled r.bytes a.proofs a.text)));
          }

    figures_shown : (log file : List ℕ) → status ≡ Done → Written held (log ∷ file ∷ []) (IsAnswerOf (Some (CheckOf log (Some file)))) out_old out_new status
        → ShowsFigures o held log file out_old out_new
    figures_shown log file done w = by w.read.readings w.read.over w.read.own where
      has : IsWritten w.answer.status
      has = inl (w.is ∙ done)

      behind : (bytes : List ℕ) → AreOf held log bytes → (readings : List Reading)
          → OfSources (source file MOST_BYTES ∷ []) (λ others b. IsAnswerOver (CheckOf log (Some file)) (bytes ∷ others) b) readings w.answer
          → OwnReadings held (file ∷ []) readings → ShowsFigures o held log file out_old out_new
      behind bytes log_own [] over own = absurd over
      behind bytes log_own (reading ∷ readings) over own =
          let q = opened MOST_BYTES reading _ w.answer over has in
          let c = was_compared (stated_in q.bytes) bytes q.bytes w.answer q.next (w.is ∙ done) in
          let shown = of_file bytes q.bytes c.proofs c.text c.stated in
          record {
            bytes = bytes;
            source = q.bytes;
            own = log_own;
            file_own = first_own held file [] reading readings q.bytes own q.held;
            shown = shown;
            text = w.out ∙ ap (append_known out_old) (c.told ∙ ap assured_lines (shown.assured.only c.proofs (spelled bytes c.proofs c.text)));
          }

      by : (readings : List Reading) → IsAnswerOf (Some (CheckOf log (Some file))) readings w.answer → OwnReadings held (log ∷ file ∷ []) readings
          → ShowsFigures o held log file out_old out_new
      by [] over own = absurd over
      by (reading ∷ readings) over own =
          let r = opened MOST_LOG_BYTES reading _ w.answer over has in
          behind r.bytes (first_own held log (file ∷ []) reading readings r.bytes own r.held) readings r.next (others_own held log (file ∷ []) reading readings own)

  pub headline : OfWholeNumbers → (form : Option Form) (held : Option Files) (rose : Type 0) (out_old out_new notes_old notes_new : Option (List ℕ)) (status : Status)
      → Answers held rose (names_of form) (IsAnswerOf form) out_old out_new notes_old notes_new status → Headline o form held out_old out_new status
  headline whole None held rose out_old out_new notes_old notes_new status answered = tt
  headline whole (Some (TextOf command file)) held rose out_old out_new notes_old notes_new status answered = tt
  headline whole (Some (TrialOf number)) held rose out_old out_new notes_old notes_new status answered = tt
  headline whole (Some (ProveOf file)) held rose out_old out_new notes_old notes_new status answered = λ written.
      proofs_shown held out_old out_new status file written
      (was_written held rose (file ∷ []) (IsAnswerOf (Some (ProveOf file))) out_old out_new notes_old notes_new status answered written)
  headline whole (Some (CheckOf log None)) held rose out_old out_new notes_old notes_new status answered = λ done.
      log_shown held out_old out_new status log done
      (was_written held rose (log ∷ []) (IsAnswerOf (Some (CheckOf log None))) out_old out_new notes_old notes_new status answered (inl done))
  headline whole (Some (CheckOf log (Some file))) held rose out_old out_new notes_old notes_new status answered = λ done.
      figures_shown held out_old out_new status log file done
      (was_written held rose (log ∷ file ∷ []) (IsAnswerOf (Some (CheckOf log (Some file)))) out_old out_new notes_old notes_new status answered (inl done))
  headline whole (Some (CarryOf log file figure)) held rose out_old out_new notes_old notes_new status answered = λ done.
      carried_shown whole held out_old out_new status log file figure done
      (was_written held rose (log ∷ file ∷ figure ∷ []) (IsAnswerOf (Some (CarryOf log file figure))) out_old out_new notes_old notes_new status answered (inl done))
