-- Which answer is due after files were asked for.
use Rattle.std.proofs.Common.{◌≡◌, ◌<◌, ◌≤◌, ◌⊎◌, List, ℕ, [], ◌∷◌, length, map, Option, None, Some, Bool, true, false, nat_lt, inl, inr, sym, ◌∙◌, ap, refl, subst, arith}
use Rattle.std.proofs.lemmas.Option.{same_Some}
use Rattle.desk_io.specs.Files.{Files, Lacks, file_of, known_at}
use Rattle.log_checker.specs.Checked.{AreOf}
use Rattle.command_line.specs.Answer.{Answer, read_fault, too_large}
use Rattle.command_line.specs.Readings.{Reading, WasRead, first_of, readings_of}
use Rattle.command_line.specs.Run.{Due, IsSilent, Ends, Answers}
use Rattle.command_line.specs.Table.{Source, OfFile, OfFileAlone, OfSources}
use Rattle.command_line.specs.declared.status.Status.{Status}
use Rattle.command_line.specs.declared.status.Status.TheVariants.{WriteFault}

-- ---- an answer that is due
-- the ends of a run whose answer is due
pub given : (held : Option Files) (rose : Type 0) (names : List (List ℕ)) (Of : List Reading → Answer → Type 0) (answer : Answer)
    (out_old out_new notes_old notes_new : Option (List ℕ)) (status : Status)
    → Due held rose names Of answer → Ends answer out_old out_new notes_old notes_new status → Answers held rose names Of out_old out_new notes_old notes_new status
given held rose names Of answer out_old out_new notes_old notes_new status due (inl w) = inl (record { answer = answer; due = due; ends = inl w })
given held rose names Of answer out_old out_new notes_old notes_new status due (inr (inl x)) = inl (record { answer = answer; due = due; ends = inr x })
given held rose names Of answer out_old out_new notes_old notes_new status due (inr (inr n)) = inr n

-- nothing is read
pub due_at_once : (held : Option Files) (rose : Type 0) (Of : List Reading → Answer → Type 0) (answer : Answer) → IsSilent answer → (answer.status ≡ WriteFault → ⊥)
    → Of [] answer → Due held rose [] Of answer
due_at_once held rose Of answer silent proper of = record { silent = silent; proper = proper; readings = []; read = of; told = λ files e. inl of }

-- ---- a file that decides alone
-- the file that was read is the one that is told
told_is : (held : Option Files) (files : Files) (name bytes : List ℕ) → held ≡ Some files → AreOf held name bytes → (Lacks held name → ⊥)
    → file_of files name ≡ Some bytes
told_is held files name bytes e own there = by (file_of files name) refl where
  known : (o : Option (List ℕ)) → file_of files name ≡ o → known_at held name ≡ Some o
  known o f = ap (λ h. known_at h name) e ∙ ap Some f

  by : (o : Option (List ℕ)) → file_of files name ≡ o → file_of files name ≡ Some bytes
  by None f = absurd (there (known None f))
  by (Some file) f = f ∙ ap Some (sym (own file (known (Some file) f)))

lt_true : (m n : ℕ) → m < n → nat_lt m n ≡ true
lt_true m n h = grind arith

large : (most : ℕ) (bytes : List ℕ) (Next : List ℕ → Answer → Type 0) → most < length bytes → OfFile most (Some bytes) Next too_large
large most bytes Next lt =
    subst (λ b. elim b as (λ _. Type 0) [ true ↦ too_large ≡ too_large | false ↦ Next bytes too_large ]) (sym (lt_true most (length bytes) lt)) refl

-- the file has more bytes than it may
pub due_large : (held : Option Files) (rose : Type 0) (name : List ℕ) (most : ℕ) (bytes : List ℕ) → AreOf held name bytes → (Lacks held name → ⊥)
    → most < length bytes → Due held rose (name ∷ []) (λ readings a. OfFileAlone most (first_of readings) a) too_large
due_large held rose name most bytes own there lt = record {
  silent = λ done unproved. refl;
  proper = λ e. cc;
  readings = Some bytes ∷ [];
  read = over;
  told = λ files e. inl (subst (λ o. OfFileAlone most o too_large) (sym (told_is held files name bytes e own there)) over);
}
  where
    over : OfFileAlone most (Some bytes) too_large
    over = large most bytes (λ bytes b. ⊥) lt

fault_by : (held : Option Files) (files : Files) (rose : Type 0) (name : List ℕ) (most : ℕ) → held ≡ Some files → rose ⊎ Lacks held name
    → OfFileAlone most (file_of files name) read_fault ⊎ (rose × (read_fault ≡ read_fault))
fault_by held files rose name most e (inl r) = inr (r, refl)
fault_by held files rose name most e (inr lacks) =
    inl (subst (λ o. OfFileAlone most o read_fault) (sym (same_Some _ _ (sym (ap (λ h. known_at h name) e) ∙ lacks))) refl)

-- the file could not be read
pub due_fault : (held : Option Files) (rose : Type 0) (name : List ℕ) (most : ℕ) → rose ⊎ Lacks held name
    → Due held rose (name ∷ []) (λ readings a. OfFileAlone most (first_of readings) a) read_fault
due_fault held rose name most cause = record {
  silent = λ done unproved. refl;
  proper = λ e. cc;
  readings = None ∷ [];
  read = refl;
  told = λ files e. fault_by held files rose name most e cause;
}

-- ---- what comes next
within : (most : ℕ) (bytes : List ℕ) (Next : List ℕ → Answer → Type 0) (a : Answer) (b : Bool) → nat_lt most (length bytes) ≡ b → length bytes ≤ most → Next bytes a
    → OfFile most (Some bytes) Next a
within most bytes Next a true e fits next = absurd (grind arith)
within most bytes Next a false e fits next =
    subst (λ b. elim b as (λ _. Type 0) [ true ↦ a ≡ too_large | false ↦ Next bytes a ]) (sym e) next

widened_by : (bytes : List ℕ) (Next Next' : List ℕ → Answer → Type 0) (a : Answer) (t : Bool) → (Next bytes a → Next' bytes a)
    → elim t as (λ _. Type 0) [ true ↦ a ≡ too_large | false ↦ Next bytes a ] → elim t as (λ _. Type 0) [ true ↦ a ≡ too_large | false ↦ Next' bytes a ]
widened_by bytes Next Next' a true over e = e
widened_by bytes Next Next' a false over e = over e

-- what comes next says less
pub widened : (most : ℕ) (o : Option (List ℕ)) (Next Next' : List ℕ → Answer → Type 0) (a : Answer) → ((bytes : List ℕ) → Next bytes a → Next' bytes a)
    → OfFile most o Next a → OfFile most o Next' a
widened most None Next Next' a over e = e
widened most (Some bytes) Next Next' a over e = widened_by bytes Next Next' a (nat_lt most (length bytes)) (over bytes) e

-- so it is with files that are read one after another
pub each_widened : (sources : List Source) (Over Over' : List (List ℕ) → Answer → Type 0) → ((files : List (List ℕ)) (a : Answer) → Over files a → Over' files a)
    → (readings : List Reading) (a : Answer) → OfSources sources Over readings a → OfSources sources Over' readings a
each_widened [] Over Over' less readings a over = less [] a over
each_widened (s ∷ sources) Over Over' less [] a over = over
each_widened (s ∷ sources) Over Over' less (reading ∷ readings) a over =
    widened s.most reading (λ bytes b. OfSources sources (λ others c. Over (bytes ∷ others) c) readings b)
    (λ bytes b. OfSources sources (λ others c. Over' (bytes ∷ others) c) readings b) a
    (λ bytes k. each_widened sources (λ others c. Over (bytes ∷ others) c) (λ others c. Over' (bytes ∷ others) c) (λ others c. less (bytes ∷ others) c) readings a k) over

-- where the file alone decides, nothing comes next
pub alone : (most : ℕ) (o : Option (List ℕ)) (Next : List ℕ → Answer → Type 0) (a : Answer) → OfFileAlone most o a → OfFile most o Next a
alone most o Next a e = widened most o (λ bytes b. ⊥) Next a (λ bytes never. absurd never) e

passed : (held : Option Files) (rose rose' : Type 0) (Of Of' : Answer → Type 0) (answer : Answer) → (rose → rose') → (Of answer → Of' answer)
    → Of answer ⊎ (rose × (answer ≡ read_fault)) → Of' answer ⊎ (rose' × (answer ≡ read_fault))
passed held rose rose' Of Of' answer later over (inl of) = inl (over of)
passed held rose rose' Of Of' answer later over (inr r) = inr (later r.0, r.1)

-- what a later stage answers, the whole call answers
pub passed_on : (held held' : Option Files) (rose rose' : Type 0) (names names' : List (List ℕ)) (Of Of' : List Reading → Answer → Type 0)
    (out_old out_new notes_old notes_new : Option (List ℕ)) (status : Status) → held' ≡ held → (rose → rose')
    → ((readings : List Reading) (a : Answer) → Of readings a → (others : List Reading) × Of' others a)
    → ((files : Files) → held ≡ Some files → (a : Answer) → Of (readings_of files names) a → Of' (readings_of files names') a)
    → Answers held' rose names Of out_old out_new notes_old notes_new status → Answers held rose' names' Of' out_old out_new notes_old notes_new status
passed_on held held' rose rose' names names' Of Of' out_old out_new notes_old notes_new status same later read over (inl g) =
    let r = read g.due.readings g.answer g.due.read in
    inl (record {
      answer = g.answer;
      due = record {
        silent = g.due.silent;
        proper = g.due.proper;
        readings = r.0;
        read = r.1;
        told = λ files e.
            passed held rose rose' (Of (readings_of files names)) (Of' (readings_of files names')) g.answer later (over files e g.answer) (g.due.told files (same ∙ e));
      };
      ends = g.ends;
    })
passed_on held held' rose rose' names names' Of Of' out_old out_new notes_old notes_new status same later read over (inr n) = inr n

-- ---- files that are read one after another
abbrev pub names_in : List Source → List (List ℕ)
names_in sources = map (λ (s : Source). s.name) sources

alone_over : (s : Source) (sources : List Source) (Over : List (List ℕ) → Answer → Type 0) (reading : Reading) (readings : List Reading) (a : Answer)
    → OfFileAlone s.most reading a → OfSources (s ∷ sources) Over (reading ∷ readings) a
alone_over s sources Over reading readings a e = alone s.most reading (λ bytes b. OfSources sources (λ others c. Over (bytes ∷ others) c) readings b) a e

-- the first could not be read, or is too large
pub first_decides : (held : Option Files) (rose : Type 0) (s : Source) (sources : List Source) (Over : List (List ℕ) → Answer → Type 0)
    (out_old out_new notes_old notes_new : Option (List ℕ)) (status : Status)
    → Answers held rose (s.name ∷ []) (λ readings a. OfFileAlone s.most (first_of readings) a) out_old out_new notes_old notes_new status
    → Answers held rose (names_in (s ∷ sources)) (OfSources (s ∷ sources) Over) out_old out_new notes_old notes_new status
first_decides held rose s sources Over out_old out_new notes_old notes_new status answered =
    passed_on held held rose rose (s.name ∷ []) (names_in (s ∷ sources)) (λ readings a. OfFileAlone s.most (first_of readings) a) (OfSources (s ∷ sources) Over)
    out_old out_new notes_old notes_new status refl (λ r. r)
    (λ readings a e. (first_of readings ∷ [], alone_over s sources Over (first_of readings) [] a e))
    (λ files e a. alone_over s sources Over (file_of files s.name) (readings_of files (names_in sources)) a)
    answered

behind : (held : Option Files) (s : Source) (sources : List Source) (Over : List (List ℕ) → Answer → Type 0) (bytes : List ℕ) (readings : List Reading) (a : Answer)
    → WasRead held s.name s.most bytes → OfSources sources (λ others c. Over (bytes ∷ others) c) readings a
    → OfSources (s ∷ sources) Over (Some bytes ∷ readings) a
behind held s sources Over bytes readings a was over =
    within s.most bytes (λ bytes b. OfSources sources (λ others c. Over (bytes ∷ others) c) readings b) a (nat_lt s.most (length bytes)) refl was.fits over

-- the first was read, and what comes next sees its bytes
pub first_read : (held held' : Option Files) (rose rose' : Type 0) (s : Source) (sources : List Source) (Over : List (List ℕ) → Answer → Type 0) (bytes : List ℕ)
    (out_old out_new notes_old notes_read notes_new : Option (List ℕ)) (status : Status) → WasRead held s.name s.most bytes
    → held' ≡ held → (rose → rose') → notes_read ≡ notes_old
    → Answers held' rose (names_in sources) (OfSources sources (λ others c. Over (bytes ∷ others) c)) out_old out_new notes_read notes_new status
    → Answers held rose' (names_in (s ∷ sources)) (OfSources (s ∷ sources) Over) out_old out_new notes_old notes_new status
first_read held held' rose rose' s sources Over bytes out_old out_new notes_old notes_read notes_new status was same later unsaid answered =
    passed_on held held' rose rose' (names_in sources) (names_in (s ∷ sources)) (OfSources sources (λ others c. Over (bytes ∷ others) c)) (OfSources (s ∷ sources) Over)
    out_old out_new notes_old notes_new status same later
    (λ readings a over. (Some bytes ∷ readings, behind held s sources Over bytes readings a was over))
    (λ files e a over.
    subst (λ (o : Reading). OfSources (s ∷ sources) Over (o ∷ readings_of files (names_in sources)) a) (sym (told_is held files s.name bytes e was.own was.there))
    (behind held s sources Over bytes (readings_of files (names_in sources)) a was over))
    (subst (λ n. Answers held' rose (names_in sources) (OfSources sources (λ others c. Over (bytes ∷ others) c)) out_old out_new n notes_new status) unsaid answered)

-- the only file was read, and an answer over its bytes is given
pub read_and_given : (held : Option Files) (rose : Type 0) (s : Source) (bytes : List ℕ) (Over : List (List ℕ) → Answer → Type 0) (answer : Answer)
    (out_old out_new notes_old notes_read notes_new : Option (List ℕ)) (status : Status)
    → IsSilent answer → (answer.status ≡ WriteFault → ⊥) → Over (bytes ∷ []) answer → WasRead held s.name s.most bytes → notes_read ≡ notes_old
    → Ends answer out_old out_new notes_read notes_new status
    → Answers held rose (s.name ∷ []) (OfSources (s ∷ []) Over) out_old out_new notes_old notes_new status
read_and_given held rose s bytes Over answer out_old out_new notes_old notes_read notes_new status silent proper over was unsaid ends =
    first_read held held rose rose s [] Over bytes out_old out_new notes_old notes_read notes_new status was refl (λ r. r) unsaid
    (given held rose [] (OfSources [] (λ others c. Over (bytes ∷ others) c)) answer out_old out_new notes_read notes_new status
    (due_at_once held rose (OfSources [] (λ others c. Over (bytes ∷ others) c)) answer silent proper over) ends)
