-- The table of forms: what the words of a command line ask for, and what the program answers over the files that they name.
use Rattle.std.specs.Prelude.{◌≡◌, ℕ, zero, suc, ◌+◌, List, [], ◌∷◌, length, get_or, map, Option, Some, None, true, false, cond, if◌then◌else◌, ◌&&◌, nat_lt, codes, decimal}
use Rattle.std.specs.Str.{bytes_eq}
use Rattle.std.specs.Str.Parse.{digits_value}
use Rattle.desk_io.specs.Files.{Files}
use Rattle.gcl_reader.specs.declared.limits.TheConstants.{MOST_BYTES}
use Rattle.poly_model.specs.declared.limits.TheConstants.{MOST_LOG_BYTES}
use Rattle.prove_run.specs.declared.many.TheConstants.{MOST_WORKERS}
use Rattle.command_line.specs.Answer.{Answer, usage, read_fault, too_large, text_answer, answer_from}
use Rattle.command_line.specs.Command.{Command}
use Rattle.command_line.specs.Readings.{Reading, readings_of}
use Rattle.command_line.specs.Pipeline.{svg_of, latex_of, system_of, show_of}
use Rattle.command_line.specs.Proving.{proofs_of, proved}
use Rattle.command_line.specs.Samples.{sample_of}
use Rattle.command_line.specs.Checking.{IsChecked, IsCheckedAgainst}
use Rattle.command_line.specs.Carrying.{IsCarried}
use Rattle.command_line.specs.Trials.{trial_of}
use Rattle.command_line.specs.declared.numbers.TheConstants.{TRIALS}
use Rattle.trial_file.specs.Trial.{trial_text}

-- ---- forms
-- A form of the command line, with its words behind the first.
pub data Form : Type 0 where
  TextOf : Command → (file : List ℕ) → Form  -- a text that a command makes of a file
  ProveOf : (file : List ℕ) → Form  -- the log of a file's proofs
  CheckOf : (log : List ℕ) → (file : Option (List ℕ)) → Form  -- whether a log is accepted, and has a file's problems
  CarryOf : (log file figure : List ℕ) → Form  -- what a log of a file's problems tells of a figure
  TrialOf : (number : ℕ) → Form  -- what comes of the file of a number

-- A file that a form names, and the most bytes that it may have.
pub record Source : Type 0 where
  pub name : List ℕ
  pub most : ℕ

abbrev pub source : List ℕ → ℕ → Source
source name most = record { name = name; most = most }

-- The files of a form, in the order in which they are read.
abbrev pub sources_of : Form → List Source
sources_of (TextOf command file) = source file MOST_BYTES ∷ []
sources_of (ProveOf file) = source file MOST_BYTES ∷ []
sources_of (CheckOf log None) = source log MOST_LOG_BYTES ∷ []
sources_of (CheckOf log (Some file)) = source log MOST_LOG_BYTES ∷ source file MOST_BYTES ∷ []
sources_of (CarryOf log file figure) = source log MOST_LOG_BYTES ∷ source file MOST_BYTES ∷ source figure MOST_BYTES ∷ []
sources_of (TrialOf number) = []

-- ---- answers over the bytes of the files
-- The answer of a form over the bytes of its files.
abbrev pub IsAnswerOver : Form → List (List ℕ) → Answer → Type 0
IsAnswerOver (TextOf command file) files a = a ≡ answer_from text_answer (get_or files 0 []) (command (get_or files 0 []))
IsAnswerOver (ProveOf file) files a = a ≡ answer_from proved (get_or files 0 []) (proofs_of (get_or files 0 []))
IsAnswerOver (CheckOf log None) files a = IsChecked (get_or files 0 []) a
IsAnswerOver (CheckOf log (Some file)) files a = IsCheckedAgainst (get_or files 0 []) (get_or files 1 []) a
IsAnswerOver (CarryOf log file figure) files a = IsCarried (get_or files 0 []) (get_or files 1 []) (get_or files 2 []) a
IsAnswerOver (TrialOf number) files a = a ≡ answer_from text_answer (trial_text number) (trial_of number)

-- The answer over a file of at most so many bytes: what comes next sees the bytes.
abbrev pub OfFile : ℕ → Reading → (List ℕ → Answer → Type 0) → Answer → Type 0
OfFile most None Next a = a ≡ read_fault
OfFile most (Some bytes) Next a = elim (nat_lt most (length bytes)) [ true ↦ a ≡ too_large | false ↦ Next bytes a ]

-- The answer where the file alone decides: it cannot be read, or is too large.
abbrev pub OfFileAlone : ℕ → Reading → Answer → Type 0
OfFileAlone most file a = OfFile most file (λ bytes b. ⊥) a

-- The answer over the readings of several files, which are read one after another, each once: the first that cannot be
-- read, or is too large, decides.
abbrev pub OfSources : List Source → (List (List ℕ) → Answer → Type 0) → List Reading → Answer → Type 0
OfSources [] Over readings a = Over [] a
OfSources (s ∷ sources) Over [] a = ⊥
OfSources (s ∷ sources) Over (reading ∷ readings) a =
    OfFile s.most reading (λ bytes b. OfSources sources (λ others c. Over (bytes ∷ others) c) readings b) a

-- ---- rows
-- A row: the first word, and the form that it begins with the words behind it, where there is one.
pub record Row : Type 0 where
  pub word : List ℕ
  pub form : List (List ℕ) → Option Form

-- The words behind the first are the name of a file.
abbrev pub one_file : (List ℕ → Form) → List (List ℕ) → Option Form
one_file form [] = None
one_file form (name ∷ []) = Some (form name)
one_file form (name ∷ other ∷ words) = None

-- The number that a word tells, in decimal, among so many numbers from k on.
unfoldable pub number_in : ℕ → ℕ → List ℕ → Option ℕ
number_in zero k word = None
number_in (suc n) k word = cond (bytes_eq (decimal k) word) (Some k) (number_in n (k + 1) word)

-- The number of workers that a word tells: it has one spelling.
abbrev pub worker_count : List ℕ → Option ℕ
worker_count word = number_in MOST_WORKERS 1 word

-- A file's log does not depend on the number of its workers.
abbrev pub proved_by : List ℕ → Option ℕ → Option Form
proved_by file None = None
proved_by file (Some count) = Some (ProveOf file)

-- The words behind `prove`: the name of a file, and how many workers there are, if that is told.
abbrev pub prove_words : List (List ℕ) → Option Form
prove_words [] = None
prove_words (file ∷ []) = Some (ProveOf file)
prove_words (file ∷ option ∷ []) = None
prove_words (file ∷ option ∷ count ∷ []) = cond (bytes_eq option (codes "--workers")) (proved_by file (worker_count count)) None
prove_words (file ∷ option ∷ count ∷ other ∷ words) = None

-- How many workers these words tell.
abbrev pub prove_workers : List (List ℕ) → Option ℕ
prove_workers [] = None
prove_workers (file ∷ []) = None
prove_workers (file ∷ option ∷ []) = None
prove_workers (file ∷ option ∷ count ∷ []) = cond (bytes_eq option (codes "--workers")) (worker_count count) None
prove_workers (file ∷ option ∷ count ∷ other ∷ words) = None

-- The words behind `check`: the name of a log, and that of a file, if there is one.
abbrev pub log_and_file : List (List ℕ) → Option Form
log_and_file [] = None
log_and_file (log ∷ []) = Some (CheckOf log None)
log_and_file (log ∷ file ∷ []) = Some (CheckOf log (Some file))
log_and_file (log ∷ file ∷ other ∷ words) = None

-- The words behind `carry`: the names of a log, of a file, and of a figure.
abbrev pub carry_words : List (List ℕ) → Option Form
carry_words [] = None
carry_words (log ∷ []) = None
carry_words (log ∷ file ∷ []) = None
carry_words (log ∷ file ∷ figure ∷ []) = Some (CarryOf log file figure)
carry_words (log ∷ file ∷ figure ∷ other ∷ words) = None

-- The number of a trial that a word tells: the word is its decimal text.
abbrev pub trial_number : List ℕ → Option ℕ
trial_number word =
    let n = digits_value 10 word in
    if nat_lt n TRIALS && bytes_eq word (decimal n) then Some n else None

-- What comes of a number does not depend on the number of workers.
abbrev pub tried_by : Option ℕ → Option ℕ → Option Form
tried_by None count = None
tried_by (Some number) None = None
tried_by (Some number) (Some count) = Some (TrialOf number)

-- The words behind `trial`: a number, and how many workers there are.
abbrev pub trial_words : List (List ℕ) → Option Form
trial_words [] = None
trial_words (number ∷ []) = None
trial_words (number ∷ count ∷ []) = tried_by (trial_number number) (worker_count count)
trial_words (number ∷ count ∷ other ∷ words) = None

-- How many workers these words tell.
abbrev pub workers_by : Option ℕ → Option ℕ → Option ℕ
workers_by None count = None
workers_by (Some number) count = count

abbrev pub trial_workers : List (List ℕ) → Option ℕ
trial_workers [] = None
trial_workers (number ∷ []) = None
trial_workers (number ∷ count ∷ []) = workers_by (trial_number number) (worker_count count)
trial_workers (number ∷ count ∷ other ∷ words) = None

-- All forms.
abbrev pub rows : List Row
rows =
    record { word = codes "svg"; form = one_file (TextOf svg_of) }
    ∷ record { word = codes "latex"; form = one_file (TextOf latex_of) }
    ∷ record { word = codes "system"; form = one_file (TextOf system_of) }
    ∷ record { word = codes "show"; form = one_file (TextOf show_of) }
    ∷ record { word = codes "sample"; form = one_file (TextOf sample_of) }
    ∷ record { word = codes "prove"; form = prove_words }
    ∷ record { word = codes "check"; form = log_and_file }
    ∷ record { word = codes "trial"; form = trial_words }
    ∷ record { word = codes "carry"; form = carry_words }
    ∷ []

-- The form that a first word begins, by the first row that has it.
abbrev pub form_in : List Row → List ℕ → List (List ℕ) → Option Form
form_in [] word words = None
form_in (row ∷ rows) word words = cond (bytes_eq word row.word) (row.form words) (form_in rows word words)

-- The form of the words of a command line; nothing where they are none.
abbrev pub form_of : List (List ℕ) → Option Form
form_of [] = None
form_of (word ∷ words) = form_in rows word words

-- How many workers the words of a command line tell; nothing where they are no form that tells a number of workers.
abbrev pub workers_of : List (List ℕ) → Option ℕ
workers_of [] = None
workers_of (word ∷ words) =
    cond (bytes_eq word (codes "prove")) (prove_workers words) (cond (bytes_eq word (codes "trial")) (trial_workers words) None)

-- ---- the answer
-- The names of the files that a form reads.
abbrev pub names_of : Option Form → List (List ℕ)
names_of None = []
names_of (Some form) = map (λ (s : Source). s.name) (sources_of form)

-- What the program answers to a form over what it reads of these files.
abbrev pub IsAnswerOf : Option Form → List Reading → Answer → Type 0
IsAnswerOf None readings a = a ≡ usage
IsAnswerOf (Some form) readings a = OfSources (sources_of form) (IsAnswerOver form) readings a

-- What it answers over the files that a desk holds.
abbrev pub IsAnswer : Option Form → Files → Answer → Type 0
IsAnswer form files a = IsAnswerOf form (readings_of files (names_of form)) a
