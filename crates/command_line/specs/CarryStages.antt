-- What the stages of `carry` give of what was found of a log, as the code has it.
use Rattle.std.specs.Prelude.{◌≡◌, ◌≤◌, ◌↔◌, ◌⊎◌, ℕ, ℤ, List, [], length, get_or, Bool, IsTrue, Result, Ok, Err}
use Rattle.gcl_reader.specs.Figure.{figure_of}
use Rattle.gcl_reader.specs.Grammar.{Fails}
use Rattle.gcl_reader.specs.declared.refusal.GclFault.{GclFault}
use Rattle.gcl_reader.specs.declared.refusal.Refusal.{Refusal}
use Rattle.gcl_names.specs.declared.limits.TheConstants.{MOST_PROVES}
use Rattle.gcl_names.specs.declared.program.Act.{Act}
use Rattle.gcl_names.specs.declared.program.Program.{Program}
use Rattle.algebraize.specs.Equations.{Equations}
use Rattle.algebraize.specs.Figure.{Figure}
use Rattle.command_line.specs.Answer.{Answer, refused, text_answer}
use Rattle.command_line.specs.Carrying.{Posed, carried_text, posed_in}
use Rattle.command_line.specs.Checking.{malformed_at, misfit_at, other_problems}
use Rattle.command_line.specs.Found.{Has}
use Rattle.command_line.specs.declared.checking.Found.{Found}
use Rattle.command_line.specs.declared.checking.Found.TheVariants as found

-- A program with these problems.
abbrev pub posed : Program → List Equations → Posed
posed program stated = record { program = program; stated = stated }

-- The program is that of a file, and the answer is whether a log has its problems; or the file is refused, or memory ran out.
abbrev pub IsPosed : Found → Result (Program × Bool) GclFault → Result Posed Refusal → Type 0
IsPosed f (Ok r) read = (stated : List Equations) × (read ≡ Ok (posed r.0 stated)) × (IsTrue r.1 ↔ Has stated f)
IsPosed f (Err e) read = Fails e read

-- A log that is accepted has no more problems than a program may have.
abbrev pub AreFew : Found → Type 0
AreFew (found.Accepted c) = length c.problems ≤ MOST_PROVES
AreFew (found.Malformed n) = Unit {0}
AreFew (found.Rejected n w) = Unit {0}

-- The answer to what is found, where a figure of these acts is carried.
abbrev pub told_answer : List Act → Figure ℤ → Found → Answer
told_answer acts f (found.Accepted c) = text_answer (carried_text acts f c.problems c.verdicts)
told_answer acts f (found.Malformed n) = malformed_at n
told_answer acts f (found.Rejected n w) = misfit_at n w

abbrev pub IsToldFor : Posed → Figure ℤ → Found → Answer → Type 0
IsToldFor p f x a = (Has p.stated x × (a ≡ told_answer p.program.acts f x)) ⊎ ((Has p.stated x → ⊥) × (a ≡ other_problems))

abbrev pub IsDrawnFor : Posed → Result (Figure ℤ) Refusal → (figure : List ℕ) → Found → Answer → Type 0
IsDrawnFor p (Ok f) figure x a = IsToldFor p f x a
IsDrawnFor p (Err refusal) figure x a = a ≡ refused figure refusal

abbrev pub IsCarriedFound : Result Posed Refusal → (file figure : List ℕ) → Found → Answer → Type 0
IsCarriedFound (Ok p) file figure x a = IsDrawnFor p (figure_of p.program.points figure) figure x a
IsCarriedFound (Err refusal) file figure x a = a ≡ refused file refusal

-- Behind the log, the file and the figure are read.
abbrev pub IsCarriedBehind : Found → List (List ℕ) → Answer → Type 0
IsCarriedBehind x files a = IsCarriedFound (posed_in (get_or files 0 [])) (get_or files 0 []) (get_or files 1 []) x a
