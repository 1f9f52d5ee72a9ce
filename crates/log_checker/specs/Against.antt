-- Whether problems are those of a program.
use Rattle.std.specs.Prelude.{◌≡◌, ◌↔◌, List, map, Bool, IsTrue, Result, Ok, Err}
use Rattle.proof_steps.specs.declared.problem.Problem.{Problem}
use Rattle.gcl_reader.specs.Grammar.{Fails}
use Rattle.gcl_reader.specs.declared.refusal.GclFault.{GclFault}
use Rattle.gcl_reader.specs.declared.refusal.Refusal.{Refusal}
use Rattle.algebraize.specs.Equations.{Equations}
use Rattle.algebraize.specs.Formed.{equations}

-- The program states some problems, and the answer is whether these are the same; or it is refused, or memory ran out.
abbrev pub Compares : List Problem → Result Bool GclFault → Result (List Equations) Refusal → Type 0
Compares problems (Ok same) read = (stated : List Problem) × (read ≡ Ok (map equations stated)) × (IsTrue same ↔ (problems ≡ stated))
Compares problems (Err e) read = Fails e read
