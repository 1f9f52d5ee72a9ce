-- The log of problems, and of a program.
use Rattle.std.specs.Prelude.{ℕ, List, map, length, Result, Ok}
use Rattle.poly_model.specs.declared.limits.TheConstants.{MOST_FUEL}
use Rattle.proof_steps.specs.Trees.{tree_of}
use Rattle.proof_steps.specs.declared.piece.Piece.{Piece}
use Rattle.proof_steps.specs.declared.problem.Problem.{Problem}
use Rattle.verdicts.specs.Verdicts.{verdict_of}
use Rattle.proof_steps.specs.declared.version.TheConstants.{VERSION}
use Rattle.proof_log.specs.Headings.{Heading, heading, share_of}
use Rattle.proof_log.specs.declared.log.Proof.{Proof}
use Rattle.gcl_reader.specs.Grammar.{◌>>=◌}
use Rattle.gcl_reader.specs.declared.refusal.Refusal.{Refusal}
use Rattle.gcl_names.specs.declared.program.Act.{Act}
use Rattle.algebraize.specs.Equations.{Equations}
use Rattle.algebraize.specs.Problem.{problems_of}

-- A problem with a tree of these pieces, and the verdict of that.
abbrev pub proof_with : Problem → List Piece → Proof
proof_with problem pieces = record { problem = problem; tree = record { pieces = pieces }; verdict = verdict_of pieces }

-- A problem with the tree that the order of work gives.
abbrev pub proof_of : (version fuel : ℕ) → Problem → Proof
proof_of version fuel problem = proof_with problem (tree_of version problem fuel)

-- What the log of a program states: the newest version, and the most fuel.
abbrev pub newest : Heading
newest = heading VERSION MOST_FUEL

-- The log of problems: each proof has an equal share of the fuel.
abbrev pub log_of : Heading → List Problem → List Proof
log_of h problems = map (proof_of h.version (share_of h.fuel (length problems))) problems

-- The problem of the equations of a prove.
abbrev pub problem_of : Equations → Problem
problem_of e = record { vars = e.variables; hyps = e.hypotheses; cons = e.conclusions }

-- The log of a program: that of the problems of its proves, or the refusal of the first that has too many variables.
abbrev pub log_of_program : List Act → Result (List Proof) Refusal
log_of_program acts = do
  equations ← problems_of acts
  Ok (log_of newest (map problem_of equations))
