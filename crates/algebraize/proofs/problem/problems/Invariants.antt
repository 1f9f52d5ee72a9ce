use Rattle.std.proofs.Common.{◌≡◌, ◌≤◌, ◌-◌, map, IsTrue}
use Rattle.std.specs.Prelude.{All}
use Rattle.std.specs.List.{list_all}
use Rattle.proof_steps.specs.Stated.{IsStated}
use Rattle.algebraize.specs.Formed.{equations, is_own, is_quadratic}
use Rattle.algebraize.specs.Problem.{problems_from}
use Rattle.algebraize.proofs.Proves.{behind}
use Rattle.algebraize.proofs.problem.problems.Given as goal

abbrev pub invariant-loop-prove : goal.invariant-loop-prove
invariant-loop-prove l = record {
  within : l.prove ≤ l.program.proves;
  value : behind (map equations l.problems.items) (problems_from l.program.acts l.prove (l.program.proves - l.prove)) ≡ problems_from l.program.acts 0 l.program.proves;
  own : IsTrue (list_all is_own l.problems.items);
  stated : All IsStated l.problems.items;
  quadratic : IsTrue (list_all is_quadratic l.problems.items);
}

abbrev pub decreases-loop-prove : goal.decreases-loop-prove
decreases-loop-prove l = l.program.proves - l.prove
