use Rattle.std.proofs.Common.{◌≡◌, ◌+◌, length}
use Rattle.proof_steps.specs.Rules.{sizes}
use Rattle.workbench.proofs.opening.sizes.Given as goal

abbrev pub invariant-loop-first : goal.invariant-loop-first
invariant-loop-first l = l.sum + sizes l.rest ≡ sizes l.ps

abbrev pub decreases-loop-first : goal.decreases-loop-first
decreases-loop-first l = length l.rest
