-- What is taken of a rule, as it is recorded.
use Rattle.std.specs.Prelude.{◌≡◌, [], Some, None, Result, Ok, Err}
use Rattle.term_store.specs.States.{State}
use Rattle.proof_steps.specs.Rules.{reason_of, stepped}
use Rattle.proof_steps.specs.Trees.{AsStep, recorded_as}
use Rattle.proof_steps.specs.declared.piece.Node.{Node}
use Rattle.proof_steps.specs.declared.step.Attempt.{Attempt}
use Rattle.proof_steps.specs.declared.version.TheConstants.{VERSION}
use Rattle.workbench.specs.Standing.{Stands, Becomes}
use Rattle.workbench.specs.declared.bench.Bench.{Bench}
use Rattle.wang_split.specs.declared.taken.Taken.{Taken}
use Rattle.wang_split.specs.declared.taken.Taken.TheVariants as taken

-- What is taken of a rule is what the rule makes, or what stops it, and the store has the lists of the node that is left.
abbrev pub Takes : State → Node → Attempt → Taken → State → Bench → Type 0
Takes base n a (taken.Stepped s) t c = (reason_of VERSION n a ≡ None) × (recorded_as n a ≡ AsStep s) × Becomes base t c (stepped n s)
Takes base n a (taken.Stopped why) t c = (reason_of VERSION n a ≡ Some why) × Becomes base t c n

-- Where memory is refused, the store has the lists of some node that stands.
abbrev pub Took : {E : Type 0} → State → Node → Attempt → Result Taken E → State → Bench → Type 0
Took base n a (Ok x) t c = Takes base n a x t c
Took base n a (Err e) t c = Stands base t [] c
