use Rattle.std.proofs.Common.{length}
use Rattle.proof_log.proofs.Items.{Going}
use Rattle.proof_log.proofs.Rows.{fields}
use Rattle.proof_log.proofs.field.fields_at.Given as goal

abbrev pub invariant-loop-kind : goal.invariant-loop-kind
invariant-loop-kind l = Going fields l.kinds l.left l.text l.rest l.fields.items

abbrev pub decreases-loop-kind : goal.decreases-loop-kind
decreases-loop-kind l = length l.left
