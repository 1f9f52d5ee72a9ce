use Rattle.std.proofs.Common.{◌≡◌, length}
use Rattle.gcl_reader.specs.Table.{named}
use Rattle.gcl_reader.proofs.table.named.Given as goal

abbrev pub invariant-loop-rest : goal.invariant-loop-rest
invariant-loop-rest g l = named g.X.Written.written l.rest l.text ≡ named g.X.Written.written l.fn.candidates l.text

abbrev pub decreases-loop-rest : goal.decreases-loop-rest
decreases-loop-rest g l = length l.rest
