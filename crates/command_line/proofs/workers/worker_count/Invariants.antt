use Rattle.std.proofs.Common.{◌≡◌, ◌+◌, ◌-◌}
use Rattle.prove_run.specs.declared.many.TheConstants.{MOST_WORKERS}
use Rattle.command_line.specs.Table.{number_in}
use Rattle.command_line.proofs.workers.worker_count.Given as goal

abbrev pub invariant-loop-count : goal.invariant-loop-count
invariant-loop-count l = number_in (MOST_WORKERS + 1 - l.count) l.count l.word ≡ number_in MOST_WORKERS 1 l.word
