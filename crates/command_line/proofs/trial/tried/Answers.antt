use Rattle.proof_log.proofs.Owned.{log-own}
use Rattle.prove_run.specs.Logs.{newest}
use Rattle.command_line.proofs.trial.tried.Goals as goal

pub log_bytes-requires-clause-own : goal.log_bytes-requires-clause-own
log_bytes-requires-clause-own g c = log-own newest c.in_ok-log.log.proofs c.in_ok-log.ensures.whole.written c.in_ok-log.ensures.whole.lines
