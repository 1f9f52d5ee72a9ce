use Rattle.proof_log.proofs.Owned.{log-own}
use Rattle.prove_run.specs.Logs.{newest}
use Rattle.runs.proofs.held.text_of.Goals as goal

pub write_log-requires : goal.write_log-requires
write_log-requires c = log-own newest c.args.log.now.proofs c.requires.whole.written c.requires.whole.lines
