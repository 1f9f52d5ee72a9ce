use Rattle.prove_run.proofs.Logs.{logs-accepted, logs-whole}
use Rattle.prove_run.proofs.laws.logs_of_problems_are_accepted.Goals as goal

pub returns-clause-accepted : goal.returns-clause-accepted
returns-clause-accepted c = logs-accepted

pub returns-clause-whole : goal.returns-clause-whole
returns-clause-whole c = logs-whole
