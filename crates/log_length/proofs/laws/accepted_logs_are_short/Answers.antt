use Rattle.log_length.proofs.Whole.{pieces-paid, conditions-paid, log-short}
use Rattle.log_length.proofs.laws.accepted_logs_are_short.Goals as goal

pub returns-clause-pieces : goal.returns-clause-pieces
returns-clause-pieces c = pieces-paid

pub returns-clause-conditions : goal.returns-clause-conditions
returns-clause-conditions c = conditions-paid

pub returns-clause-log : goal.returns-clause-log
returns-clause-log c = log-short
