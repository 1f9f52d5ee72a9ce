use Rattle.log_checker.proofs.Exact.{one_finding}
use Rattle.log_checker.proofs.laws.findings_are_unique.Goals as goal

pub returns : goal.returns
returns g bytes x y a b = one_finding bytes x y a b
