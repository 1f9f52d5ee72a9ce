use Rattle.log_checker.proofs.Assured.{are_assured, is_covered}
use Rattle.log_checker.proofs.check.check_text.Goals as goal

pub returns-clause-assured : goal.returns-clause-assured
returns-clause-assured g c =
    are_assured g.D.Domain.operations c.verdicts_hold.ensures c.trees_keep_to_their_variables.ensures c.check_bytes.result c.args.text.now c.check_bytes.ensures

pub returns-clause-covered : goal.returns-clause-covered
returns-clause-covered g c = is_covered g.D.Domain.operations c.trees_cover.ensures c.check_bytes.result c.args.text.now c.check_bytes.ensures
