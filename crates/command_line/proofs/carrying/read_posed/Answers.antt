use Rattle.command_line.proofs.CarryingFacts.{few_compared}
use Rattle.command_line.proofs.carrying.read_posed.Goals as goal

pub returns-clause-few : goal.returns-clause-few
returns-clause-few c = few_compared c.args.found.now c.in_ok-program.program c.in_ok-has.has c.in_ok-program.ensures.sound c.in_ok-has.ensures
