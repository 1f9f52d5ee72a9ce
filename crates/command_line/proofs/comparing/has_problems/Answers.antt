use Rattle.algebraize.specs.Problem.{problems_of}
use Rattle.command_line.proofs.Checks.{compared_accepted}
use Rattle.command_line.proofs.comparing.has_problems.Goals as goal

pub returns-in-Accepted : goal.returns-in-Accepted
returns-in-Accepted c =
    compared_accepted c.args.found.now c.in-Accepted.checked c.check_against.result (problems_of c.args.program.now.acts) c.in-Accepted.is c.check_against.ensures
