use Rattle.command_line.proofs.Single.{one_answer}
use Rattle.command_line.proofs.laws.answers_are_unique.Goals as goal

pub returns : goal.returns
returns g form = one_answer form
