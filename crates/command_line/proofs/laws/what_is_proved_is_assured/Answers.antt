use Rattle.command_line.proofs.Headline.{proved_assured}
use Rattle.command_line.proofs.laws.what_is_proved_is_assured.Goals as goal

pub returns : goal.returns
returns c = proved_assured
