use Rattle.gcl_reader.proofs.Stand.{tokens-stand}
use Rattle.gcl_reader.proofs.reading.tokens_stand.Goals as goal

pub returns : goal.returns
returns c = tokens-stand
