use Rattle.gcl_reader.proofs.ShownAgain.{shown-is-read}
use Rattle.gcl_reader.proofs.showing.shown_is_read.Goals as goal

pub returns : goal.returns
returns c = shown-is-read
