use Rattle.gcl_reader.specs.declared.limits.TheConstants.{MOST_COMMANDS}
use Rattle.gcl_reader.specs.Tokens.{lexed}
use Rattle.gcl_reader.proofs.ReadAgain.{commands-read}
use Rattle.gcl_reader.proofs.reading.spelled_is_read.Goals as goal

pub returns : goal.returns
returns c bytes commands spells fits = commands-read MOST_COMMANDS (lexed bytes) commands spells fits.0 fits.1
