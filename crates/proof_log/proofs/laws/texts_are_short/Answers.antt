use Rattle.std.proofs.Common.{arith}
use Rattle.proof_log.proofs.Short.{line-short, lines-short}
use Rattle.proof_log.proofs.laws.texts_are_short.Goals as goal

pub returns-clause-line : goal.returns-clause-line
returns-clause-line c names l valid fits = let h = line-short names l valid fits in omega (arith, h)

pub returns-clause-lines : goal.returns-clause-lines
returns-clause-lines c names ls valid fit = lines-short names ls valid fit
