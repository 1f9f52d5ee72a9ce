use Rattle.std.proofs.Common.{sym, subst}
use Rattle.proof_log.specs.Cuts.{Avoids, EndsAt}
use Rattle.proof_log.proofs.Cutting.{avoids-before, avoids-all, ends-there}
use Rattle.proof_log.proofs.cut.cut_line.Goals as goal

pub returns-in-Some-clause-front : goal.returns-in-Some-clause-front
returns-in-Some-clause-front c = subst (Avoids 10) (sym c.split_at.ensures.front) (avoids-before 10 c.in-Some.at c.args.text.now c.in-Some.ensures.0.before)

pub returns-in-Some-clause-behind : goal.returns-in-Some-clause-behind
returns-in-Some-clause-behind c = subst (EndsAt 10) (sym c.split_at.ensures.back) (ends-there 10 c.in-Some.at c.args.text.now c.in-Some.ensures.1 c.in-Some.ensures.0.high)

pub returns-in-None-clause-front : goal.returns-in-None-clause-front
returns-in-None-clause-front c = avoids-all 10 c.args.text.now c.in-None.ensures
