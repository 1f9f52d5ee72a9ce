use Rattle.std.proofs.Common.{sym, subst}
use Rattle.std.specs.Prelude.{pos}
use Rattle.gcl_reader.specs.Figure.{IsSmall}
use Rattle.gcl_reader.specs.declared.limits.TheConstants.{MOST_COORDINATE}
use Rattle.placement.proofs.Sizes.{small-or}
use Rattle.placement.proofs.frame.place_of.Goals as goal

pub returns-in-Some-clause-small : goal.returns-in-Some-clause-small
returns-in-Some-clause-small c = subst (IsSmall MOST_COORDINATE) (sym (c.in-Some.ensures.lookup.3.1 (pos 0, pos 0))) (small-or c.args.figure.now c.args.point c.requires)
