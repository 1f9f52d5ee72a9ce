use Rattle.std.proofs.Common.{arith}
use Rattle.polynomials.proofs.Results as results
use Rattle.pseudo_div.proofs.Reducing.{place-below}
use Rattle.runs.proofs.operation.of_first.Goals as goal

pub coefficient-requires-clause-var : goal.coefficient-requires-clause-var
coefficient-requires-clause-var g c = let b = place-below _ c.args.var c.requires.p.standard c.requires.class in omega (arith, b)

pub shift-requires-clause-var : goal.shift-requires-clause-var
shift-requires-clause-var g c = let b = place-below _ c.args.var c.requires.p.standard c.requires.class in omega (arith, b)

pub returns-in-Coefficient : goal.returns-in-Coefficient
returns-in-Coefficient g c = results.made-poly _ _ _ _ c.coefficient.ensures

pub returns-in-Initial : goal.returns-in-Initial
returns-in-Initial g c = results.made-poly _ _ _ _ c.initial.ensures

pub returns-in-Tail : goal.returns-in-Tail
returns-in-Tail g c = results.made-poly _ _ _ _ c.tail.ensures
