use Rattle.polynomials.proofs.Results as results
use Rattle.runs.proofs.Answered.{answered}
use Rattle.runs.proofs.operation.apply.Goals as goal

pub returns-in-Add : goal.returns-in-Add
returns-in-Add g c = answered _ _ _ _ c.add.ensures

pub returns-in-Sub : goal.returns-in-Sub
returns-in-Sub g c = answered _ _ _ _ c.sub.ensures

pub returns-in-Mul : goal.returns-in-Mul
returns-in-Mul g c = answered _ _ _ _ c.mul.ensures

pub returns-in-Prim : goal.returns-in-Prim
returns-in-Prim g c = results.made-poly _ _ _ _ c.prim.ensures.part

pub returns-in-None : goal.returns-in-None
returns-in-None g c = results.made-poly _ _ _ _ c.copy.ensures
