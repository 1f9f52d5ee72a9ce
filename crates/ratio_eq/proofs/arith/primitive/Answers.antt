use Rattle.polynomials.proofs.Results as results
use Rattle.ratio_eq.proofs.arith.primitive.Goals as goal

pub prim-requires-clause-a : goal.prim-requires-clause-a
prim-requires-clause-a c = results.made-poly _ _ _ _ c.copy_in-whole.ensures

pub copy_out-requires : goal.copy_out-requires
copy_out-requires c = results.made-poly _ _ _ _ c.prim.ensures.part
