use Rattle.polynomials.proofs.Results as results
use Rattle.log_checker.proofs.Stores as stores
use Rattle.log_checker.proofs.arith.part_out.Goals as goal

pub taken_out-out-requires : goal.taken_out-out-requires
taken_out-out-requires g c = results.made-poly _ _ _ _ c.prim.ensures.part

pub give_up-requires : goal.give_up-requires
give_up-requires g c = stores.live-kept _ _ _ (stores.freed-keeps _ _ _ _ c.prim.ensures.part.makes c.taken_out-out.ensures.given_up) c.requires.p.live

pub returns-clause-given_up : goal.returns-clause-given_up
returns-clause-given_up g c = stores.kept-given _ _ _ _ (stores.freed-keeps _ _ _ _ c.prim.ensures.part.makes c.taken_out-out.ensures.given_up) c.give_up.ensures
