use Rattle.polynomials.proofs.Results as results
use Rattle.log_checker.proofs.Stores as stores
use Rattle.log_checker.proofs.arith.reduced_out.Goals as goal

pub taken_out-requires : goal.taken_out-requires
taken_out-requires g c = results.made-poly _ _ _ _ (stores.reduces-gives _ _ _ _ c.in-Ok.ensures.answer).1

pub returns-in_err-rest-in-Ok-clause-kept : goal.returns-in_err-rest-in-Ok-clause-kept
returns-in_err-rest-in-Ok-clause-kept g c = stores.freed-keeps _ _ _ _ (stores.reduces-gives _ _ _ _ c.in-Ok.ensures.answer).1.makes c.taken_out.ensures.given_up

pub returns-in_ok-rest-in-Ok-clause-kept : goal.returns-in_ok-rest-in-Ok-clause-kept
returns-in_ok-rest-in-Ok-clause-kept g c = stores.freed-keeps _ _ _ _ (stores.reduces-gives _ _ _ _ c.in-Ok.ensures.answer).1.makes c.taken_out.ensures.given_up
