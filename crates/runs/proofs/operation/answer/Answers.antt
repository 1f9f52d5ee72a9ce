use Rattle.polynomials.proofs.Results as results
use Rattle.runs.proofs.operation.answer.Goals as goal

pub apply-requires-clause-p : goal.apply-requires-clause-p
apply-requires-clause-p g c = results.kept-poly _ _ _ _ c.copy_in-q.ensures.makes (results.made-poly _ _ _ _ c.copy_in-p.ensures)

pub apply-requires-clause-q : goal.apply-requires-clause-q
apply-requires-clause-q g c = results.made-poly _ _ _ _ c.copy_in-q.ensures
