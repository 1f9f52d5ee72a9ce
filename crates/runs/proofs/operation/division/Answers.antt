use Rattle.polynomials.proofs.Results as results
use Rattle.runs.proofs.operation.division.Goals as goal

pub class-requires : goal.class-requires
class-requires g c = results.made-poly _ _ _ _ c.copy_in-q.ensures

pub prem-requires-clause-g : goal.prem-requires-clause-g
prem-requires-clause-g g c = results.kept-poly _ _ _ _ c.copy_in-q.ensures.makes (results.made-poly _ _ _ _ c.copy_in-p.ensures)

pub copy_out-requires : goal.copy_out-requires
copy_out-requires g c = results.made-poly _ _ _ _ c.in_ok-down.ensures.rest
