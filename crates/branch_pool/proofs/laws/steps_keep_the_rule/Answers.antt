use Rattle.std.proofs.Common.{◌∷◌, []}
use Rattle.branch_pool.proofs.Keeps.{pushes, takes, forks, merges}
use Rattle.branch_pool.proofs.laws.steps_keep_the_rule.Goals as goal

pub returns-clause-push : goal.returns-clause-push
returns-clause-push g c port v x = pushes port v (x ∷ [])

pub returns-clause-take : goal.returns-clause-take
returns-clause-take g c = takes

pub returns-clause-split : goal.returns-clause-split
returns-clause-split g c = forks

pub returns-clause-join : goal.returns-clause-join
returns-clause-join g c = merges
