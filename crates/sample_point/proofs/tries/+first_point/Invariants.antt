use Rattle.sample_point.proofs.tries.+first_point.Given as goal

abbrev pub decreases-first_point : goal.decreases-first_point
decreases-first_point l = l.left
