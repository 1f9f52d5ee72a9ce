use Rattle.sample_point.proofs.tries.+with_all.Given as goal

abbrev pub decreases-with_all : goal.decreases-with_all
decreases-with_all l = l.left
