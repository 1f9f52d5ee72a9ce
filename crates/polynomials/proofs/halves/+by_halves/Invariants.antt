use Rattle.polynomials.proofs.halves.+by_halves.Given as goal

abbrev pub decreases-by_halves : goal.decreases-by_halves
decreases-by_halves g l = l.count
