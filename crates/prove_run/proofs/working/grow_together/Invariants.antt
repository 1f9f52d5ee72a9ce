use Rattle.prove_run.proofs.working.grow_together.Given as goal

abbrev pub ghosts-grow_named : goal.ghosts-grow_named
ghosts-grow_named g a = record { cons = a.cons.now; root = a.root }
