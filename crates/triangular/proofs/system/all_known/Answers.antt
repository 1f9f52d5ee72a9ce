use Rattle.workbench.proofs.Benches as benches
use Rattle.triangular.proofs.system.all_known.Goals as goal

pub serves-requires-clause-nes : goal.serves-requires-clause-nes
serves-requires-clause-nes g c = benches.held-keeps _ _ c.args.nes.now c.loop-first.invariant.kept c.requires.nes
