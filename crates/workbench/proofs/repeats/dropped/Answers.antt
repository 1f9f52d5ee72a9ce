use Rattle.workbench.proofs.Tied as tied
use Rattle.workbench.proofs.repeats.dropped.Goals as goal

pub is_among-requires-clause-hs : goal.is_among-requires-clause-hs
is_among-requires-clause-hs g c = tied.found-take _ _ c.args.hs.now c.requires.hs
