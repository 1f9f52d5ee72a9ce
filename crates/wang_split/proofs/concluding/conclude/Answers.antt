use Rattle.std.proofs.Common.{◌≤◌, [], subst, arith}
use Rattle.proof_steps.specs.Rules.{size_of}
use Rattle.workbench.specs.Standing.{node_at}
use Rattle.workbench.proofs.Benches as benches
use Rattle.workbench.proofs.Choice as choice
use Rattle.wang_split.specs.Halts.{HaltedAt}
use Rattle.wang_split.proofs.Concluded as concluded
use Rattle.wang_split.proofs.concluding.conclude.Goals as goal

pub listed-requires-clause-eqs : goal.listed-requires-clause-eqs
listed-requires-clause-eqs g c = choice.found-all _ (g.S.TermStore.state c.args.s.now) [] c.args.bench.now c.requires.stands

pub listed-requires-clause-nes : goal.listed-requires-clause-nes
listed-requires-clause-nes g c = benches.conditions-held _ (g.S.TermStore.state c.args.s.now) [] c.args.bench.now c.requires.stands

pub returns-in_ok-piece-in-Stopped-clause-rests : goal.returns-in_ok-piece-in-Stopped-clause-rests
returns-in_ok-piece-in-Stopped-clause-rests g c =
    let s = g.S.TermStore.state c.args.s.now in
    let b = c.args.bench.now in
    let here = node_at s b in
    let enough : size_of here ≤ b.fuel = (let z = c.requires.stands.size in let e = c.requires.stands.fuel in omega (arith, z, e)) in
    let at = subst (HaltedAt here) c.in-Stopped.is c.requires.halted in
    concluded.opened c.args.cons.now here c.args.steps.items c.in-Stopped.what c.in-Stopped.reason c.in_ok-piece-in-Stopped.piece enough at.0 at.1 c.in_ok-piece-in-Stopped.ensures
