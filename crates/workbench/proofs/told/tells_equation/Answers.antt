use Rattle.std.proofs.Common.{◌∙◌, ap}
use Rattle.poly_model.specs.Reduction.{same}
use Rattle.workbench.proofs.Benches as benches
use Rattle.workbench.proofs.told.tells_equation.Goals as goal

pub is_told-requires : goal.is_told-requires
is_told-requires g c = benches.equation-poly _ _ _ c.args.bench.now _ c.index.result.now c.requires.stands c.requires.has c.index.ensures

pub returns : goal.returns
returns g c =
    c.is_told.ensures ∙ ap (same c.args.p.now) (benches.equation-at (g.S.TermStore.state c.args.s.now) c.args.bench.now.eqs.items _ c.index.result.now c.requires.has c.index.ensures)
