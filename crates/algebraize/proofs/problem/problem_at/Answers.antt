use Rattle.std.proofs.Common.{sym, subst, IsTrue}
use Rattle.algebraize.proofs.Proves as proves
use Rattle.poly_model.specs.Names.{are_variables}
use Rattle.algebraize.specs.Layout.{IsOwn, Layout}
use Rattle.algebraize.proofs.Places.{coordinates_own}
use Rattle.algebraize.proofs.problem.problem_at.Goals as goal

pub vars-requires : goal.vars-requires
vars-requires c =
    let h = proves.laid_out-ok c.args.before.now c.args.prove.now c.in_ok-layout.layout c.in_ok-layout.ensures in
    subst (λ (l : Layout). IsTrue (are_variables l.variables)) (sym h.0) (proves.variables_of_layout c.args.before.now h.1)

pub general-requires-clause-own : goal.general-requires-clause-own
general-requires-clause-own c =
    let h = proves.laid_out-ok c.args.before.now c.args.prove.now c.in_ok-layout.layout c.in_ok-layout.ensures in
    subst IsOwn (sym h.0) (coordinates_own c.args.before.now)
