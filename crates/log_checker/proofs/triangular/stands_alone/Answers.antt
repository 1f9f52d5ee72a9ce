use Rattle.std.proofs.Common.{[], arith}
use Rattle.log_checker.proofs.Dues as dues
use Rattle.log_checker.proofs.Reducing as reducing
use Rattle.log_checker.proofs.triangular.stands_alone.Goals as goal

pub returns : goal.returns
returns g c =
    let E = c.args.eqs.now in
    let f = dues.there E c.args.at _ [] _ c.requires.at c.index-eqs-at.is in
    reducing.known-so c.is_known.result _ _
    (reducing.stands-alone E c.args.nes.now c.args.classes.now c.args.at c.count.result _ c.requires.classes c.requires.at f c.if-x-eq0.false c.count.ensures (omega (arith, c.if-count-ne1.false)))
    c.is_known.ensures.ok
