use Rattle.std.proofs.Common.{rules, sym, subst}
use Rattle.circle_cut.specs.Lines.{line_with}
use Rattle.circle_cut.specs.Sizes.{IsLaid}
use Rattle.circle_cut.proofs.Laid.{laid_with}
use Rattle.circle_cut.proofs.line.line_with.Goals as goal

same : goal.returns-clause-value
unfolding line_with
same c = search rules

pub returns-clause-value : goal.returns-clause-value
returns-clause-value c = same c

pub returns-clause-laid : goal.returns-clause-laid
returns-clause-laid c =
    let r = c.requires in
    subst IsLaid (sym (same c)) (laid_with c.args.n.now c.args.v.now c.args.c r.normal r.place r.some r.direction)
