use Rattle.std.proofs.Common.{◌≡◌, sym, subst, arith}
use Rattle.std.specs.Prelude.{pos}
use Rattle.std.proofs.lemmas.Int.{ints}
use Rattle.circle_cut.specs.declared.limits.TheConstants.{MOST_CUT}
use Rattle.circle_cut.specs.Places.{rounded}
use Rattle.circle_cut.specs.Sizes.{IsSpotWithin}
use Rattle.latex_out.specs.Dashes.{division}
use Rattle.latex_out.proofs.Dividing.{division-near}
use Rattle.latex_out.proofs.dash.division.Goals as goal

pub round-requires-clause-near : goal.round-requires-clause-near
unfolding division
round-requires-clause-near c =
    let m : c.new-parts.result ≡ pos c.args.m = omega (arith, ints, c.new-parts.ensures) in
    let j : c.new.result ≡ pos c.args.j = omega (arith, ints, c.new.ensures) in
    let e : rounded c.over.result ≡ division c.args.j c.args.m c.args.a.now c.args.b.now = cc in
    subst (IsSpotWithin MOST_CUT) (sym e)
    (division-near c.args.j c.args.m c.args.a.now c.args.b.now c.requires.near.0 c.requires.near.1 c.requires.some c.requires.within)
