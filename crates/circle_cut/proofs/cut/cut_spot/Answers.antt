use Rattle.std.proofs.Common.{sym, subst}
use Rattle.circle_cut.specs.declared.limits.TheConstants.{MOST_CUT}
use Rattle.circle_cut.specs.Places.{rounded}
use Rattle.circle_cut.specs.Sizes.{IsSpotWithin}
use Rattle.circle_cut.proofs.Cuts.{cut_near}
use Rattle.circle_cut.proofs.cut.cut_spot.Goals as goal

pub round-requires-clause-near : goal.round-requires-clause-near
round-requires-clause-near c =
    subst (λ e. IsSpotWithin MOST_CUT (rounded e)) (sym c.cut_at.ensures.value)
    (cut_near c.args.s c.args.k.now c.args.a.now c.requires.circle c.requires.some c.requires.meet c.requires.root)
