use Rattle.std.proofs.Common.{sym, subst, length}
use Rattle.poly_model.specs.declared.limits.TheConstants.{MOST_VARIABLES}
use Rattle.algebraize.specs.Layout.{AreBelow}
use Rattle.algebraize.proofs.Places.{AreBelow-more}
use Rattle.algebraize.proofs.figure.Figure.general.Goals as goal

pub places-requires-2 : goal.places-requires-2
places-requires-2 c =
    subst (AreBelow MOST_VARIABLES) (sym c.places.ensures)
    (AreBelow-more (length c.args.layout.now.variables) MOST_VARIABLES c.args.layout.now.places c.requires.within c.requires.own)
