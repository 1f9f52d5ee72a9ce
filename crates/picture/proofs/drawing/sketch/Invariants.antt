use Rattle.std.proofs.Common.{◌≡◌, drop, length}
use Rattle.construct.specs.Spots.{positions_of}
use Rattle.picture.specs.Drawing.{blank, drawn_from}
use Rattle.picture.proofs.drawing.sketch.Given as goal

abbrev pub invariant-loop-act : goal.invariant-loop-act
invariant-loop-act l = record {
  rest : drawn_from l.a (positions_of l.spots) (drop l.act-index l.acts) l.canvas.1 ≡ drawn_from l.a (positions_of l.spots) l.acts blank;
  names : l.canvas.0 ≡ length l.program.points;
}
