use Rattle.std.proofs.Common.{◌≡◌}
use Rattle.poly_model.specs.Domain.{integers}
use Rattle.placement.specs.Placing.{frame_with, listed_to}
use Rattle.placement.specs.Images.{AreBounded}
use Rattle.placement.proofs.image.image_point.Given as goal

abbrev pub invariant-loop-i : goal.invariant-loop-i
invariant-loop-i l = record {
  value : l.point.items ≡ listed_to integers (frame_with l.frame.0 l.frame.1) l.figure l.frees l.i;
  bounded : AreBounded l.point.items;
}
