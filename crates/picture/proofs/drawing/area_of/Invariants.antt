use Rattle.std.proofs.Common.{◌≡◌, drop}
use Rattle.line_clip.specs.Sizes.{IsArea}
use Rattle.picture.specs.Drawing.{area_from, area_of}
use Rattle.picture.proofs.drawing.area_of.Given as goal

abbrev pub invariant-loop-act : goal.invariant-loop-act
invariant-loop-act l = record {
  rest : area_from (drop l.act-index l.acts) l.a ≡ area_of l.acts;
  area : IsArea l.a;
}
