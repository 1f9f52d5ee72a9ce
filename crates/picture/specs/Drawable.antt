-- What a deed draws is placed.
use Rattle.std.specs.Prelude.{◌≡◌, ◌<◌, ℤ, length}
use Rattle.fixed_point.specs.Ticks.{ticks_of}
use Rattle.gcl_names.specs.declared.program.Deed.{Deed}
use Rattle.gcl_names.specs.declared.program.Deed.TheVariants as deed
use Rattle.construct.specs.Placing.{Positions}
use Rattle.picture.specs.Shapes.{IsExtent}

-- What is drawn is one of the points, lines and circles that are placed.
abbrev pub Draws : Positions → Deed → Type 0
Draws f (deed.Dim w h) = Unit {0}
Draws f (deed.Color r g b) = Unit {0}
Draws f (deed.Prooflevel n) = Unit {0}
Draws f (deed.Prooflimit n) = Unit {0}
Draws f (deed.ProverTimeout n) = Unit {0}
Draws f (deed.Point p x y) = Unit {0}
Draws f (deed.Line l a b) = Unit {0}
Draws f (deed.Circle k o a) = Unit {0}
Draws f (deed.Intersec x a b) = Unit {0}
Draws f (deed.CutLine x y k a) = Unit {0}
Draws f (deed.CutCircle x y k m) = Unit {0}
Draws f (deed.Midpoint m a b) = Unit {0}
Draws f (deed.Med m a b) = Unit {0}
Draws f (deed.Perp p a l) = Unit {0}
Draws f (deed.Parallel p a l) = Unit {0}
Draws f (deed.Foot p a l) = Unit {0}
Draws f (deed.Online x a b) = Unit {0}
Draws f (deed.Oncircle x o a) = Unit {0}
Draws f (deed.Translate x a b c) = Unit {0}
Draws f (deed.Towards x a b r) = Unit {0}
Draws f (deed.Drawpoint a) = a < length f.points
Draws f (deed.Drawsegment a b) = (a < length f.points) × (b < length f.points)
Draws f (deed.Drawdashsegment a b) = (a < length f.points) × (b < length f.points)
Draws f (deed.Drawline l) = l < length f.lines
Draws f (deed.Drawcircle k) = k < length f.circles
Draws f (deed.Cmark a) = a < length f.points
Draws f (deed.CmarkAt s a) = a < length f.points
Draws f (deed.Mark s a) = a < length f.points
Draws f (deed.Prove s ps) = Unit {0}

-- A size is that of a picture.
abbrev pub IsSized : Deed → Type 0
IsSized d = (w h : ℤ) → d ≡ deed.Dim w h → IsExtent (ticks_of w) × IsExtent (ticks_of h)
