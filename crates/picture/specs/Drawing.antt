-- The picture of a program over its positions.
use Rattle.std.specs.Prelude.{ℕ, List, [], ◌∷◌, ◌++◌, get_or, ℤ, pos, unsigned_abs, Option, Some, None}
use Rattle.edge_num.specs.Roots.{root}
use Rattle.fixed_point.specs.Ticks.{ticks_of}
use Rattle.fixed_point.specs.declared.spot.Spot.{Spot}
use Rattle.fixed_point.specs.declared.curve.LineEq.{LineEq}
use Rattle.fixed_point.specs.declared.curve.Round.{Round}
use Rattle.gcl_names.specs.declared.program.Act.{Act}
use Rattle.gcl_names.specs.declared.program.Deed.{Deed}
use Rattle.gcl_names.specs.declared.program.Deed.TheVariants as deed
use Rattle.construct.specs.Placing.{Positions}
use Rattle.line_clip.specs.declared.part.Area.{Area}
use Rattle.line_clip.specs.declared.part.Line.{Line}
use Rattle.line_clip.specs.Ends.{drawn_line}
use Rattle.picture.specs.declared.drawing.TheConstants.{WIDTH, HEIGHT}
use Rattle.picture.specs.declared.shape.Ink.{Ink}
use Rattle.picture.specs.declared.shape.Picture.{Picture}
use Rattle.picture.specs.declared.shape.Shape.{Shape}
use Rattle.picture.specs.declared.shape.Shape.TheVariants as shape

-- The spot of a point, the line and the circle of a number.
abbrev pub spot_at : Positions → ℕ → Spot
spot_at f p = get_or f.points p (record { x = pos 0; y = pos 0 })

abbrev pub line_at : Positions → ℕ → LineEq
line_at f l = get_or f.lines l (record { n1 = pos 0; n2 = pos 0; c = pos 0; v1 = pos 0; v2 = pos 0 })

abbrev pub circle_at : Positions → ℕ → Round
circle_at f k = get_or f.circles k (record { centre = record { x = pos 0; y = pos 0 }; square = pos 0 })

-- ---- the area
-- The area after a deed: a size replaces the one before.
abbrev pub sized : Deed → Area → Area
sized (deed.Dim w h) a = record { w = ticks_of w; h = ticks_of h }
sized (deed.Color r g b) a = a
sized (deed.Prooflevel n) a = a
sized (deed.Prooflimit n) a = a
sized (deed.ProverTimeout n) a = a
sized (deed.Point p x y) a = a
sized (deed.Line l p q) a = a
sized (deed.Circle k o p) a = a
sized (deed.Intersec x l m) a = a
sized (deed.CutLine x y k l) a = a
sized (deed.CutCircle x y k m) a = a
sized (deed.Midpoint m p q) a = a
sized (deed.Med l p q) a = a
sized (deed.Perp l p m) a = a
sized (deed.Parallel l p m) a = a
sized (deed.Foot f p l) a = a
sized (deed.Online x p q) a = a
sized (deed.Oncircle x o p) a = a
sized (deed.Translate x p q r) a = a
sized (deed.Towards x p q r) a = a
sized (deed.Drawpoint p) a = a
sized (deed.Drawsegment p q) a = a
sized (deed.Drawdashsegment p q) a = a
sized (deed.Drawline l) a = a
sized (deed.Drawcircle k) a = a
sized (deed.Cmark p) a = a
sized (deed.CmarkAt s p) a = a
sized (deed.Mark s p) a = a
sized (deed.Prove s ps) a = a

unfoldable pub area_from : List Act → Area → Area
area_from [] a = a
area_from (act ∷ acts) a = area_from acts (sized act.deed a)

-- The area of a program: that of its last size, or 140 by 100 mm.
abbrev pub area_of : List Act → Area
area_of acts = area_from acts (record { w = pos WIDTH; h = pos HEIGHT })

-- ---- the shapes
-- The colour of what follows, and the shapes so far.
pub record Sketch : Type 0 where
  pub ink : Ink
  pub shapes : List (Ink × Shape)

-- Nothing is drawn yet, and the colour is black.
abbrev pub blank : Sketch
blank = record { ink = record { r = 0; g = 0; b = 0 }; shapes = [] }

-- One more shape, in the colour of the moment.
abbrev pub with_shape : Shape → Sketch → Sketch
with_shape s p = record p { shapes = p.shapes ++ (p.ink, s) ∷ [] }

-- A line without its direction.
abbrev pub line_of : LineEq → Line
line_of l = record { n1 = l.n1; n2 = l.n2; c = l.c }

-- The part of a line that is in the area, where it has two ends.
unfoldable pub with_ends : Option (Spot × Spot) → Sketch → Sketch
with_ends None p = p
with_ends (Some ends) p = with_shape (shape.Segment ends.0 ends.1) p

-- The radius of a circle, rounded down.
abbrev pub radius_of : Round → ℤ
radius_of k = pos (root (unsigned_abs k.square))

-- The sketch after a deed.
abbrev pub drawn : Area → Positions → Deed → Sketch → Sketch
drawn a f (deed.Dim w h) p = p
drawn a f (deed.Color r g b) p = record p { ink = record { r = r; g = g; b = b } }
drawn a f (deed.Prooflevel n) p = p
drawn a f (deed.Prooflimit n) p = p
drawn a f (deed.ProverTimeout n) p = p
drawn a f (deed.Point x m n) p = p
drawn a f (deed.Line l x y) p = p
drawn a f (deed.Circle k o x) p = p
drawn a f (deed.Intersec x l m) p = p
drawn a f (deed.CutLine x y k l) p = p
drawn a f (deed.CutCircle x y k m) p = p
drawn a f (deed.Midpoint m x y) p = p
drawn a f (deed.Med l x y) p = p
drawn a f (deed.Perp l x m) p = p
drawn a f (deed.Parallel l x m) p = p
drawn a f (deed.Foot x y l) p = p
drawn a f (deed.Online x y z) p = p
drawn a f (deed.Oncircle x o y) p = p
drawn a f (deed.Translate x y z w) p = p
drawn a f (deed.Towards x y z r) p = p
drawn a f (deed.Drawpoint x) p = with_shape (shape.Dot (spot_at f x)) p
drawn a f (deed.Drawsegment x y) p = with_shape (shape.Segment (spot_at f x) (spot_at f y)) p
drawn a f (deed.Drawdashsegment x y) p = with_shape (shape.Dashed (spot_at f x) (spot_at f y)) p
drawn a f (deed.Drawline l) p = with_ends (drawn_line a (line_of (line_at f l))) p
drawn a f (deed.Drawcircle k) p = with_shape (shape.Whole (circle_at f k).centre (radius_of (circle_at f k))) p
drawn a f (deed.Cmark x) p = with_shape (shape.Ring (spot_at f x)) p
drawn a f (deed.CmarkAt s x) p = with_shape (shape.Label (spot_at f x) s x) (with_shape (shape.Ring (spot_at f x)) p)
drawn a f (deed.Mark s x) p = with_shape (shape.Label (spot_at f x) s x) p
drawn a f (deed.Prove s ps) p = p

unfoldable pub drawn_from : Area → Positions → List Act → Sketch → Sketch
drawn_from a f [] p = p
drawn_from a f (act ∷ acts) p = drawn_from a f acts (drawn a f act.deed p)

-- The picture of a program: the area of its last size, and its shapes over that area, in the order of its commands.
unfoldable pub picture_of : List Act → Positions → Picture
picture_of acts f =
    let a : Area = area_of acts in
    record { w = a.w; h = a.h; shapes = (drawn_from a f acts blank).shapes }
