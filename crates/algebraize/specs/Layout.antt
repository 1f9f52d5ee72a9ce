-- The coordinates of a program's points, and the figure at a point of a domain's space.
use Rattle.std.specs.Prelude.{ℕ, ◌+◌, ◌<◌, ◌==◌, List, [], ◌∷◌, ◌++◌, length, map, get_or, if◌then◌else◌}
use Rattle.poly_model.specs.Domain.{Operations}
use Rattle.poly_model.specs.declared.vars.VarName.{VarName}
use Rattle.poly_model.specs.declared.vars.VarName.TheVariants as name
use Rattle.gcl_names.specs.declared.program.Act.{Act}
use Rattle.gcl_names.specs.declared.program.Deed.{Deed}
use Rattle.gcl_names.specs.declared.program.Deed.TheVariants as deed
use Rattle.algebraize.specs.declared.layout.Coordinate.{Coordinate}
use Rattle.algebraize.specs.declared.layout.Coordinate.TheVariants as coordinate
use Rattle.algebraize.specs.declared.points.NewPoints.{NewPoints}
use Rattle.algebraize.specs.declared.points.NewPoints.TheVariants as new
use Rattle.algebraize.specs.Vectors.{Vector}
use Rattle.algebraize.specs.Figure.{Figure}

-- The points that a command makes.
abbrev pub new_points : Deed → NewPoints
new_points (deed.Dim w h) = new.NoPoint
new_points (deed.Color r g b) = new.NoPoint
new_points (deed.Prooflevel n) = new.NoPoint
new_points (deed.Prooflimit n) = new.NoPoint
new_points (deed.ProverTimeout n) = new.NoPoint
new_points (deed.Point p x y) = new.Free
new_points (deed.Line l a b) = new.NoPoint
new_points (deed.Circle k a b) = new.NoPoint
new_points (deed.Intersec x a b) = new.Dependent
new_points (deed.CutLine x y k l) = new.TwoDependent
new_points (deed.CutCircle x y k m) = new.TwoDependent
new_points (deed.Midpoint m a b) = new.Dependent
new_points (deed.Med l a b) = new.NoPoint
new_points (deed.Perp p a l) = new.NoPoint
new_points (deed.Parallel p a l) = new.NoPoint
new_points (deed.Foot p a l) = new.Dependent
new_points (deed.Online x a b) = new.SemiFree
new_points (deed.Oncircle x a b) = new.SemiFree
new_points (deed.Translate x a b c) = new.Dependent
new_points (deed.Towards x a b r) = new.Dependent
new_points (deed.Drawpoint a) = new.NoPoint
new_points (deed.Drawsegment a b) = new.NoPoint
new_points (deed.Drawdashsegment a b) = new.NoPoint
new_points (deed.Drawline l) = new.NoPoint
new_points (deed.Drawcircle k) = new.NoPoint
new_points (deed.Cmark a) = new.NoPoint
new_points (deed.CmarkAt s a) = new.NoPoint
new_points (deed.Mark s a) = new.NoPoint
new_points (deed.Prove s points) = new.NoPoint

-- Coordinates given so far, by the number of the point; the variables in the order of making; how
-- many points were free, and how many variables were named u and x.
pub record Layout : Type 0 where
  pub places : List (Coordinate × Coordinate)
  pub variables : List VarName
  pub frees : ℕ
  pub us : ℕ
  pub xs : ℕ

abbrev pub empty : Layout
empty = record { places = []; variables = []; frees = 0; us = 0; xs = 0 }

-- The coordinate that is the next variable.
abbrev pub next : Layout → Coordinate
next l = coordinate.Variable (length l.variables)

-- The next variable is made, a u or an x.
abbrev pub with_u : Layout → Layout
with_u l = record l { variables = l.variables ++ name.U (l.us + 1) ∷ []; us = l.us + 1 }

abbrev pub with_x : Layout → Layout
with_x l = record l { variables = l.variables ++ name.X (l.xs + 1) ∷ []; xs = l.xs + 1 }

-- One more point has these coordinates.
abbrev pub with_place : Coordinate → Coordinate → Layout → Layout
with_place x y l = record l { places = l.places ++ (x, y) ∷ [] }

-- A free point: the first is the origin, the second stands on the axis, each other has two u's of
-- its own.
abbrev pub free_point : Layout → Layout
free_point l =
    if l.frees == 0 then with_place coordinate.Zero coordinate.Zero (record l { frees = 1 })
    else (if l.frees == 1 then with_place (next l) coordinate.Zero (record (with_u l) { frees = 2 })
    else with_place (next l) (next (with_u l)) (with_u (with_u l)))

-- A point on a line or a circle has a u and an x of its own.
abbrev pub semi_free_point : Layout → Layout
semi_free_point l = with_place (next l) (next (with_u l)) (with_x (with_u l))

-- A point that others determine has two x's of its own.
abbrev pub dependent_point : Layout → Layout
dependent_point l = with_place (next l) (next (with_x l)) (with_x (with_x l))

abbrev pub with_points : NewPoints → Layout → Layout
with_points new.NoPoint l = l
with_points new.Free l = free_point l
with_points new.SemiFree l = semi_free_point l
with_points new.Dependent l = dependent_point l
with_points new.TwoDependent l = dependent_point (dependent_point l)

unfoldable pub layout_from : Layout → List Act → Layout
layout_from l [] = l
layout_from l (a ∷ acts) = layout_from (with_points (new_points a.deed) l) acts

-- The layout of a list of acts.
abbrev pub layout_of : List Act → Layout
layout_of acts = layout_from empty acts

-- A coordinate is zero or one of the first n variables.
abbrev pub IsBelow : ℕ → Coordinate → Type 0
IsBelow n coordinate.Zero = Unit {0}
IsBelow n (coordinate.Variable i) = i < n

abbrev pub AreBelow : ℕ → List (Coordinate × Coordinate) → Type 0
AreBelow n [] = Unit {0}
AreBelow n (c ∷ cs) = IsBelow n c.0 × IsBelow n c.1 × AreBelow n cs

-- A layout whose coordinates are zero or its own variables.
abbrev pub IsOwn : Layout → Type 0
IsOwn l = AreBelow (length l.variables) l.places

-- A coordinate read from a point, whose members are the values of the variables in order. A missing
-- one counts as one.
abbrev pub coordinate_at : {M : Type 0} → Operations M → List M → Coordinate → M
coordinate_at o point coordinate.Zero = o.zero
coordinate_at o point (coordinate.Variable i) = get_or point i o.one

abbrev pub place_at : {M : Type 0} → Operations M → List M → Coordinate × Coordinate → Vector M
place_at o point c = (coordinate_at o point c.0, coordinate_at o point c.1)

-- The figure of these acts at a point.
abbrev pub figure_at : {M : Type 0} → Operations M → List Act → List M → Figure M
figure_at o acts point = map (place_at o point) (layout_of acts).places
