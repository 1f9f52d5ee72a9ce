-- Placement: how a figure is moved and turned to where claims speak of it, and the point that it has there.
use Rattle.std.specs.Prelude.{ℕ, zero, suc, ◌==◌, List, [], ◌∷◌, ◌++◌, Bool, false, if◌then◌else◌}
use Rattle.poly_model.specs.Domain.{Operations}
use Rattle.gcl_names.specs.declared.program.Act.{Act}
use Rattle.gcl_names.specs.declared.program.Deed.{Deed}
use Rattle.gcl_names.specs.declared.program.Deed.TheVariants as deed
use Rattle.gcl_names.specs.Sound.{after_all, nothing}
use Rattle.algebraize.specs.Vectors.{Vector, coordinates, minus, dot, cross, sq}
use Rattle.algebraize.specs.Figure.{Figure, place_of}

-- The number of the free point that a command makes.
abbrev pub free_in : Deed → List ℕ
free_in (deed.Dim w h) = []
free_in (deed.Color r g b) = []
free_in (deed.Prooflevel n) = []
free_in (deed.Prooflimit n) = []
free_in (deed.ProverTimeout n) = []
free_in (deed.Point p x y) = p ∷ []
free_in (deed.Line l a b) = []
free_in (deed.Circle k a b) = []
free_in (deed.Intersec x a b) = []
free_in (deed.CutLine x y k l) = []
free_in (deed.CutCircle x y k m) = []
free_in (deed.Midpoint m a b) = []
free_in (deed.Med l a b) = []
free_in (deed.Perp p a l) = []
free_in (deed.Parallel p a l) = []
free_in (deed.Foot p a l) = []
free_in (deed.Online x a b) = []
free_in (deed.Oncircle x a b) = []
free_in (deed.Translate x a b c) = []
free_in (deed.Towards x a b t) = []
free_in (deed.Drawpoint a) = []
free_in (deed.Drawsegment a b) = []
free_in (deed.Drawdashsegment a b) = []
free_in (deed.Drawline l) = []
free_in (deed.Drawcircle k) = []
free_in (deed.Cmark a) = []
free_in (deed.CmarkAt s a) = []
free_in (deed.Mark s a) = []
free_in (deed.Prove s points) = []

-- The numbers of the free points, in order of definition.
unfoldable pub free_points : List Act → List ℕ
free_points [] = []
free_points (a ∷ acts) = free_in a.deed ++ free_points acts

-- A place that becomes the origin, and a vector that becomes the direction of the first axis.
pub record Frame (M : Type 0) : Type 0 where
  pub origin : Vector M
  pub axis : Vector M

abbrev pub frame_with : {M : Type 0} → Vector M → Vector M → Frame M
frame_with origin axis = record { origin = origin; axis = axis }

-- The frame of the first two free points, or of the only one.
abbrev pub frame_of : {M : Type 0} → Operations M → Figure M → List ℕ → Frame M
frame_of o f [] = record { origin = (o.zero, o.zero); axis = (o.one, o.zero) }
frame_of o f (a ∷ []) = record { origin = place_of o f a; axis = (o.one, o.zero) }
frame_of o f (a ∷ b ∷ others) = record { origin = place_of o f a; axis = minus o (place_of o f b) (place_of o f a) }

-- A vector along and across the axis: times the axis's length, turned so that the axis is the first direction.
abbrev pub turned : {M : Type 0} → Operations M → Vector M → Vector M → Vector M
turned o axis v = (dot o axis v, cross o axis v)

-- Where a place comes to stand.
abbrev pub image : {M : Type 0} → Operations M → Frame M → Vector M → Vector M
image o r x = turned o r.axis (minus o x r.origin)

abbrev pub is_first : List ℕ → ℕ → Bool
is_first [] i = false
is_first (a ∷ others) i = a == i

abbrev pub is_second : List ℕ → ℕ → Bool
is_second [] i = false
is_second (a ∷ []) i = false
is_second (a ∷ b ∷ others) i = b == i

-- What a point gives of its image: the first free point nothing, the second its first coordinate, each other both.
abbrev pub listed : {M : Type 0} → Operations M → Frame M → Figure M → List ℕ → ℕ → List M
listed o r f frees i =
    if is_first frees i then [] else (if is_second frees i then sq o r.axis ∷ [] else coordinates (image o r (place_of o f i)))

-- What the first n points give.
unfoldable pub listed_to : {M : Type 0} → Operations M → Frame M → Figure M → List ℕ → ℕ → List M
listed_to o r f frees zero = []
listed_to o r f frees (suc n) = listed_to o r f frees n ++ listed o r f frees n

-- The frame of a figure of these acts.
abbrev pub frame : {M : Type 0} → Operations M → List Act → Figure M → Frame M
frame o acts f = frame_of o f (free_points acts)

-- The image point of a figure of these acts: the values of their variables, in order.
abbrev pub image_point : {M : Type 0} → Operations M → List Act → Figure M → List M
image_point o acts f = listed_to o (frame o acts f) f (free_points acts) (after_all nothing acts).points
