-- Where figures of whole numbers come to stand.
use Rattle.std.specs.Prelude.{ℕ, ℤ, List, [], ◌∷◌, Bool, false, ◌&&◌, if◌then◌else◌, take, IsTrue}
use Rattle.std.specs.List.{list_all}
use Rattle.std.specs.Ordering.{int_eq}
use Rattle.poly_model.specs.Domain.{integers}
use Rattle.poly_model.specs.Standard.{is_bounded}
use Rattle.gcl_names.specs.declared.program.Act.{Act}
use Rattle.algebraize.specs.declared.points.NewPoints.{NewPoints}
use Rattle.algebraize.specs.declared.points.NewPoints.TheVariants as new
use Rattle.algebraize.specs.Vectors.{Vector}
use Rattle.algebraize.specs.Figure.{Figure, place_of}
use Rattle.algebraize.specs.Problem.{acts_before}
use Rattle.placement.specs.Placing.{free_points, image_point}
use Rattle.placement.specs.declared.image.Image.{Image}
use Rattle.placement.specs.declared.image.Image.TheVariants as image

-- The two places are one.
abbrev pub are_same : Vector ℤ → Vector ℤ → Bool
are_same p q = int_eq p.0 q.0 && int_eq p.1 q.1

-- The first two free points are at one place.
abbrev pub is_flat : Figure ℤ → List ℕ → Bool
is_flat f [] = false
is_flat f (a ∷ []) = false
is_flat f (a ∷ b ∷ others) = are_same (place_of integers f a) (place_of integers f b)

-- Where a figure of these acts comes to stand: nowhere, where its first two free points are at one place.
abbrev pub image_before : List Act → Figure ℤ → Image
image_before acts f = if is_flat f (free_points acts) then image.Flat else image.Point (image_point integers acts f)

-- Where a figure of the acts before the prove number k, counted from 0, comes to stand.
abbrev pub image_of : List Act → ℕ → Figure ℤ → Image
image_of acts k f = image_before (take (acts_before k acts) acts) f

-- No number passes the greatest size.
abbrev pub AreBounded : List ℤ → Type 0
AreBounded zs = IsTrue (list_all is_bounded zs)

abbrev pub IsBounded : Image → Type 0
IsBounded (image.Point zs) = AreBounded zs
IsBounded image.Flat = Unit {0}

-- How many points a command makes, by their kind.
abbrev pub count_of : NewPoints → ℕ
count_of new.NoPoint = 0
count_of new.Free = 1
count_of new.SemiFree = 1
count_of new.Dependent = 1
count_of new.TwoDependent = 2
