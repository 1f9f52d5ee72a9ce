-- What placement keeps.
use Rattle.std.specs.Prelude.{◌≡◌, ◌≢◌, ℕ, ℤ, List, [], ◌∷◌, ◌↔◌, false}
use Rattle.poly_model.specs.Domain.{Operations, integers}
use Rattle.gcl_reader.specs.declared.word.Statement.{Statement}
use Rattle.gcl_names.specs.declared.program.Act.{Act}
use Rattle.gcl_names.specs.Sound.{AllFollow, AreMade, after_all, nothing}
use Rattle.algebraize.specs.Vectors.{Vector, minus, sq}
use Rattle.algebraize.specs.Curves.{Curves, no_curves}
use Rattle.algebraize.specs.Figure.{Figure, place_of, effect, conditions, with_effect, AreZero, Meets, MeetsStatement}
use Rattle.algebraize.specs.Layout.{figure_at}
use Rattle.placement.specs.Placing.{free_points, image, image_point}
use Rattle.placement.specs.Images.{is_flat}

-- The first two of these points are at a distance whose square is not zero. Where there are fewer, nothing is asked.
abbrev pub AreApart : {M : Type 0} → Operations M → Figure M → List ℕ → Type 0
AreApart o f [] = Unit {0}
AreApart o f (a ∷ []) = Unit {0}
AreApart o f (a ∷ b ∷ others) = sq o (minus o (place_of o f b) (place_of o f a)) ≢ o.zero

-- The first two free points are apart.
abbrev pub CanBePlaced : {M : Type 0} → Operations M → List Act → Figure M → Type 0
CanBePlaced o acts f = AreApart o f (free_points acts)

-- The figure at the image point.
abbrev pub placed : {M : Type 0} → Operations M → List Act → Figure M → Figure M
placed o acts f = figure_at o acts (image_point o acts f)

-- Each of the acts is met by the one figure exactly if it is by the other, behind those that made these lines and circles.
unfoldable pub MeetAlikeFrom : {M : Type 0} → Operations M → (f g : Figure M) → (c d : Curves M) → List Act → Type 0
MeetAlikeFrom o f g c d [] = Unit {0}
MeetAlikeFrom o f g c d (a ∷ acts) =
    (AreZero o (conditions (effect o f c a.deed)) ↔ AreZero o (conditions (effect o g d a.deed)))
    × MeetAlikeFrom o f g (with_effect (effect o f c a.deed) c) (with_effect (effect o g d a.deed) d) acts

abbrev pub MeetAlike : {M : Type 0} → Operations M → (f g : Figure M) → List Act → Type 0
MeetAlike o f g acts = MeetAlikeFrom o f g no_curves no_curves acts

-- A figure meets each command exactly if it does when it is placed.
abbrev pub PlacementKeepsCommands : {M : Type 0} → Operations M → Type 0
PlacementKeepsCommands {M} o = (acts : List Act) (f : Figure M) → AllFollow nothing acts → CanBePlaced o acts f
    → MeetAlike o f (placed o acts f) acts

-- So it meets all that it constructs exactly if it does when it is placed.
abbrev pub PlacementKeepsConstructions : {M : Type 0} → Operations M → Type 0
PlacementKeepsConstructions {M} o = (acts : List Act) (f : Figure M) → AllFollow nothing acts → CanBePlaced o acts f
    → Meets o f acts ↔ Meets o (placed o acts f) acts

-- It meets a statement over its points exactly if it does when it is placed.
abbrev pub PlacementKeepsStatements : {M : Type 0} → Operations M → Type 0
PlacementKeepsStatements {M} o = (acts : List Act) (f : Figure M) (s : Statement) (points : List ℕ) → AllFollow nothing acts → CanBePlaced o acts f
    → AreMade (after_all nothing acts) points
    → MeetsStatement o f s points ↔ MeetsStatement o (placed o acts f) s points

-- With one free point a place is only moved.
abbrev pub OneFreePointIsMoved : {M : Type 0} → Operations M → Type 0
OneFreePointIsMoved {M} o = (a x : Vector M) → image o (record { origin = a; axis = (o.one, o.zero) }) x ≡ minus o x a

-- Of whole numbers exactly the figures cannot be placed whose first two free points are at one place.
abbrev pub FlatCannotBePlaced : Type 0
FlatCannotBePlaced = (acts : List Act) (f : Figure ℤ) → (is_flat f (free_points acts) ≡ false) ↔ CanBePlaced integers acts f
