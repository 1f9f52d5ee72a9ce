-- A worked image, computed: a triangle that is not placed, and two midpoints.
use Rattle.std.proofs.Common.{◌≡◌, List, [], ◌∷◌, refl}
use Rattle.std.specs.Prelude.{ℤ, pos}
use Rattle.gcl_names.specs.declared.program.Act.{Act}
use Rattle.gcl_names.specs.declared.program.Deed.{Deed}
use Rattle.gcl_names.specs.declared.program.Deed.TheVariants as deed
use Rattle.gcl_names.specs.Sound.{after_all}
use Rattle.algebraize.specs.Figure.{Figure}
use Rattle.placement.specs.Images.{image_before}
use Rattle.placement.specs.Placing.{free_points, listed_to}
use Rattle.placement.specs.declared.image.Image.TheVariants as image

abbrev act : Deed → Act
act d = record { line = 1; at = 0; len = 0; deed = d }

-- points A, B and C, the midpoint D of A and C, and the midpoint E of B and C
abbrev acts : List Act
acts =
    act (deed.Point 0 (pos 0) (pos 0)) ∷ act (deed.Point 1 (pos 0) (pos 0)) ∷ act (deed.Point 2 (pos 0) (pos 0))
    ∷ act (deed.Midpoint 3 0 2) ∷ act (deed.Midpoint 4 1 2) ∷ []

abbrev figure : Figure ℤ
figure = (pos 0, pos 2) ∷ (pos 4, pos 4) ∷ (pos 2, pos 8) ∷ (pos 1, pos 5) ∷ (pos 3, pos 6) ∷ []

moved : image_before acts figure ≡ image.Point (pos 20 ∷ pos 20 ∷ pos 20 ∷ pos 10 ∷ pos 10 ∷ pos 20 ∷ pos 10 ∷ [])
unfolding free_points listed_to after_all
moved = refl

-- B stands at A
abbrev flat_figure : Figure ℤ
flat_figure = (pos 0, pos 2) ∷ (pos 0, pos 2) ∷ (pos 2, pos 8) ∷ (pos 1, pos 5) ∷ (pos 3, pos 6) ∷ []

nowhere : image_before acts flat_figure ≡ image.Flat
unfolding free_points
nowhere = refl
