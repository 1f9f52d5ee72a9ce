-- The text of a picture as a drawing in Scalable Vector Graphics: a line for its head, for each shape and for its end.
-- Numbers are millimetres, and y grows downwards there.
use Rattle.std.specs.Prelude.{ℕ, List, [], ◌∷◌, ◌++◌, codes, decimal, get_or, ℤ, ◌-ℤ◌}
use Rattle.std.specs.List.{flat_map}
use Rattle.fixed_point.specs.Text.{number_text}
use Rattle.fixed_point.specs.declared.limits.TheConstants.{TICK_DECIMALS}
use Rattle.fixed_point.specs.declared.spot.Spot.{Spot}
use Rattle.gcl_reader.specs.declared.word.Side.{Side}
use Rattle.picture.specs.Pieces.{row}
use Rattle.picture.specs.declared.piece.Measure.{Measure}
use Rattle.picture.specs.declared.shape.Ink.{Ink}
use Rattle.picture.specs.declared.shape.Picture.{Picture}
use Rattle.picture.specs.declared.shape.Shape.{Shape}
use Rattle.picture.specs.declared.shape.Shape.TheVariants as shape
use Rattle.svg_out.specs.Sides.{offset_of, anchor_of, moved}

-- A number of ticks in millimetres.
abbrev pub length_text : ℤ → List ℕ
length_text n = number_text TICK_DECIMALS n

-- The line that opens a drawing of a width and a height.
unfoldable pub head_text : Measure → Measure → List ℕ
head_text w h = row (
    codes "<svg xmlns=\"http://www.w3.org/2000/svg\" width=\"" ∷ length_text w.ticks ∷ codes "mm\" height=\"" ∷ length_text h.ticks
    ∷ codes "mm\" viewBox=\"0 0 " ∷ length_text w.ticks ∷ codes " " ∷ length_text h.ticks ∷ codes "\">\n" ∷ [])

-- A straight line, in a drawing of height h, and what it ends with.
unfoldable pub straight_text : Measure → Ink → Spot → Spot → List ℕ → List ℕ
straight_text h ink a b end = row (
    codes "<line x1=\"" ∷ length_text a.x ∷ codes "\" y1=\"" ∷ length_text (h.ticks -ℤ a.y)
    ∷ codes "\" x2=\"" ∷ length_text b.x ∷ codes "\" y2=\"" ∷ length_text (h.ticks -ℤ b.y)
    ∷ codes "\" stroke=\"rgb(" ∷ decimal ink.r ∷ codes "," ∷ decimal ink.g ∷ codes "," ∷ decimal ink.b
    ∷ codes ")\" stroke-width=\"0.2\"" ∷ end ∷ [])

unfoldable pub circle_text : Measure → Ink → Spot → Measure → List ℕ
circle_text h ink a r = row (
    codes "<circle cx=\"" ∷ length_text a.x ∷ codes "\" cy=\"" ∷ length_text (h.ticks -ℤ a.y) ∷ codes "\" r=\"" ∷ length_text r.ticks
    ∷ codes "\" fill=\"none\" stroke=\"rgb(" ∷ decimal ink.r ∷ codes "," ∷ decimal ink.g ∷ codes "," ∷ decimal ink.b
    ∷ codes ")\" stroke-width=\"0.2\"/>\n" ∷ [])

-- The mark of a point: a small circle of a look, and what it ends with.
unfoldable pub mark_text : Measure → Ink → Spot → List ℕ → List ℕ → List ℕ
mark_text h ink a look end = row (
    codes "<circle cx=\"" ∷ length_text a.x ∷ codes "\" cy=\"" ∷ length_text (h.ticks -ℤ a.y) ∷ codes "\" r=\"" ∷ look
    ∷ codes "=\"rgb(" ∷ decimal ink.r ∷ codes "," ∷ decimal ink.g ∷ codes "," ∷ decimal ink.b ∷ end ∷ [])

-- A name at a place, by the end that stands there.
unfoldable pub name_text : Measure → Ink → Spot → List ℕ → List ℕ → List ℕ
name_text h ink place anchor name = row (
    codes "<text x=\"" ∷ length_text place.x ∷ codes "\" y=\"" ∷ length_text (h.ticks -ℤ place.y)
    ∷ codes "\" font-size=\"4\" text-anchor=\"" ∷ anchor
    ∷ codes "\" fill=\"rgb(" ∷ decimal ink.r ∷ codes "," ∷ decimal ink.g ∷ codes "," ∷ decimal ink.b ∷ codes ")\">" ∷ name ∷ codes "</text>\n" ∷ [])

-- The name of a point beside its spot.
unfoldable pub label_text : Measure → List (List ℕ) → Ink → Spot → Side → ℕ → List ℕ
label_text h names ink a s p = name_text h ink (moved a (offset_of s)) (anchor_of s) (get_or names p [])

-- The line of a shape in a colour; the names are those of the points.
abbrev pub shape_text : Measure → List (List ℕ) → Ink → Shape → List ℕ
shape_text h names ink (shape.Segment a b) = straight_text h ink a b (codes "/>\n")
shape_text h names ink (shape.Dashed a b) = straight_text h ink a b (codes " stroke-dasharray=\"1 1\"/>\n")
shape_text h names ink (shape.Whole a r) = circle_text h ink a (record { ticks = r })
shape_text h names ink (shape.Dot a) = mark_text h ink a (codes "0.4\" fill") (codes ")\"/>\n")
shape_text h names ink (shape.Ring a) = mark_text h ink a (codes "0.6\" fill=\"white\" stroke") (codes ")\" stroke-width=\"0.2\"/>\n")
shape_text h names ink (shape.Label a s p) = label_text h names ink a s p

-- The lines of shapes, each with its colour, in their order.
abbrev pub shapes_text : Measure → List (List ℕ) → List (Ink × Shape) → List ℕ
shapes_text h names shapes = flat_map (λ (item : Ink × Shape). shape_text h names item.0 item.1) shapes

-- A drawing.
unfoldable pub svg_text : Picture → List (List ℕ) → List ℕ
svg_text picture names =
    let w : Measure = record { ticks = picture.w } in
    let h : Measure = record { ticks = picture.h } in
    head_text w h ++ shapes_text h names picture.shapes ++ codes "</svg>\n"
