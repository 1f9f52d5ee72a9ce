-- The text of a picture for LaTeX: a picture environment with a line for each shape. Numbers are millimetres.
use Rattle.std.specs.Prelude.{ℕ, ◌+◌, ◌*◌, List, [], ◌∷◌, ◌++◌, zero, suc, codes, decimal, get_or, take, drop, position, Option, Some, None, ◌==◌, ℤ, pos, ◌*ℤ◌, if◌then◌else◌}
use Rattle.std.specs.List.{flat_map}
use Rattle.desk_io.specs.Characters.{low_line}
use Rattle.fixed_point.specs.Text.{number_text}
use Rattle.fixed_point.specs.declared.limits.TheConstants.{TICK_DECIMALS}
use Rattle.fixed_point.specs.declared.spot.Spot.{Spot}
use Rattle.gcl_reader.specs.declared.word.Side.{Side}
use Rattle.picture.specs.Pieces.{row}
use Rattle.picture.specs.declared.piece.Measure.{Measure}
use Rattle.picture.specs.declared.shape.Ink.{Ink}
use Rattle.picture.specs.declared.shape.Picture.{Picture}
use Rattle.picture.specs.declared.shape.Shape.{Shape}
use Rattle.picture.specs.declared.shape.Shape.TheVariants as shape
use Rattle.latex_out.specs.Dashes.{length_of, dashes_in, parts_in, division}
use Rattle.latex_out.specs.Sides.{offset_of, corner_of, moved}

-- A number of ticks in millimetres.
abbrev pub length_text : ℤ → List ℕ
length_text n = number_text TICK_DECIMALS n

-- The lines that open a picture of a width and a height.
unfoldable pub head_text : Measure → Measure → List ℕ
head_text w h = row (
    codes "\\setlength{\\unitlength}{1mm}\n\\begin{picture}(" ∷ length_text w.ticks ∷ codes "," ∷ length_text h.ticks ∷ codes ")\n" ∷ [])

-- A straight line.
unfoldable pub line_text : Ink → Spot → Spot → List ℕ
line_text ink a b = row (
    codes "\\put(0,0){\\color[RGB]{" ∷ decimal ink.r ∷ codes "," ∷ decimal ink.g ∷ codes "," ∷ decimal ink.b ∷ codes "}\\Line("
    ∷ length_text a.x ∷ codes "," ∷ length_text a.y ∷ codes ")(" ∷ length_text b.x ∷ codes "," ∷ length_text b.y ∷ codes ")}\n" ∷ [])

-- The texts of 0, 1, and so on, one behind the other.
unfoldable pub in_turn : (ℕ → List ℕ) → ℕ → List ℕ
in_turn text zero = []
in_turn text (suc n) = in_turn text n ++ text n

-- The dash of m parts that begins at the division 2 i.
unfoldable pub dash_text : Ink → Spot → Spot → ℕ → ℕ → List ℕ
dash_text ink a b m i = line_text ink (division (2 * i) m a b) (division (2 * i + 1) m a b)

-- A segment in dashes.
unfoldable pub dashed_text : Ink → Spot → Spot → List ℕ
dashed_text ink a b = in_turn (dash_text ink a b (parts_in (length_of a b))) (dashes_in (length_of a b))

-- A circle, by its diameter.
unfoldable pub circle_text : Ink → Spot → Measure → List ℕ
circle_text ink a d = row (
    codes "\\put(" ∷ length_text a.x ∷ codes "," ∷ length_text a.y ∷ codes "){\\color[RGB]{" ∷ decimal ink.r ∷ codes "," ∷ decimal ink.g ∷ codes "," ∷ decimal ink.b
    ∷ codes "}\\circle{" ∷ length_text d.ticks ∷ codes "}}\n" ∷ [])

-- The mark of a point: a circle or a filled one, of a size.
unfoldable pub mark_text : Ink → Spot → List ℕ → List ℕ
mark_text ink a mark = row (
    codes "\\put(" ∷ length_text a.x ∷ codes "," ∷ length_text a.y ∷ codes "){\\color[RGB]{" ∷ decimal ink.r ∷ codes "," ∷ decimal ink.g ∷ codes "," ∷ decimal ink.b
    ∷ codes "}\\circle" ∷ mark ∷ codes "}\n" ∷ [])

-- A byte of what stands lower, behind the low line that parts it from the name: a further low line is shown as one.
abbrev pub lower_text : ℕ → List ℕ
lower_text b = if b == low_line then codes "\\_" else b ∷ []

-- A name at a place, by the corner that stands there, and what stands behind the name.
unfoldable pub boxed_text : Ink → Spot → List ℕ → List ℕ → List ℕ → List ℕ
boxed_text ink a corner name behind = row (
    codes "\\put(" ∷ length_text a.x ∷ codes "," ∷ length_text a.y ∷ codes "){\\color[RGB]{" ∷ decimal ink.r ∷ codes "," ∷ decimal ink.g ∷ codes "," ∷ decimal ink.b
    ∷ codes "}\\makebox(0,0)" ∷ corner ∷ codes "{$" ∷ name ∷ behind ∷ [])

-- A name of which a part stands lower.
abbrev pub lowered_text : Ink → Spot → List ℕ → List ℕ → List ℕ → List ℕ
lowered_text ink a corner before behind = boxed_text ink a corner before (codes "_{") ++ flat_map lower_text behind ++ codes "}$}}\n"

-- The part of a name behind its first low line stands lower.
unfoldable pub name_with : Ink → Spot → List ℕ → List ℕ → Option ℕ → List ℕ
name_with ink a corner name None = boxed_text ink a corner name (codes "$}}\n")
name_with ink a corner name (Some i) = lowered_text ink a corner (take i name) (drop (i + 1) name)

unfoldable pub name_text : Ink → Spot → List ℕ → List ℕ → List ℕ
name_text ink a corner name = name_with ink a corner name (position (λ b. b == low_line) name)

-- The name of a point beside its spot.
unfoldable pub label_text : List (List ℕ) → Ink → Spot → Side → ℕ → List ℕ
label_text names ink a s p = name_text ink (moved a (offset_of s)) (corner_of s) (get_or names p [])

-- The lines of a shape in a colour; the names are those of the points.
abbrev pub shape_text : List (List ℕ) → Ink → Shape → List ℕ
shape_text names ink (shape.Segment a b) = line_text ink a b
shape_text names ink (shape.Dashed a b) = dashed_text ink a b
shape_text names ink (shape.Whole a r) = circle_text ink a (record { ticks = pos 2 *ℤ r })
shape_text names ink (shape.Dot a) = mark_text ink a (codes "*{0.8}")
shape_text names ink (shape.Ring a) = mark_text ink a (codes "{1.2}")
shape_text names ink (shape.Label a s p) = label_text names ink a s p

-- The lines of shapes, each with its colour, in their order.
abbrev pub shapes_text : List (List ℕ) → List (Ink × Shape) → List ℕ
shapes_text names shapes = flat_map (λ (item : Ink × Shape). shape_text names item.0 item.1) shapes

-- A picture.
unfoldable pub latex_text : Picture → List (List ℕ) → List ℕ
latex_text picture names =
    let w : Measure = record { ticks = picture.w } in
    let h : Measure = record { ticks = picture.h } in
    head_text w h ++ shapes_text names picture.shapes ++ codes "\\end{picture}\n"
