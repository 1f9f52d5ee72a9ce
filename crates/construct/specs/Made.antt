-- The table of constructions: what each deed makes, or why it makes nothing.
use Rattle.std.specs.Prelude.{ℕ, ◌+◌, ◌*◌, ◌%◌, length, ℤ, pos, if◌then◌else◌, Option, Some, None, Result, Ok, Err}
use Rattle.fixed_point.specs.Ticks.{ticks_of}
use Rattle.fixed_point.specs.declared.spot.Spot.{Spot}
use Rattle.gcl_reader.specs.declared.refusal.Kind.{Kind}
use Rattle.gcl_reader.specs.declared.refusal.Kind.TheVariants as kind
use Rattle.gcl_names.specs.Sound.{Counts, Follows}
use Rattle.gcl_names.specs.declared.program.Deed.{Deed}
use Rattle.gcl_names.specs.declared.program.Deed.TheVariants as deed
use Rattle.circle_cut.specs.declared.exact.Exact.{Exact}
use Rattle.circle_cut.specs.Cuts.{line_cuts, circle_cuts}
use Rattle.circle_cut.specs.Lines.{direction, same_spot}
use Rattle.circle_cut.specs.Sizes.{IsExact, IsLaid, IsRound}
use Rattle.circle_cut.specs.Vectors.{way}
use Rattle.construct.specs.Formulas.{at_ticks, middle, moved, part_way, foot, meet, on_circle, through, across, bisector, circle}
use Rattle.construct.specs.Constructed.{Constructed, spot_in, line_in, circle_in}
use Rattle.construct.specs.declared.limits.TheConstants.{MILLION, PARTS, STRIDE, CYCLE}
use Rattle.construct.specs.declared.made.Made.{Made}
use Rattle.construct.specs.declared.made.Made.TheVariants as made

-- The share of the k-th semi-free point.
abbrev pub share : ℕ → ℤ
share k = pos (1 + (STRIDE * k) % CYCLE)

-- The share of the next semi-free point.
abbrev pub next_share : Constructed → ℤ
next_share f = share (f.semi_free + 1)

-- The line through two spots, which must not be one.
unfoldable pub joined : Spot → Spot → Result Made Kind
joined a b = if same_spot a b then Err kind.SamePoints else Ok (made.Line (through a (way a b)))

-- The bisector of two spots, which must not be one.
unfoldable pub halved : Spot → Spot → Result Made Kind
halved a b = if same_spot a b then Err kind.SamePoints else Ok (made.Line (bisector a b))

-- The common point of two lines, which must meet.
unfoldable pub met : Option Exact → Result Made Kind
met None = Err kind.NoMeet
met (Some e) = Ok (made.Point e)

-- The common points of a circle and a line or a circle, which must meet.
unfoldable pub cut : Option (Spot × Spot) → Result Made Kind
cut None = Err kind.NoMeet
cut (Some ends) = Ok (made.Points ends.0 ends.1)

-- What a deed makes. Each deed has its row.
abbrev pub made_by : Deed → Constructed → Result Made Kind
made_by (deed.Dim w h) f = Ok made.Nothing
made_by (deed.Color r g b) f = Ok made.Nothing
made_by (deed.Prooflevel n) f = Ok made.Nothing
made_by (deed.Prooflimit n) f = Ok made.Nothing
made_by (deed.ProverTimeout n) f = Ok made.Nothing
made_by (deed.Point p x y) f = Ok (made.Point (at_ticks (ticks_of x) (ticks_of y)))
made_by (deed.Line l a b) f = joined (spot_in f a) (spot_in f b)
made_by (deed.Circle k o a) f = Ok (made.Circle (circle (spot_in f o) (spot_in f a)))
made_by (deed.Intersec x a b) f = met (meet (line_in f a) (line_in f b))
made_by (deed.CutLine x y k a) f = cut (line_cuts (circle_in f k) (line_in f a))
made_by (deed.CutCircle x y k m) f = cut (circle_cuts (circle_in f k) (circle_in f m))
made_by (deed.Midpoint m a b) f = Ok (made.Point (middle (spot_in f a) (spot_in f b)))
made_by (deed.Med m a b) f = halved (spot_in f a) (spot_in f b)
made_by (deed.Perp p a l) f = Ok (made.Line (across (spot_in f a) (direction (line_in f l))))
made_by (deed.Parallel p a l) f = Ok (made.Line (through (spot_in f a) (direction (line_in f l))))
made_by (deed.Foot p a l) f = Ok (made.Point (foot (spot_in f a) (line_in f l)))
made_by (deed.Online x a b) f = Ok (made.SemiFree (part_way (next_share f) (pos PARTS) (spot_in f a) (spot_in f b)))
made_by (deed.Oncircle x o a) f = Ok (made.SemiFree (on_circle (next_share f) (spot_in f o) (spot_in f a)))
made_by (deed.Translate x a b c) f = Ok (made.Point (moved (spot_in f a) (spot_in f b) (spot_in f c)))
made_by (deed.Towards x a b r) f = Ok (made.Point (part_way r (pos MILLION) (spot_in f a) (spot_in f b)))
made_by (deed.Drawpoint a) f = Ok made.Nothing
made_by (deed.Drawsegment a b) f = Ok made.Nothing
made_by (deed.Drawdashsegment a b) f = Ok made.Nothing
made_by (deed.Drawline a) f = Ok made.Nothing
made_by (deed.Drawcircle k) f = Ok made.Nothing
made_by (deed.Cmark a) f = Ok made.Nothing
made_by (deed.CmarkAt s a) f = Ok made.Nothing
made_by (deed.Mark s a) f = Ok made.Nothing
made_by (deed.Prove s ps) f = Ok made.Nothing

-- What is made has the sizes that the rest of the work rests on.
abbrev pub IsFit : Made → Type 0
IsFit made.Nothing = Unit {0}
IsFit (made.Point e) = IsExact e
IsFit (made.SemiFree e) = IsExact e
IsFit (made.Points s t) = Unit {0}
IsFit (made.Line l) = IsLaid l
IsFit (made.Circle k) = IsRound k

-- How many points, lines and circles are constructed, beside so many proves.
abbrev pub counts_of : Constructed → ℕ → Counts
counts_of f k = record { points = length f.points; lines = length f.lines; circles = length f.circles; proves = k }

-- What the deed uses is constructed.
abbrev pub Uses : Constructed → Deed → Type 0
Uses f d = (k : ℕ) × Follows (counts_of f k) d
