-- What the conditions of each construction and statement say, in other words.
use Rattle.std.specs.Prelude.{◌≡◌, ℕ, ℤ, pos, ◌↔◌}
use Rattle.poly_model.specs.Domain.{Operations, integer_in}
use Rattle.gcl_names.specs.declared.program.Deed.{Deed}
use Rattle.gcl_names.specs.declared.program.Deed.TheVariants as deed
use Rattle.algebraize.specs.Vectors.{Vector, minus, times, dot, cross, sq}
use Rattle.algebraize.specs.Curves.{Line, Curves, line_at, circle_at, line_along, line_through, line_across, bisector}
use Rattle.algebraize.specs.Ratio.{numerator, denominator}
use Rattle.algebraize.specs.Figure.{Figure, effect, conditions, place_of, AreZero}
use Rattle.algebraize.specs.Rows as row

-- The figure meets a command, behind these lines and circles.
abbrev pub IsMet : {M : Type 0} → Operations M → Figure M → Curves M → Deed → Type 0
IsMet o f c d = AreZero o (conditions (effect o f c d))

-- Two vectors have one slope.
abbrev pub SameSlope : {M : Type 0} → Operations M → Vector M → Vector M → Type 0
SameSlope o p q = o.mul p.0 q.1 ≡ o.mul p.1 q.0

-- Two vectors are at right angles: what their first coordinates give, the second ones take.
abbrev pub RightAngle : {M : Type 0} → Operations M → Vector M → Vector M → Type 0
RightAngle o p q = o.mul p.0 q.0 ≡ o.neg (o.mul p.1 q.1)

-- A place is on a line.
abbrev pub IsOn : {M : Type 0} → Operations M → Line M → Vector M → Type 0
IsOn o l x = l.incidence x ≡ o.zero

-- Two places are as far from one place as two others from another.
abbrev pub SameDistance : {M : Type 0} → Operations M → (a b c d : Vector M) → Type 0
SameDistance o a b c d = sq o (minus o b a) ≡ sq o (minus o d c)

-- X and Y are at opposite distances from C along a direction.
abbrev pub OppositeAlong : {M : Type 0} → Operations M → (v c x y : Vector M) → Type 0
OppositeAlong o v c x y = dot o v (minus o x c) ≡ o.neg (dot o v (minus o y c))

-- X and Y are mirror images in the line through C with a direction: equally far along it, and on
-- opposite sides at one distance.
abbrev pub MirrorImages : {M : Type 0} → Operations M → (v c x y : Vector M) → Type 0
MirrorImages o v c x y =
    (dot o v (minus o y c) ≡ dot o v (minus o x c)) × (cross o v (minus o x c) ≡ o.neg (cross o v (minus o y c)))

-- Lines.
abbrev pub LineLaws : {M : Type 0} → Operations M → Type 0
LineLaws {M} o =
    ((a b x : Vector M) → IsOn o (line_through o a b) x ↔ SameSlope o (minus o b a) (minus o x a))
    × ((a b x : Vector M) → IsOn o (bisector o a b) x ↔ SameDistance o a x b x)
    × ((v a x : Vector M) → IsOn o (line_across o v a) x ↔ RightAngle o v (minus o x a))
    × ((v a x : Vector M) → IsOn o (line_along o v a) x ↔ SameSlope o v (minus o x a))

-- M - A = B - M.
abbrev pub MidpointLaw : {M : Type 0} → Operations M → Type 0
MidpointLaw {M} o = (f : Figure M) (c : Curves M) (m a b : ℕ)
    → IsMet o f c (deed.Midpoint m a b) ↔ (minus o (place_of o f m) (place_of o f a) ≡ minus o (place_of o f b) (place_of o f m))

-- X - C = B - A.
abbrev pub TranslateLaw : {M : Type 0} → Operations M → Type 0
TranslateLaw {M} o = (f : Figure M) (k : Curves M) (x a b c : ℕ)
    → IsMet o f k (deed.Translate x a b c) ↔ (minus o (place_of o f x) (place_of o f c) ≡ minus o (place_of o f b) (place_of o f a))

-- d(X - A) = n(B - A), for the ratio n/d.
abbrev pub TowardsLaw : {M : Type 0} → Operations M → Type 0
TowardsLaw {M} o = (f : Figure M) (k : Curves M) (x a b : ℕ) (t : ℤ)
    → IsMet o f k (deed.Towards x a b t)
    ↔ (times o (integer_in o (pos (denominator t))) (minus o (place_of o f x) (place_of o f a))
    ≡ times o (integer_in o (numerator t)) (minus o (place_of o f b) (place_of o f a)))

-- X is on both lines.
abbrev pub IntersecLaw : {M : Type 0} → Operations M → Type 0
IntersecLaw {M} o = (f : Figure M) (k : Curves M) (x a b : ℕ)
    → IsMet o f k (deed.Intersec x a b) ↔ (IsOn o (line_at o k a) (place_of o f x) × IsOn o (line_at o k b) (place_of o f x))

-- F is on the line, and AF is at right angles to it.
abbrev pub FootLaw : {M : Type 0} → Operations M → Type 0
FootLaw {M} o = (f : Figure M) (k : Curves M) (p a l : ℕ)
    → IsMet o f k (deed.Foot p a l)
    ↔ (IsOn o (line_at o k l) (place_of o f p) × RightAngle o (line_at o k l).direction (minus o (place_of o f p) (place_of o f a)))

-- X is in the direction of B from A.
abbrev pub OnlineLaw : {M : Type 0} → Operations M → Type 0
OnlineLaw {M} o = (f : Figure M) (k : Curves M) (x a b : ℕ)
    → IsMet o f k (deed.Online x a b)
    ↔ SameSlope o (minus o (place_of o f b) (place_of o f a)) (minus o (place_of o f x) (place_of o f a))

-- X is as far from the centre as A is.
abbrev pub OncircleLaw : {M : Type 0} → Operations M → Type 0
OncircleLaw {M} o = (f : Figure M) (k : Curves M) (x c a : ℕ)
    → IsMet o f k (deed.Oncircle x c a) ↔ SameDistance o (place_of o f c) (place_of o f x) (place_of o f c) (place_of o f a)

-- X and Y are on the line, X is on the circle, and they are at opposite distances from its centre.
abbrev pub CutLineLaw : {M : Type 0} → Operations M → Type 0
CutLineLaw {M} o = (f : Figure M) (c : Curves M) (x y k l : ℕ)
    → IsMet o f c (deed.CutLine x y k l)
    ↔ (IsOn o (line_at o c l) (place_of o f x)
    × SameDistance o (circle_at o c k).centre (place_of o f x) (circle_at o c k).centre (circle_at o c k).through
    × IsOn o (line_at o c l) (place_of o f y)
    × OppositeAlong o (line_at o c l).direction (circle_at o c k).centre (place_of o f x) (place_of o f y))

-- X is on both circles, and Y is its mirror image in the line of centres.
abbrev pub CutCircleLaw : {M : Type 0} → Operations M → Type 0
CutCircleLaw {M} o = (f : Figure M) (c : Curves M) (x y k m : ℕ)
    → IsMet o f c (deed.CutCircle x y k m)
    ↔ (SameDistance o (circle_at o c k).centre (place_of o f x) (circle_at o c k).centre (circle_at o c k).through
    × SameDistance o (circle_at o c m).centre (place_of o f x) (circle_at o c m).centre (circle_at o c m).through
    × MirrorImages o (minus o (circle_at o c m).centre (circle_at o c k).centre) (circle_at o c k).centre (place_of o f x) (place_of o f y))

-- Statements.
abbrev pub StatementLaws : {M : Type 0} → Operations M → Type 0
StatementLaws {M} o =
    ((a b : Vector M) → AreZero o (row.identical o a b) ↔ (a ≡ b))
    × ((a b c : Vector M) → AreZero o (row.collinear o a b c) ↔ SameSlope o (minus o b a) (minus o c a))
    × ((a b c d : Vector M) → AreZero o (row.perpendicular o a b c d) ↔ RightAngle o (minus o b a) (minus o d c))
    × ((a b c d : Vector M) → AreZero o (row.parallel o a b c d) ↔ SameSlope o (minus o b a) (minus o d c))
    × ((m a b : Vector M) → AreZero o (row.midpoint o m a b) ↔ (minus o m a ≡ minus o b m))
    × ((a b c d : Vector M) → AreZero o (row.same_length o a b c d) ↔ SameDistance o a b c d)
