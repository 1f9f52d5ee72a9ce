-- How large the numbers of spots, vectors, lines and circles are.
use Rattle.std.specs.Prelude.{ℕ, ◌≤◌, pos, ◌<ℤ◌, ◌≤ℤ◌, unsigned_abs}
use Rattle.edge_num.specs.declared.limits.TheConstants.{MOST_DIVISOR, MOST_DIVIDEND}
use Rattle.fixed_point.specs.declared.limits.TheConstants.{MOST_TICKS}
use Rattle.fixed_point.specs.declared.spot.Spot.{Spot}
use Rattle.fixed_point.specs.declared.curve.LineEq.{LineEq}
use Rattle.fixed_point.specs.declared.curve.Round.{Round}
use Rattle.circle_cut.specs.declared.limits.TheConstants.{MOST_SPAN, MOST_NORMAL, MOST_PLACE, MOST_SQUARE}
use Rattle.circle_cut.specs.declared.vector.Vector.{Vector}
use Rattle.circle_cut.specs.declared.exact.Exact.{Exact}
use Rattle.circle_cut.specs.Vectors.{sq}
use Rattle.circle_cut.specs.Lines.{normal, direction}

-- Both coordinates have a size of at most n.
abbrev pub IsWithin : ℕ → Vector → Type 0
IsWithin n v = (unsigned_abs v.x ≤ n) × (unsigned_abs v.y ≤ n)

-- Both coordinates have a size of at most n.
abbrev pub IsSpotWithin : ℕ → Spot → Type 0
IsSpotWithin n a = (unsigned_abs a.x ≤ n) × (unsigned_abs a.y ≤ n)

-- A spot of the plane that pictures are drawn on.
abbrev pub IsNear : Spot → Type 0
IsNear a = IsSpotWithin MOST_TICKS a

-- Both quotients can be rounded.
pub record IsExact (e : Exact) : Type 0 where
  pub positive : pos 0 <ℤ e.d
  pub small : e.d ≤ℤ pos MOST_DIVISOR
  pub x : unsigned_abs e.x ≤ MOST_DIVIDEND
  pub y : unsigned_abs e.y ≤ MOST_DIVIDEND

-- A line whose numbers have the sizes that constructions give them.
pub record IsPlain (l : LineEq) : Type 0 where
  pub n1 : unsigned_abs l.n1 ≤ MOST_NORMAL
  pub n2 : unsigned_abs l.n2 ≤ MOST_NORMAL
  pub c : unsigned_abs l.c ≤ MOST_PLACE

-- A circle whose centre is near and whose square radius has a size that a construction gives it.
pub record IsRound (k : Round) : Type 0 where
  pub centre : IsNear k.centre
  pub from : pos 0 ≤ℤ k.square
  pub to : k.square ≤ℤ pos MOST_SQUARE

-- The way between two near spots that are not one.
pub record IsSpan (v : Vector) : Type 0 where
  pub within : IsWithin MOST_SPAN v
  pub some : pos 0 <ℤ sq v

-- A line that a construction makes: neither its normal nor its direction is 0.
pub record IsLaid (l : LineEq) : Type 0 where
  pub plain : IsPlain l
  pub some : pos 0 <ℤ sq (normal l)
  pub span : IsSpan (direction l)
