-- The positions of a program's points, lines and circles, or the refusal of the first act that cannot be placed.
use Rattle.std.specs.Prelude.{List, [], ◌∷◌, Bool, if◌then◌else◌, ◌&&◌, nat_le, Result, Ok, Err, unsigned_abs}
use Rattle.fixed_point.specs.declared.limits.TheConstants.{MOST_TICKS}
use Rattle.fixed_point.specs.declared.spot.Spot.{Spot}
use Rattle.fixed_point.specs.declared.curve.LineEq.{LineEq}
use Rattle.fixed_point.specs.declared.curve.Round.{Round}
use Rattle.gcl_reader.specs.Grammar.{◌>>=◌}
use Rattle.gcl_reader.specs.declared.refusal.Kind.{Kind}
use Rattle.gcl_reader.specs.declared.refusal.Kind.TheVariants as kind
use Rattle.gcl_reader.specs.declared.refusal.Refusal.{Refusal}
use Rattle.gcl_reader.specs.Span.{refusal}
use Rattle.gcl_names.specs.Program.{span_of_act}
use Rattle.gcl_names.specs.declared.program.Act.{Act}
use Rattle.circle_cut.specs.Places.{rounded}
use Rattle.construct.specs.Constructed.{Constructed, nothing, with_point, with_line, with_circle, counted}
use Rattle.construct.specs.Made.{made_by}
use Rattle.construct.specs.declared.made.Made.{Made}
use Rattle.construct.specs.declared.made.Made.TheVariants as made

-- Neither coordinate passes the greatest.
abbrev pub is_near : Spot → Bool
is_near s = nat_le (unsigned_abs s.x) MOST_TICKS && nat_le (unsigned_abs s.y) MOST_TICKS

-- One more point, which must be near.
unfoldable pub put_spot : Act → Spot → Constructed → Result Constructed Refusal
put_spot a s f = if is_near s then Ok (with_point s f) else Err (refusal kind.OutOfRange (span_of_act a))

-- One more point, which must be near, and is semi-free.
unfoldable pub put_semi_free : Act → Spot → Constructed → Result Constructed Refusal
put_semi_free a s f = put_spot a s (counted f)

-- Two more points, which must be near.
unfoldable pub put_two : Act → Spot → Spot → Constructed → Result Constructed Refusal
put_two a s t f = put_spot a s f >>= put_spot a t

-- What a deed makes is put to the rest: exact places are rounded, and no point may lie too far out.
unfoldable pub put : Act → Made → Constructed → Result Constructed Refusal
put a made.Nothing f = Ok f
put a (made.Point e) f = put_spot a (rounded e) f
put a (made.SemiFree e) f = put_semi_free a (rounded e) f
put a (made.Points s t) f = put_two a s t f
put a (made.Line l) f = Ok (with_line l f)
put a (made.Circle k) f = Ok (with_circle k f)

-- What is constructed after an act whose deed makes this.
unfoldable pub put_made : Act → Result Made Kind → Constructed → Result Constructed Refusal
put_made a (Ok m) f = put a m f
put_made a (Err k) f = Err (refusal k (span_of_act a))

-- What is constructed after an act.
abbrev pub after_act : Act → Constructed → Result Constructed Refusal
after_act a f = put_made a (made_by a.deed f) f

-- What is constructed after all of the acts.
unfoldable pub after_acts : List Act → Constructed → Result Constructed Refusal
after_acts [] f = Ok f
after_acts (a ∷ acts) f = after_act a f >>= after_acts acts

-- Positions of points, and lines and circles, by their numbers.
pub record Positions : Type 0 where
  pub points : List Spot
  pub lines : List LineEq
  pub circles : List Round

-- The positions without the count of semi-free points.
abbrev pub positions_in : Constructed → Positions
positions_in f = record { points = f.points; lines = f.lines; circles = f.circles }

-- All that the acts construct.
abbrev pub constructed_by : List Act → Result Constructed Refusal
constructed_by acts = after_acts acts nothing

-- The spots of a program's acts.
abbrev pub spots_of : List Act → Result Positions Refusal
spots_of acts = constructed_by acts >>= λ f. Ok (positions_in f)
