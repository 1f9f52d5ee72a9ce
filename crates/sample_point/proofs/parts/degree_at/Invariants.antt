use Rattle.std.proofs.Common.{◌≡◌, length}
use Rattle.std.specs.Prelude.{max}
use Rattle.poly_model.specs.Reduction.{degree_at}
use Rattle.poly_model.specs.Standard.{polynomial_of}
use Rattle.sample_point.proofs.parts.degree_at.Given as goal

abbrev pub invariant-loop-first : goal.invariant-loop-first
invariant-loop-first l = max l.degree (degree_at l.place (polynomial_of l.rest)) ≡ degree_at l.place l.p

abbrev pub decreases-loop-first : goal.decreases-loop-first
decreases-loop-first l = length l.rest
