use Rattle.std.proofs.Common.{◌≡◌, length}
use Rattle.std.specs.Prelude.{nat_le}
use Rattle.poly_model.specs.Reduction.{degree_at}
use Rattle.poly_model.specs.Standard.{polynomial_of}
use Rattle.log_checker.proofs.reads.has_degree.Given as goal

abbrev pub invariant-loop-first : goal.invariant-loop-first
invariant-loop-first l = nat_le l.least (degree_at l.var (polynomial_of l.rest)) ≡ nat_le l.least (degree_at l.var l.p)

abbrev pub decreases-loop-first : goal.decreases-loop-first
decreases-loop-first l = length l.rest
