use Rattle.std.proofs.Common.{◌≡◌, length, IsTrue}
use Rattle.std.specs.Prelude.{pos}
use Rattle.poly_model.specs.Reduction.{without_degree}
use Rattle.poly_model.specs.Standard.{is_bounded, are_bounded, polynomial_of}
use Rattle.sample_point.specs.Value.{plus_terms}
use Rattle.sample_point.proofs.parts.rest_value.Given as goal

abbrev pub invariant-loop-first : goal.invariant-loop-first
invariant-loop-first l = record {
  value : plus_terms (without_degree l.place l.degree (polynomial_of l.rest)) l.point l.sum ≡ plus_terms (without_degree l.place l.degree l.p) l.point (pos 0);
  left : IsTrue (are_bounded (polynomial_of l.rest));
  sum : IsTrue (is_bounded l.sum);
}

abbrev pub decreases-loop-first : goal.decreases-loop-first
decreases-loop-first l = length l.rest
