use Rattle.std.proofs.Common.{length, ◌≡◌, IsTrue}
use Rattle.poly_model.specs.Standard.{is_bounded, polynomial_of, are_bounded}
use Rattle.sample_point.specs.Value.{plus_terms}
use Rattle.sample_point.proofs.evaluation.plus_terms.Given as goal

abbrev pub invariant-loop-first : goal.invariant-loop-first
invariant-loop-first l = record {
  value : plus_terms (polynomial_of l.left) l.point l.sum ≡ plus_terms (polynomial_of l.fn.terms) l.fn.point l.fn.z;
  left : IsTrue (are_bounded (polynomial_of l.left));
  sum : IsTrue (is_bounded l.sum);
}

abbrev pub decreases-loop-first : goal.decreases-loop-first
decreases-loop-first l = length l.left
