use Rattle.std.proofs.Common.{length, ◌≡◌, IsTrue}
use Rattle.std.specs.List.{list_all}
use Rattle.poly_model.specs.Standard.{is_bounded}
use Rattle.sample_point.specs.Value.{times_powers}
use Rattle.sample_point.proofs.evaluation.times_powers.Given as goal

abbrev pub invariant-loop-e : goal.invariant-loop-e
invariant-loop-e l = record {
  value : times_powers l.exps_left l.left l.product ≡ times_powers l.fn.exps l.fn.point l.fn.z;
  left : IsTrue (list_all is_bounded l.left);
  product : IsTrue (is_bounded l.product);
}

abbrev pub decreases-loop-e : goal.decreases-loop-e
decreases-loop-e l = length l.exps_left
