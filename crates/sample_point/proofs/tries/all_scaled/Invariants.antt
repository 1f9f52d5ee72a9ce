use Rattle.std.proofs.Common.{◌≡◌, ◌++◌, length, IsTrue}
use Rattle.std.specs.Prelude.{Some}
use Rattle.std.specs.List.{list_all}
use Rattle.poly_model.specs.Standard.{is_bounded}
use Rattle.sample_point.specs.Value.{and_then}
use Rattle.sample_point.specs.Sampling.{all_scaled}
use Rattle.sample_point.proofs.tries.all_scaled.Given as goal

abbrev pub invariant-loop-rest : goal.invariant-loop-rest
invariant-loop-rest l = record {
  value : and_then (all_scaled l.d l.rest) (λ ws. Some (l.scaled.items ++ ws)) ≡ all_scaled l.fn.d l.fn.numbers;
  left : IsTrue (list_all is_bounded l.rest);
}

abbrev pub decreases-loop-rest : goal.decreases-loop-rest
decreases-loop-rest l = length l.rest
