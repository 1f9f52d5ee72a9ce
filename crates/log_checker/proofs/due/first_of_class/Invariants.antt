use Rattle.std.proofs.Common.{◌≡◌, ◌-◌, length, map, suc, List}
use Rattle.std.specs.Prelude.{◌==◌, unwrap_or}
use Rattle.poly_model.specs.Polynomial.{Polynomial}
use Rattle.poly_model.specs.Reduction.{class_of}
use Rattle.proof_steps.specs.Numbers.{item, first_from}
use Rattle.proof_steps.specs.Chain.{first_of_class}
use Rattle.log_checker.proofs.due.first_of_class.Given as goal

abbrev pub invariant-loop-i : goal.invariant-loop-i
invariant-loop-i l = (E : List Polynomial) → l.classes ≡ map class_of E → unwrap_or (first_from (λ k. class_of (item E k) == l.x) (length E - l.i) (suc l.i)) 0 ≡ first_of_class E l.x
