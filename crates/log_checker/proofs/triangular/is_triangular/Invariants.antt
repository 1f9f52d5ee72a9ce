use Rattle.std.proofs.Common.{◌≡◌, drop, not, ◌&&◌}
use Rattle.std.specs.List.{list_all}
use Rattle.poly_model.specs.Reduction.{class_of, is_constant}
use Rattle.proof_steps.specs.Rules.{is_settled, is_triangular}
use Rattle.log_checker.proofs.triangular.is_triangular.Given as goal

abbrev pub invariant-loop-i : goal.invariant-loop-i
invariant-loop-i g l = list_all (λ p. not (is_constant p) && is_settled l.eqs l.nes (class_of p)) (drop l.i l.eqs) ≡ is_triangular l.eqs l.nes
