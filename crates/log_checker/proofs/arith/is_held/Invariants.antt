use Rattle.std.proofs.Common.{◌≡◌, drop}
use Rattle.poly_model.specs.Reduction.{same}
use Rattle.poly_model.specs.Standard.{polynomial_of}
use Rattle.term_store.specs.States.{list_at}
use Rattle.log_checker.proofs.arith.is_held.Given as goal

abbrev pub invariant-loop-i : goal.invariant-loop-i
invariant-loop-i g l =
    let xs = list_at (g.S.TermStore.state l.s).lists l.slot.0 in
    same (polynomial_of (drop l.i xs)) (polynomial_of (drop l.i l.terms)) ≡ same (polynomial_of xs) (polynomial_of l.terms)
