use Rattle.std.proofs.Common.{◌≡◌, drop}
use Rattle.poly_model.specs.Reduction.{same}
use Rattle.poly_model.specs.Standard.{polynomial_of}
use Rattle.term_store.specs.States.{list_at}
use Rattle.workbench.proofs.told.is_told.Given as goal

abbrev pub invariant-loop-i : goal.invariant-loop-i
invariant-loop-i g l =
    let xs = list_at (g.S.TermStore.state l.s).lists l.slot.0 in
    same (polynomial_of (drop l.i l.terms)) (polynomial_of (drop l.i xs)) ≡ same (polynomial_of l.terms) (polynomial_of xs)
