use Rattle.std.proofs.Common.{◌≡◌, drop, length}
use Rattle.poly_model.specs.Standard.{polynomial_of}
use Rattle.poly_model.specs.declared.limits.TheConstants.{MOST_VARIABLES}
use Rattle.term_store.specs.States.{list_at}
use Rattle.poly_model.specs.Bounded.{degrees_of, exponents_max}
use Rattle.polynomials.proofs.degrees.degrees.Given as goal

abbrev pub invariant-loop-i : goal.invariant-loop-i
invariant-loop-i g l =
    let xs = list_at (g.S.TermStore.state l.s).lists l.a.0 in
    record { value : exponents_max l.highest (degrees_of (polynomial_of (drop l.i xs))) ≡ degrees_of (polynomial_of xs); whole : length l.highest ≡ MOST_VARIABLES }
