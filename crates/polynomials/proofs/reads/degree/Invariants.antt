use Rattle.std.proofs.Common.{◌≡◌, max, drop}
use Rattle.poly_model.specs.Reduction.{degree_at}
use Rattle.poly_model.specs.Standard.{polynomial_of}
use Rattle.term_store.specs.States.{list_at}
use Rattle.polynomials.proofs.reads.degree.Given as goal

abbrev pub invariant-loop-i : goal.invariant-loop-i
invariant-loop-i g l =
    let xs = list_at (g.S.TermStore.state l.s).lists l.a.slot.0 in
    max l.highest (degree_at l.var (polynomial_of (drop l.i xs))) ≡ degree_at l.var (polynomial_of xs)
