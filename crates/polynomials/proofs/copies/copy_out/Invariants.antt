use Rattle.std.proofs.Common.{◌≡◌, ◌++◌, drop}
use Rattle.term_store.specs.States.{list_at}
use Rattle.polynomials.proofs.copies.copy_out.Given as goal

abbrev pub invariant-loop-i : goal.invariant-loop-i
invariant-loop-i g l =
    let xs = list_at (g.S.TermStore.state l.s).lists l.a.slot.0 in
    l.terms.items ++ drop l.i xs ≡ xs
