use Rattle.std.proofs.Common.{◌≡◌, ◌++◌, drop}
use Rattle.std.specs.Prelude.{List}
use Rattle.poly_model.specs.declared.term.Term.{Term}
use Rattle.term_store.specs.States.{list_at}
use Rattle.term_store.specs.Changes.{Extends}
use Rattle.polynomials.proofs.rows.copy_rest.Given as goal

abbrev pub invariant-loop-i : goal.invariant-loop-i
invariant-loop-i g l =
    let state = g.S.TermStore.state in
    let qs = list_at (state l.fn.s).lists l.q.0 in
    (xs : List Term) × Extends (state l.fn.s) (state l.s) l.out.0 xs × (xs ++ drop l.i qs ≡ drop l.from qs)
