use Rattle.std.proofs.Common.{◌≡◌, sym, ◌∙◌, ap, true, false}
use Rattle.poly_model.specs.Standard.{polynomial_of, is_standard}
use Rattle.poly_model.proofs.Standing.{standard-descending}
use Rattle.algebraize.proofs.Small.{standard-primitive_part}
use Rattle.algebraize.proofs.primitive.primitive_part.Goals as goal

pub primitive_terms-requires-clause-descending : goal.primitive_terms-requires-clause-descending
primitive_terms-requires-clause-descending c = standard-descending (polynomial_of c.args.terms.now) c.requires.standard

pub unreachable-requires : goal.unreachable-requires
unreachable-requires c =
    let stands = standard-primitive_part (polynomial_of c.args.terms.now) c.requires in
    let h : false ≡ true = sym c.in-Err.ensures.err.0 ∙ ap is_standard c.in_ok-primitive_terms.ensures ∙ stands in
    cc
