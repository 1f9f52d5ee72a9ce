use Rattle.std.proofs.Common.{◌∙◌}
use Rattle.poly_model.specs.declared.limits.TheConstants.{MOST_VARIABLES}
use Rattle.poly_model.proofs.Within.{within-of}
use Rattle.polynomials.specs.Held.{polynomial_at}
use Rattle.polynomials.proofs.Unlimited.{product-comm}
use Rattle.polynomials.proofs.halves.unlimited_product.Goals as goal

pub returns-else-len-clause-value : goal.returns-else-len-clause-value
returns-else-len-clause-value g c =
    let s = g.S.TermStore.state c.args.s.now in
    let a = polynomial_at s c.args.a in
    let b = polynomial_at s c.args.b in
    c.rows_of-else-len.ensures.value ∙ product-comm MOST_VARIABLES b a (within-of b c.requires.b.standard).descending (within-of a c.requires.a.standard).descending
