use Rattle.std.proofs.Common.{sym, subst, arith}
use Rattle.poly_model.specs.Standard.{polynomial_of}
use Rattle.poly_model.specs.declared.limits.TheConstants.{MOST_DEGREE}
use Rattle.algebraize.specs.Small.{weight, IsSmall}
use Rattle.algebraize.proofs.Changes.{if_ok}
use Rattle.algebraize.proofs.Every.{is_low-more}
use Rattle.algebraize.proofs.Small as small
use Rattle.algebraize.proofs.vectors.part_product.Goals as goal

pub product-requires-clause-size : goal.product-requires-clause-size
product-requires-clause-size c =
    omega (arith, small.product-bound (weight (polynomial_of c.args.p.now)) 4 (weight (polynomial_of c.args.q.now)) 4 c.requires.p.weight c.requires.q.weight)

pub product-requires-clause-p : goal.product-requires-clause-p
product-requires-clause-p c = is_low-more 1 MOST_DEGREE (polynomial_of c.args.p.now) (omega arith) c.requires.p.low

pub product-requires-clause-q : goal.product-requires-clause-q
product-requires-clause-q c = is_low-more 1 MOST_DEGREE (polynomial_of c.args.q.now) (omega arith) c.requires.q.low

pub returns-clause-small : goal.returns-clause-small
returns-clause-small c =
    if_ok c.product.result
    (λ r is. subst (IsSmall 2 16) (sym is) (small.small-product 1 1 4 4 (polynomial_of c.args.p.now) (polynomial_of c.args.q.now) (omega arith) (omega arith) c.requires.p c.requires.q))
    c.product.ensures

pub returns-clause-wide : goal.returns-clause-wide
returns-clause-wide c =
    if_ok c.product.result
    (λ r is. subst (IsSmall 2 32) (sym is) (small.small-more 2 2 16 32 _ (omega arith) (omega arith)
    (small.small-product 1 1 4 4 (polynomial_of c.args.p.now) (polynomial_of c.args.q.now) (omega arith) (omega arith) c.requires.p c.requires.q)))
    c.product.ensures
