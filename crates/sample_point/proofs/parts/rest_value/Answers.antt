use Rattle.std.proofs.Common.{rules, IsTrue, sym, ap, subst}
use Rattle.std.specs.Prelude.{pos}
use Rattle.poly_model.specs.Reduction.{without_degree}
use Rattle.poly_model.specs.Standard.{are_bounded}
use Rattle.poly_model.proofs.Within.{within-of}
use Rattle.sample_point.specs.Value.{plus_terms}
use Rattle.sample_point.proofs.parts.rest_value.Goals as goal

pub loop-first-init : goal.loop-first-init
loop-first-init c = record {
  value = ap (λ q. plus_terms (without_degree c.args.place c.args.degree q) c.args.point.now (pos 0)) c.terms-rest.ensures.terms;
  left = subst (λ q. IsTrue (are_bounded q)) (sym c.terms-rest.ensures.terms) (within-of c.args.p.now c.terms-rest.ensures.standard).bounded;
  sum = search rules;
}
