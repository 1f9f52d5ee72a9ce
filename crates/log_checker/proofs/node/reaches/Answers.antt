use Rattle.std.proofs.Common.{◌≡◌, ◌-◌, suc, ◌∙◌, ap, arith}
use Rattle.std.specs.Prelude.{nat_le}
use Rattle.poly_model.specs.Reduction.{class_of, degree_at, main_degree}
use Rattle.poly_model.specs.Standard.{is_standard, polynomial_of}
use Rattle.log_checker.proofs.Terms as reads
use Rattle.log_checker.proofs.node.reaches.Goals as goal

class : (c : goal.After-terms-terms) → class_of (polynomial_of c.terms-terms.result.now) ≡ suc c.args.var
class c = ap class_of c.terms-terms.ensures.terms ∙ c.requires

pub bounds-terms-0 : goal.bounds-terms-0
bounds-terms-0 c = reads.some-term c.terms-terms.result.now c.args.var (class c)

pub bounds-terms-var : goal.bounds-terms-var
bounds-terms-var c = let few = reads.few-classes c.args.f.now c.terms-terms.ensures.standard in omega (arith, few, c.requires)

pub has_degree-requires : goal.has_degree-requires
has_degree-requires c = let few = reads.few-classes c.args.f.now c.terms-terms.ensures.standard in omega (arith, few, c.requires)

pub returns : goal.returns
returns c =
    let first = reads.first-degree c.terms-terms.result.now _ c.args.var (ap is_standard c.terms-terms.ensures.terms ∙ c.terms-terms.ensures.standard) (ap class_of c.terms-terms.ensures.terms ∙ c.requires) ∙ ap main_degree c.terms-terms.ensures.terms in
    let place : c.args.var ≡ class_of c.args.f.now - 1 = omega (arith, c.requires) in
    c.has_degree.ensures ∙ λ j. nat_le (first j) (degree_at (place j) c.args.g.now)
