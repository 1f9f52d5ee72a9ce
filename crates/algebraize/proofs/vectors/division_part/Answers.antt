use Rattle.std.proofs.Common.{sym, ◌∙◌, ap, subst, arith}
use Rattle.poly_model.specs.Domain.{integer_in}
use Rattle.poly_model.specs.Polynomial.{IsDescending, poly_difference, poly_product}
use Rattle.poly_model.specs.Standard.{polynomial_of}
use Rattle.poly_model.proofs.Standing.{standard-descending}
use Rattle.poly_model.specs.declared.limits.TheConstants.{MOST_DEGREE, MOST_SIZE, MOST_VARIABLES}
use Rattle.algebraize.specs.Equations.{polynomials}
use Rattle.algebraize.specs.Small.{weight, IsSmall}
use Rattle.algebraize.proofs.Changes.{if_ok}
use Rattle.algebraize.proofs.Small as small
use Rattle.algebraize.proofs.Division as division
use Rattle.std.proofs.lemmas.Int.{ints, to_z-of_z}
use mir.Syntax.{w128}
use mir.Val.{SFits}
use Rattle.algebraize.proofs.vectors.division_part.Goals as goal

pub multiple-requires-clause-descending : goal.multiple-requires-clause-descending
multiple-requires-clause-descending c = standard-descending _ c.requires.x.standard

pub multiple-requires-2-clause-descending : goal.multiple-requires-2-clause-descending
multiple-requires-2-clause-descending c = standard-descending _ c.requires.a.standard

pub multiple-requires-3-clause-descending : goal.multiple-requires-3-clause-descending
multiple-requires-3-clause-descending c =
    subst (IsDescending MOST_VARIABLES) (sym (ap polynomial_of c.deref.ensures.value ∙ c.in_ok-ab.ensures))
    (standard-descending _ (small.small-difference 1 1 1 (polynomial_of c.args.b.now) (polynomial_of c.args.a.now) (omega arith) (omega arith) c.requires.b c.requires.a).standard)

pub multiple-requires-3-clause-size : goal.multiple-requires-3-clause-size
multiple-requires-3-clause-size c =
    let fits_n : SFits w128 c.args.ratio.numerator = omega (arith, ints, c.requires.numerator) in
    let ab = ap weight (ap polynomial_of c.deref.ensures.value ∙ c.in_ok-ab.ensures) in
    let size = division.weights c.args.ratio.denominator c.args.ratio.numerator (polynomial_of c.args.x.now) (polynomial_of c.args.a.now) (polynomial_of c.args.b.now) c.requires.denominator c.requires.numerator c.requires.x c.requires.a c.requires.b in
    simp to_z-of_z (rw ab size.2)

pub difference-requires-2 : goal.difference-requires-2
difference-requires-2 c =
    let fits_d : SFits w128 c.args.ratio.denominator = omega (arith, ints, c.requires.denominator) in
    let to_x = ap weight (ap polynomial_of c.deref-2.ensures.value ∙ simp to_z-of_z at c.in_ok-to_x.ensures) in
    let to_a = ap weight (ap polynomial_of c.deref-3.ensures.value ∙ simp to_z-of_z at c.in_ok-to_a.ensures) in
    let size = division.weights c.args.ratio.denominator c.args.ratio.numerator (polynomial_of c.args.x.now) (polynomial_of c.args.a.now) (polynomial_of c.args.b.now) c.requires.denominator c.requires.numerator c.requires.x c.requires.a c.requires.b in
    omega (arith, to_x, to_a, size.0)

pub difference-requires-3 : goal.difference-requires-3
difference-requires-3 c =
    let fits_d : SFits w128 c.args.ratio.denominator = omega (arith, ints, c.requires.denominator) in
    let fits_n : SFits w128 c.args.ratio.numerator = omega (arith, ints, c.requires.numerator) in
    let to_x = ap polynomial_of c.deref-2.ensures.value ∙ simp to_z-of_z at c.in_ok-to_x.ensures in
    let to_a = ap polynomial_of c.deref-3.ensures.value ∙ simp to_z-of_z at c.in_ok-to_a.ensures in
    let ab = ap polynomial_of c.deref.ensures.value ∙ c.in_ok-ab.ensures in
    let rest = ap polynomial_of c.deref-4.ensures.value ∙ c.in_ok-rest.ensures ∙ (λ i. poly_difference (to_x i) (to_a i)) in
    let way = ap polynomial_of c.deref-5.ensures.value ∙ simp to_z-of_z at c.in_ok-way.ensures ∙ ap (poly_product (integer_in polynomials c.args.ratio.numerator)) ab in
    let size = division.weights c.args.ratio.denominator c.args.ratio.numerator (polynomial_of c.args.x.now) (polynomial_of c.args.a.now) (polynomial_of c.args.b.now) c.requires.denominator c.requires.numerator c.requires.x c.requires.a c.requires.b in
    omega (arith, ap weight rest, ap weight way, size.1)

pub returns-clause-small : goal.returns-clause-small
returns-clause-small c =
    let fits_d : SFits w128 c.args.ratio.denominator = omega (arith, ints, c.requires.denominator) in
    let fits_n : SFits w128 c.args.ratio.numerator = omega (arith, ints, c.requires.numerator) in
    let to_x = ap polynomial_of c.deref-2.ensures.value ∙ simp to_z-of_z at c.in_ok-to_x.ensures in
    let to_a = ap polynomial_of c.deref-3.ensures.value ∙ simp to_z-of_z at c.in_ok-to_a.ensures in
    let ab = ap polynomial_of c.deref.ensures.value ∙ c.in_ok-ab.ensures in
    let rest = ap polynomial_of c.deref-4.ensures.value ∙ c.in_ok-rest.ensures ∙ (λ i. poly_difference (to_x i) (to_a i)) in
    let way = ap polynomial_of c.deref-5.ensures.value ∙ simp to_z-of_z at c.in_ok-way.ensures ∙ ap (poly_product (integer_in polynomials c.args.ratio.numerator)) ab in
    if_ok c.difference-3.result
    (λ r is. subst (IsSmall MOST_DEGREE MOST_SIZE) (sym (is ∙ (λ i. poly_difference (rest i) (way i))))
    (division.divided_small c.args.ratio.denominator c.args.ratio.numerator (polynomial_of c.args.x.now) (polynomial_of c.args.a.now) (polynomial_of c.args.b.now) c.requires.denominator c.requires.numerator c.requires.x c.requires.a c.requires.b))
    c.difference-3.ensures
