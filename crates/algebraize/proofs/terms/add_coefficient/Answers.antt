use Rattle.std.proofs.Common.{◌≤◌, ◌+◌, sym, ◌∙◌, ap, arith, refl}
use Rattle.std.specs.Prelude.{◌+ℤ◌, unsigned_abs}
use Rattle.std.proofs.lemmas.Int.{ints, to_z-of_z}
use mir.Syntax.{w128}
use mir.Val.{SFits, to_z, of_z}
use Rattle.poly_model.specs.Standard.{polynomial_of}
use Rattle.poly_model.specs.declared.limits.TheConstants.{MOST_SIZE}
use Rattle.algebraize.proofs.Changes as changes
use Rattle.algebraize.proofs.Small as small
use Rattle.algebraize.proofs.terms.add_coefficient.Goals as goal

pub overflow_add-sum : goal.overflow_add-sum
overflow_add-sum c =
    let a = c.args.coef in
    let b = c.index.result.now.coef in
    let low : unsigned_abs a + unsigned_abs b ≤ MOST_SIZE = omega (arith, small.weight-at c.args.terms.now.items c.args.place c.index.result.now c.requires.place c.index.ensures, c.requires.size) in
    let fits_a : SFits w128 a = c.ranges.coef in
    let fits_b : SFits w128 b = omega (arith, ints, low) in
    simp to_z-of_z (omega (arith, ints, low))

pub returns-then-sum-eq0 : goal.returns-then-sum-eq0
returns-then-sum-eq0 c =
    let a = c.args.coef in
    let b = c.index.result.now.coef in
    let low : unsigned_abs a + unsigned_abs b ≤ MOST_SIZE = omega (arith, small.weight-at c.args.terms.now.items c.args.place c.index.result.now c.requires.place c.index.ensures, c.requires.size) in
    let fits_a : SFits w128 a = c.ranges.coef in
    let fits_b : SFits w128 b = omega (arith, ints, low) in
    let fits_s : SFits w128 (a +ℤ b) = omega (arith, ints, low) in
    let none = simp to_z-of_z at c.if-sum-eq0.true in
    ap polynomial_of c.remove.ensures.items
    ∙ changes.removed a c.args.terms.now.items c.args.place c.index.result.now c.requires.place c.index.ensures (sym (to_z-of_z w128 (a +ℤ b) fits_s) ∙ ap (to_z w128) none)

pub returns-else-sum-eq0 : goal.returns-else-sum-eq0
returns-else-sum-eq0 c =
    let a = c.args.coef in
    let b = c.index.result.now.coef in
    let low : unsigned_abs a + unsigned_abs b ≤ MOST_SIZE = omega (arith, small.weight-at c.args.terms.now.items c.args.place c.index.result.now c.requires.place c.index.ensures, c.requires.size) in
    let fits_a : SFits w128 a = c.ranges.coef in
    let fits_b : SFits w128 b = omega (arith, ints, low) in
    let fits_s : SFits w128 (a +ℤ b) = omega (arith, ints, low) in
    let same = changes.same-item c.args.terms.now.items c.args.place c.index.result.now c.index_mut.result.now c.requires.place c.index.ensures c.index_mut.ensures.value in
    let some = simp to_z-of_z at c.if-sum-eq0.false in
    simp to_z-of_z
    (changes.changed a c.args.terms.now.items c.args.place c.index.result.now (record { coef = a +ℤ b; exps = c.index_mut.result.now.exps }) c.requires.place c.index.ensures
    (λ e. some (ap (of_z w128) e)) (sym (λ i. (same i).exps)) refl)
