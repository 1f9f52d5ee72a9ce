use Rattle.std.proofs.Common.{length, ap, sym, ◌∙◌, arith}
use Rattle.std.proofs.lemmas.List.{length-map}
use Rattle.poly_model.specs.Reduction.{class_of}
use Rattle.log_checker.proofs.Dues as dues
use Rattle.log_checker.proofs.Reducing as reducing
use Rattle.log_checker.proofs.due.first_of_class.Goals as goal

pub returns-then-classes-i-clause-place : goal.returns-then-classes-i-clause-place
returns-then-classes-i-clause-place c E e =
    let count = ap length e ∙ length-map E class_of in
    dues.first-here E c.args.x c.loop-i.i _ (omega (arith, count)) (sym (reducing.class-at E c.args.classes.now c.loop-i.i e) ∙ c.if-classes-i.true) (c.loop-i.invariant E e)

pub loop-i-preserved : goal.loop-i-preserved
loop-i-preserved c E e =
    let count = ap length e ∙ length-map E class_of in
    dues.first-next E c.args.x c.loop-i.i _ (omega (arith, count)) (λ is. c.if-classes-i.false (reducing.class-at E c.args.classes.now c.loop-i.i e ∙ is)) (c.loop-i.invariant E e)
