use Rattle.std.proofs.Common.{[], ◌∙◌, ap}
use Rattle.proof_steps.specs.Chain.{reducing_class}
use Rattle.log_checker.proofs.Dues as dues
use Rattle.log_checker.proofs.due.next_due.Goals as goal

pub returns : goal.returns
returns c =
    let l = c.in-Some.ensures.some in
    dues.reducing-at c.args.eqs.now c.args.cons.now c.args.done c.in-Some.at _ _ c.requires.own l
    (c.reducing_class-class.ensures ∙ ap (reducing_class c.args.eqs.now) (dues.there c.args.cons.now c.in-Some.at _ [] _ l.below c.index-cons-at.is)) c.if-class-eq0.false (c.first_of_class.ensures.place c.args.eqs.now c.requires.classes)
