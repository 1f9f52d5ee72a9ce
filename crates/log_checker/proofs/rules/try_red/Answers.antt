use Rattle.std.proofs.Common.{◌∙◌, ap, subst, sym}
use Rattle.std.specs.Prelude.{Some}
use Rattle.poly_model.specs.Reduction.{reduction_of}
use Rattle.proof_steps.specs.Rules.{reduction_limit}
use Rattle.log_checker.specs.Trials.{Reduced}
use Rattle.log_checker.proofs.Trying as trying
use Rattle.log_checker.proofs.rules.try_red.Goals as goal

pub returns-in_default : goal.returns-in_default
returns-in_default g c version = trying.no-pair c.in_ok-p.field-0 (λ x. x.0.now) (λ x. x.1.now) (λ x. x.2) version c.args.node.now c.args.g c.args.f (c.in_ok-p.ensures version) c.in_default.is

pub reduction-requires-clause-class : goal.reduction-requires-clause-class
reduction-requires-clause-class g c = (trying.pair-of c.in_ok-p.field-0 _ (λ x. x.0.now) (λ x. x.1.now) (λ x. x.2) 1 c.args.node.now c.args.g c.args.f (c.in_ok-p.ensures 1) c.in-Some.is).class

pub reduction-requires-clause-reaches : goal.reduction-requires-clause-reaches
reduction-requires-clause-reaches g c = (trying.pair-of c.in_ok-p.field-0 _ (λ x. x.0.now) (λ x. x.1.now) (λ x. x.2) 1 c.args.node.now c.args.g c.args.f (c.in_ok-p.ensures 1) c.in-Some.is).reached

pub returns-in-Ok : goal.returns-in-Ok
returns-in-Ok g c version =
    let h = trying.pair-of c.in_ok-p.field-0 _ (λ x. x.0.now) (λ x. x.1.now) (λ x. x.2) version c.args.node.now c.args.g c.args.f (c.in_ok-p.ensures version) c.in-Some.is in
    let d = subst (Reduced c.in-Some.p.now c.in-Some.q.now) c.in-Ok.is c.in_ok-result.ensures.ok in
    (h.valid, sym (λ i. reduction_limit (h.reduced i) (h.reducing i)) ∙ d.0, d.1 ∙ λ i. reduction_of (h.reduced i) (h.reducing i))

pub returns-in-Err : goal.returns-in-Err
returns-in-Err g c version =
    let h = trying.pair-of c.in_ok-p.field-0 _ (λ x. x.0.now) (λ x. x.1.now) (λ x. x.2) version c.args.node.now c.args.g c.args.f (c.in_ok-p.ensures version) c.in-Some.is in
    let d = subst (Reduced c.in-Some.p.now c.in-Some.q.now) c.in-Err.is c.in_ok-result.ensures.ok in
    (h.valid, sym (λ i. reduction_limit (h.reduced i) (h.reducing i)) ∙ d ∙ ap (λ r. Some r) (sym c.reason.ensures))
