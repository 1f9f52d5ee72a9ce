use Rattle.std.proofs.Common.{◌≡◌, subst}
use Rattle.std.specs.Prelude.{IfOk}
use mir.Syntax.{w128}
use Rattle.std.proofs.lemmas.Int.{to_z-of_z}
use Rattle.log_checker.specs.Trials.{reduces_to}
use Rattle.log_checker.proofs.Trying as trying
use Rattle.log_checker.proofs.rules.is_red.Goals as goal

pub reduces_to-requires-clause-class : goal.reduces_to-requires-clause-class
reduces_to-requires-clause-class g c = (trying.pair-of c.in_ok-red_pair.field-0 _ (λ x. x.0.now) (λ x. x.1.now) (λ x. x.2) 1 c.args.node.now c.args.g c.args.f (c.in_ok-red_pair.ensures 1) c.in-Some.is).class

pub reduces_to-requires-clause-reaches : goal.reduces_to-requires-clause-reaches
reduces_to-requires-clause-reaches g c = (trying.pair-of c.in_ok-red_pair.field-0 _ (λ x. x.0.now) (λ x. x.1.now) (λ x. x.2) 1 c.args.node.now c.args.g c.args.f (c.in_ok-red_pair.ensures 1) c.in-Some.is).reached

pub returns-in-None : goal.returns-in-None
returns-in-None g c version = trying.no-red _ _ (trying.no-pair c.in_ok-red_pair.field-0 (λ x. x.0.now) (λ x. x.1.now) (λ x. x.2) version c.args.node.now c.args.g c.args.f (c.in_ok-red_pair.ensures version) c.in-None.is)

pub returns-in-Some : goal.returns-in-Some
returns-in-Some g c =
    let p = c.in-Some.p.now in
    let q = c.in-Some.q.now in
    trying.red-told c.reduces_to.result c.args.node.now c.args.g c.args.f p q c.in-Some.var c.args.m c.args.r.now
    (λ version. trying.pair-of c.in_ok-red_pair.field-0 _ (λ x. x.0.now) (λ x. x.1.now) (λ x. x.2) version c.args.node.now c.args.g c.args.f (c.in_ok-red_pair.ensures version) c.in-Some.is)
    (subst (λ m. IfOk c.reduces_to.result (λ told. told ≡ reduces_to p q m c.args.r.now)) (to_z-of_z w128 c.args.m c.ranges.m) c.reduces_to.ensures.ok)
