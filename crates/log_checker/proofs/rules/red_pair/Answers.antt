use Rattle.std.proofs.Common.{◌∙◌, ap, subst, sym}
use Rattle.proof_steps.specs.Numbers.{item, has}
use Rattle.log_checker.specs.Trials.{Divides}
use Rattle.log_checker.proofs.Trying as trying
use Rattle.log_checker.proofs.rules.red_pair.Goals as goal

pub returns-in-Some-2 : goal.returns-in-Some-2
returns-in-Some-2 g c version =
    let n = c.args.node.now in
    let p = c.in-Some.p.now in
    let q = c.in-Some-numbered.q.now in
    trying.red-pair version n c.args.g c.args.f p q c.in-Some-2.var
    (c.in-Some.ensures.1 ∙ ap (λ E. item E c.args.g) c.as_slice-eqs.ensures) (c.in-Some-numbered.ensures.1 ∙ ap (λ E. item E c.args.f) c.as_slice-eqs.ensures)
    (sym (ap (λ E. has E c.args.g) c.as_slice-eqs.ensures) ∙ c.in-Some.ensures.0) (sym (ap (λ E. has E c.args.f) c.as_slice-eqs.ensures) ∙ c.in-Some-numbered.ensures.0) c.if-g-f.false
    (subst (λ N. Divides N p q (Rattle.std.specs.Prelude.Some c.in-Some-2.var)) c.as_slice.ensures (subst (Divides c.as_slice.result.now p q) c.in-Some-2.is c.in_ok-divisor.ensures))
