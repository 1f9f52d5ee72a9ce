use Rattle.std.proofs.Common.{arith}
use Rattle.prove_run.proofs.Posed.{root-pays}
use Rattle.prove_run.proofs.Proved.{first-stated, some-there, one-more}
use Rattle.prove_run.proofs.proving.prove_all.Goals as goal

pub prove-requires-clause-pays : goal.prove-requires-clause-pays
prove-requires-clause-pays c =
    let s = first-stated _ c.in-Some.problem _ c.in-Some.ensures.steps.0 c.loop-problem.invariant.stated in
    let some = some-there _ _ c.is_empty.ensures c.if-is_empty.false in
    root-pays c.in-Some.problem c.len.result s.0 (omega arith) (omega (arith, some))

pub loop-problem-preserved : goal.loop-problem-preserved
loop-problem-preserved c =
    let s = first-stated _ c.in-Some.problem _ c.in-Some.ensures.steps.0 c.loop-problem.invariant.stated in
    let after = one-more _ _ _ _ c.in-Some.problem c.in_ok-prove.field-0 c.loop-problem.invariant.proved c.in_ok-push.ensures.items s.0
    c.in_ok-prove.ensures.proof c.in_ok-prove.ensures.vars in
    record { next = tt; finite = tt; stated = s.1; room = omega arith; proved = after }
