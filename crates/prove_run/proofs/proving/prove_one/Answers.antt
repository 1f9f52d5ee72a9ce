use Rattle.prove_run.proofs.Program.{few-problems}
use Rattle.prove_run.proofs.Proved.{log-told}
use Rattle.prove_run.proofs.proving.prove_one.Goals as goal

pub prove_all-requires-clause-few : goal.prove_all-requires-clause-few
prove_all-requires-clause-few c = few-problems c.args.program.now c.requires _ c.in_ok-problems.ensures.value

pub returns-clause-log : goal.returns-clause-log
returns-clause-log c =
    let t = log-told c.args.program.now c.requires _ c.in_ok-problems.ensures.value c.in_ok-problems.ensures.stated _ _ c.from_vec.ensures
    c.in_ok-proofs.ensures.log c.in_ok-proofs.ensures.posed in
    t.log

pub returns-clause-accepted : goal.returns-clause-accepted
returns-clause-accepted c =
    let t = log-told c.args.program.now c.requires _ c.in_ok-problems.ensures.value c.in_ok-problems.ensures.stated _ _ c.from_vec.ensures
    c.in_ok-proofs.ensures.log c.in_ok-proofs.ensures.posed in
    t.accepted

pub returns-clause-whole : goal.returns-clause-whole
returns-clause-whole c =
    let t = log-told c.args.program.now c.requires _ c.in_ok-problems.ensures.value c.in_ok-problems.ensures.stated _ _ c.from_vec.ensures
    c.in_ok-proofs.ensures.log c.in_ok-proofs.ensures.posed in
    t.whole
