use Rattle.std.proofs.Common.{All, ◌∙◌, ap, sym, subst}
use Rattle.std.specs.List.{flat_map}
use Rattle.proof_log.proofs.Owned.{log-own}
use Rattle.proof_log.specs.Own.{IsOwn}
use Rattle.prove_run.specs.Logs.{newest}
use Rattle.command_line.specs.Proving.{proved, status_of}
use Rattle.command_line.specs.VerdictLines.{verdicts_text, problems_in, verdicts_in}
use Rattle.command_line.proofs.Outcomes.{put_failed_ends}
use Rattle.command_line.proofs.proving.put_proofs.Goals as goal

pub all_verdict_lines-requires : goal.all_verdict_lines-requires
all_verdict_lines-requires g c = subst (All IsOwn) (sym c.as_slice.ensures) (log-own newest c.args.log.now.proofs c.requires.whole.written c.requires.whole.lines)

pub put_log-requires-clause-own : goal.put_log-requires-clause-own
put_log-requires-clause-own g c = log-own newest c.args.log.now.proofs c.requires.whole.written c.requires.whole.lines

pub returns-in-Ok-put_log-clause-ends : goal.returns-in-Ok-put_log-clause-ends
returns-in-Ok-put_log-clause-ends g c =
    let proofs = c.args.log.now.proofs in
    c.say_each.ensures.ends (proved proofs) (g.S.Sink.written c.args.out.now) (g.S.Sink.written c.put_log.new.out)
    (ap status_of (sym c.as_slice-2.ensures) ∙ sym c.status_of-status.ensures)
    (ap (λ ps. verdicts_text (problems_in ps) (verdicts_in ps)) (sym c.as_slice.ensures) ∙ sym c.in-Ok.ensures
    ∙ ap (flat_map (λ line. line.items)) (sym c.deref.ensures.value))
    c.in-Ok-put_log.ensures.bytes

pub returns-clause-ends : goal.returns-clause-ends
returns-clause-ends g c = put_failed_ends (proved c.args.log.now.proofs) _ _ (g.N.Sink.written c.args.notes.now) c.in-Err.ensures.bytes
