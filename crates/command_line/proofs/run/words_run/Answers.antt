use Rattle.std.proofs.Common.{[], None, inl, inr, refl, subst, arith}
use Rattle.desk_io.specs.Causes.{Rose}
use Rattle.command_line.specs.Answer.{usage}
use Rattle.command_line.specs.Table.{IsAnswerOf}
use Rattle.command_line.specs.Contract.{IsRun, lent, views}
use Rattle.command_line.specs.Run.{Answers}
use Rattle.command_line.proofs.Causes.{complete, cut_off}
use Rattle.command_line.proofs.Decided.{decided}
use Rattle.command_line.proofs.Dues.{given, due_at_once}
use Rattle.command_line.proofs.Trials.{trial-runs}
use Rattle.command_line.proofs.run.words_run.Goals as goal

pub returns-in-Wrong-clause-run : goal.returns-in-Wrong-clause-run
returns-in-Wrong-clause-run g c =
    let held = g.K.Desk.held c.args.desk.now in
    let faults = g.K.Desk.faults c.args.desk.now in
    let out = g.S.Sink.written c.args.out.now in
    let answered : Answers held (Rose faults faults) [] (IsAnswerOf None) out out (g.N.Sink.written c.args.notes.now) (g.N.Sink.written c.say.new.notes) c.say.result =
    given held (Rose faults faults) [] (IsAnswerOf None) usage out out _ _ c.say.result
    (due_at_once held (Rose faults faults) (IsAnswerOf None) usage (λ done unproved. refl) (λ e. cc) refl)
    (c.say.ensures.ends out) in
    subst (λ form. IsRun (views g.K.Desk.held g.K.Desk.faults g.S.Sink.written g.S.Sink.faults g.N.Sink.written g.N.Sink.faults)
    (lent c.args.desk.now c.args.out.now c.args.notes.now) (lent c.args.desk.now c.args.out.now c.say.new.notes) form c.say.result)
    c.in-Wrong.ensures.form
    (record {
      answered = answered;
      decided = decided held _ [] (IsAnswerOf None) _ _ _ _ c.say.result answered;
      complete = λ files told desk_quiet out_quiet notes_quiet.
          complete held files _ [] (IsAnswerOf None) _ _ _ _ c.say.result told answered desk_quiet (λ put. notes_quiet (c.say.ensures.write_fault put));
      cut_off = λ files told put. cut_off held _ [] (IsAnswerOf None) _ _ _ _ c.say.result answered files told put;
      usage = λ e. refl;
      usage_then = λ e. c.say.ensures.status;
      idle = λ e. (refl, refl);
      read_fault = λ e. absurd (elim c.say.ensures.status [ inl u ↦ (cc) | inr w ↦ (cc) ]);
      write_fault = λ put. inr (c.say.ensures.write_fault put);
      untouched = λ quiet. refl;
      unsaid = λ e. absurd (elim c.say.ensures.status [ inl u ↦ (cc) | inr w ↦ (cc) ]);
      same = refl;
      later = (omega arith, omega arith, c.say.ensures.later);
    })

pub returns-in-Trial-clause-run : goal.returns-in-Trial-clause-run
returns-in-Trial-clause-run g c =
    let v = views g.K.Desk.held g.K.Desk.faults g.S.Sink.written g.S.Sink.faults g.N.Sink.written g.N.Sink.faults in
    subst (λ form. IsRun v (lent c.args.desk.now c.args.out.now c.args.notes.now) (lent c.args.desk.now c.trial_run.new.out c.args.notes.now) form c.trial_run.result)
    c.in-Trial.ensures.form
    (trial-runs v c.args.desk.now c.args.out.now c.trial_run.new.out c.args.notes.now c.in-Trial.number c.trial_run.result
    (c.trial_run.ensures.ends (g.N.Sink.written c.args.notes.now)) c.trial_run.ensures.status c.trial_run.ensures.write_fault c.trial_run.ensures.untouched
    c.trial_run.ensures.later)

pub returns-in-Trial-clause-trial : goal.returns-in-Trial-clause-trial
returns-in-Trial-clause-trial g c number form = record { of_trial = c.trial_run.ensures.status; idle = refl; unsaid = refl }
