use Rattle.std.proofs.Common.{Err, ap, refl, inl, inr, subst}
use Rattle.poly_model.specs.declared.limits.TheConstants.{MOST_LOG_BYTES}
use Rattle.desk_io.specs.Files.{Lacks}
use Rattle.log_checker.specs.Checked.{ReadJudged}
use Rattle.command_line.specs.Answer.{read_fault, too_large}
use Rattle.command_line.proofs.Dues.{given, due_large, due_fault}
use Rattle.command_line.proofs.Found.{over_of}
use Rattle.command_line.proofs.checking.fetch_log.Goals as goal

pub returns-in-Err-ReadFault-clause-over : goal.returns-in-Err-ReadFault-clause-over
returns-in-Err-ReadFault-clause-over g c = λ out.
    given _ _ _ _ read_fault _ _ _ _ _
    (due_fault _ _ c.args.name.now MOST_LOG_BYTES (c.in-Err-ReadFault.ensures.read_fault (ap Err c.in-Err-ReadFault.field-0-is)))
    (c.say.ensures.ends out)

pub returns-in-Err-TooLarge-clause-over : goal.returns-in-Err-TooLarge-clause-over
returns-in-Err-TooLarge-clause-over g c = λ out.
    let read = c.in-Err-TooLarge.ensures.read in
    given _ _ _ _ too_large _ _ _ _ _
    (due_large _ _ c.args.name.now MOST_LOG_BYTES read.bytes read.own
    (λ (lacks : Lacks (g.K.Desk.held c.args.desk.now) c.args.name.now). elim (c.in-Err-TooLarge.ensures.absent lacks) [ inl e ↦ (cc) | inr e ↦ (cc) ])
    (subst (λ f. ReadJudged (Err f) read.bytes) c.in-Err-TooLarge.field-0-is read.judged))
    (c.say-in-Err-TooLarge.ensures.ends out)

pub returns-in-Err-OutOfMemory-clause-over : goal.returns-in-Err-OutOfMemory-clause-over
returns-in-Err-OutOfMemory-clause-over g c = λ out. inr (record { status_is = refl; out = refl; notes = refl })

pub returns-in-Ok-clause-own : goal.returns-in-Ok-clause-own
returns-in-Ok-clause-own g c = over_of g.D.Domain.operations c.in-Ok.checked.problems c.in-Ok.checked.verdicts c.in-Ok.ensures.assured

pub returns-in-Ok-clause-found : goal.returns-in-Ok-clause-found
returns-in-Ok-clause-found g c =
    let read = c.in-Ok.ensures.read in
    record {
      log = read.bytes;
      read = record {
        own = read.own;
        there = λ (lacks : Lacks (g.K.Desk.held c.args.desk.now) c.args.name.now). elim (c.in-Ok.ensures.absent lacks) [ inl e ↦ (cc) | inr e ↦ (cc) ];
        fits = read.judged.0;
      };
      finds = read.judged.1;
    }

pub returns-in-Err-Malformed-clause-found : goal.returns-in-Err-Malformed-clause-found
returns-in-Err-Malformed-clause-found g c =
    let read = c.in-Err-Malformed.ensures.read in
    let judged = subst (λ f. ReadJudged (Err f) read.bytes) c.in-Err-Malformed.field-0-is read.judged in
    record {
      log = read.bytes;
      read = record {
        own = read.own;
        there = λ (lacks : Lacks (g.K.Desk.held c.args.desk.now) c.args.name.now). elim (c.in-Err-Malformed.ensures.absent lacks) [ inl e ↦ (cc) | inr e ↦ (cc) ];
        fits = judged.0;
      };
      finds = judged.1;
    }

pub returns-in-Err-Rejected-clause-found : goal.returns-in-Err-Rejected-clause-found
returns-in-Err-Rejected-clause-found g c =
    let read = c.in-Err-Rejected.ensures.read in
    let judged = subst (λ f. ReadJudged (Err f) read.bytes) c.in-Err-Rejected.field-0-is read.judged in
    record {
      log = read.bytes;
      read = record {
        own = read.own;
        there = λ (lacks : Lacks (g.K.Desk.held c.args.desk.now) c.args.name.now). elim (c.in-Err-Rejected.ensures.absent lacks) [ inl e ↦ (cc) | inr e ↦ (cc) ];
        fits = judged.0;
      };
      finds = judged.1;
    }
