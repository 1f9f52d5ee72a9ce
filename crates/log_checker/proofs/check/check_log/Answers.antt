use Rattle.std.proofs.Common.{◌∙◌, subst, length, ap, arith, Err, IfOk}
use Rattle.poly_model.specs.declared.limits.TheConstants.{MOST_LOG_BYTES}
use Rattle.log_checker.specs.Checked.{IsCovered}
use Rattle.log_checker.proofs.Readings.{some_bytes, many_bytes, of_bytes}
use Rattle.log_checker.proofs.check.check_log.Goals as goal

pub returns-in-Ok-clause-read : goal.returns-in-Ok-clause-read
returns-in-Ok-clause-read g c =
    let bytes = c.deref.result.now in
    record {
      bytes = bytes;
      own = λ file holds. c.deref.ensures.value ∙ c.in-Ok.ensures.whole file holds;
      judged = of_bytes c.check_text.result bytes (omega (arith, c.in-Ok.ensures.fits, ap length c.deref.ensures.value)) c.check_text.ensures.judged;
      covered = c.check_text.ensures.covered;
    }

pub returns-in-Err-ReadFault-clause-read : goal.returns-in-Err-ReadFault-clause-read
returns-in-Err-ReadFault-clause-read g c =
    let some = some_bytes (g.K.Desk.held c.args.desk.now) c.args.name.now in
    record { bytes = some.0; own = some.1; judged = tt; covered = tt }

pub returns-in-Err-TooLarge-clause-read : goal.returns-in-Err-TooLarge-clause-read
returns-in-Err-TooLarge-clause-read g c =
    let many = many_bytes (g.K.Desk.held c.args.desk.now) c.args.name.now MOST_LOG_BYTES
    (λ file holds. c.in-Err-TooLarge.ensures.too_large file holds (ap Err c.in-Err-TooLarge.field-0-is)) in
    record { bytes = many.bytes; own = many.own; judged = many.many; covered = tt }

pub returns-in-Err-OutOfMemory-clause-read : goal.returns-in-Err-OutOfMemory-clause-read
returns-in-Err-OutOfMemory-clause-read g c =
    let some = some_bytes (g.K.Desk.held c.args.desk.now) c.args.name.now in
    record { bytes = some.0; own = some.1; judged = tt; covered = tt }

pub returns-in-Ok-clause-covered : goal.returns-in-Ok-clause-covered
returns-in-Ok-clause-covered g c file holds =
    subst (λ bytes. IfOk c.check_text.result (λ checked. IsCovered g.D.Domain.operations checked bytes))
    (c.deref.ensures.value ∙ c.in-Ok.ensures.whole file holds) c.check_text.ensures.covered
