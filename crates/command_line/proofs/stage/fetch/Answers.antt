use Rattle.std.proofs.Common.{Err, ap, refl, inr, arith}
use Rattle.log_checker.proofs.Readings.{many_bytes}
use Rattle.command_line.specs.Answer.{read_fault, too_large}
use Rattle.command_line.proofs.Dues.{given, due_large, due_fault}
use Rattle.command_line.proofs.stage.fetch.Goals as goal

pub returns-in-Ok-clause-read : goal.returns-in-Ok-clause-read
returns-in-Ok-clause-read g c = record {
  own = λ file holds. c.in-Ok.ensures.whole file holds;
  there = λ lacks. c.in-Ok.ensures.absent lacks;
  fits = omega (arith, c.in-Ok.ensures.fits, c.in-Ok.bytes.ok);
}

pub returns-in-Err-ReadFault-clause-over : goal.returns-in-Err-ReadFault-clause-over
returns-in-Err-ReadFault-clause-over g c = λ out.
    given _ _ _ _ read_fault _ _ _ _ _
    (due_fault _ _ c.args.name.now c.args.most (c.in-Err-ReadFault.ensures.read_fault (ap Err c.in-Err-ReadFault.field-0-is)))
    (c.say.ensures.ends out)

pub returns-in-Err-TooLarge-clause-over : goal.returns-in-Err-TooLarge-clause-over
returns-in-Err-TooLarge-clause-over g c = λ out.
    let many = many_bytes (g.K.Desk.held c.args.desk.now) c.args.name.now c.args.most
    (λ file holds. c.in-Err-TooLarge.ensures.too_large file holds (ap Err c.in-Err-TooLarge.field-0-is)) in
    given _ _ _ _ too_large _ _ _ _ _
    (due_large _ _ c.args.name.now c.args.most many.bytes many.own
    (λ lacks. c.in-Err-TooLarge.ensures.not_absent lacks (ap Err c.in-Err-TooLarge.field-0-is)) many.many)
    (c.say-in-Err-TooLarge.ensures.ends out)

pub returns-in-Err-OutOfMemory-clause-over : goal.returns-in-Err-OutOfMemory-clause-over
returns-in-Err-OutOfMemory-clause-over g c = λ out. inr (record { status_is = refl; out = refl; notes = refl })
