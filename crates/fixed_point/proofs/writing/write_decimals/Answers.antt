use Rattle.std.proofs.Common.{codes, arith}
use Rattle.desk_io.proofs.Growth.{Grew-none}
use Rattle.desk_io.proofs.Writing.{first_failed, last_writes}
use Rattle.fixed_point.specs.Text.{decimals_text}
use Rattle.fixed_point.proofs.Places.{decimals-pointed, no-decimals}
use Rattle.fixed_point.proofs.writing.write_decimals.Goals as goal

pub returns-then-units-eq0-clause-bytes : goal.returns-then-units-eq0-clause-bytes
returns-then-units-eq0-clause-bytes g c =
    let none = no-decimals c.args.places c.args.units (omega arith) in
    rw none (Grew-none _ _)

pub returns-in_err-push-clause-bytes : goal.returns-in_err-push-clause-bytes
returns-in_err-push-clause-bytes g c =
    first_failed _ _ _ _ _ (codes ".") (decimals_text c.args.places c.args.units) _ c.from_residual.ensures.0 c.in_err-push.ensures.bytes
    (decimals-pointed _ _ (omega arith) c.requires.below_one)

pub returns-clause-bytes : goal.returns-clause-bytes
returns-clause-bytes g c =
    last_writes c.write_digits.result _ _ _ _ _ _ (codes ".") (decimals_text c.args.places c.args.units) _
    c.in_ok-push.ensures.bytes c.write_digits.ensures.bytes (decimals-pointed _ _ (omega arith) c.requires.below_one)
