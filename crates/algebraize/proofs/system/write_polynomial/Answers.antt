use Rattle.std.proofs.Common.{◌++◌, append_assoc, refl}
use Rattle.desk_io.proofs.Growth.{Grew-then}
use Rattle.desk_io.proofs.Writing.{first_failed, next_failed, last_writes}
use Rattle.poly_text.specs.Text.{poly_text}
use Rattle.algebraize.specs.System.{line_end}
use Rattle.algebraize.proofs.system.write_polynomial.Goals as goal

pub returns-in_err-push-clause-bytes : goal.returns-in_err-push-clause-bytes
returns-in_err-push-clause-bytes g c =
    first_failed _ _ _ _ _ c.args.word.now (poly_text c.args.vars.now c.args.p.now ++ line_end) _ c.from_residual.ensures.0 c.in_err-push.ensures.bytes
    (append_assoc c.args.word.now (poly_text c.args.vars.now c.args.p.now) line_end)

pub returns-in_err-print_poly-clause-bytes : goal.returns-in_err-print_poly-clause-bytes
returns-in_err-print_poly-clause-bytes g c =
    next_failed _ _ _ _ _ _ _ c.args.word.now (poly_text c.args.vars.now c.args.p.now) line_end _ c.from_residual-in_err-print_poly.ensures.0
    c.in_ok-push.ensures.bytes c.in_err-print_poly.ensures.bytes refl

pub returns-clause-bytes : goal.returns-clause-bytes
returns-clause-bytes g c =
    last_writes c.push-2.result _ _ _ _ _ _ (c.args.word.now ++ poly_text c.args.vars.now c.args.p.now) line_end _
    (Grew-then _ _ _ _ _ _ _ _ c.in_ok-push.ensures.bytes c.in_ok-print_poly.ensures.bytes) c.push-2.ensures.bytes
    refl
