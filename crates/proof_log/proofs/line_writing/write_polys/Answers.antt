use Rattle.std.proofs.Common.{◌∷◌, ap, length}
use Rattle.desk_io.proofs.Writing.{first_failed, last_writes}
use Rattle.poly_text.specs.Text.{poly_text}
use Rattle.proof_log.specs.Text.{more_text, polys_text}
use Rattle.proof_log.specs.Own.{IsOver}
use Rattle.proof_log.proofs.Written.{all_others}
use Rattle.proof_log.proofs.line_writing.write_polys.Goals as goal

pub returns-in_err-write_poly-clause-bytes : goal.returns-in_err-write_poly-clause-bytes
returns-in_err-write_poly-clause-bytes g c =
    first_failed _ _ _ _ _ (32 ∷ poly_text c.args.vars.now c.in-Some.first.now) (more_text c.args.vars.now c.in-Some.others.now) _ c.from_residual.ensures.0 c.in_err-write_poly.ensures.bytes (ap (polys_text c.args.vars.now) c.in-Some.ensures.cases.0)

pub returns-clause-bytes : goal.returns-clause-bytes
returns-clause-bytes g c =
    last_writes c.write_more.result _ _ _ _ _ _ (32 ∷ poly_text c.args.vars.now c.in-Some.first.now) (more_text c.args.vars.now c.in-Some.others.now) _ c.in_ok-write_poly.ensures.bytes c.write_more.ensures.bytes (ap (polys_text c.args.vars.now) c.in-Some.ensures.cases.0)

pub write_more-requires : goal.write_more-requires
write_more-requires g c = all_others (IsOver (length c.args.vars.now)) _ _ _ c.in-Some.ensures.cases.0 c.requires
