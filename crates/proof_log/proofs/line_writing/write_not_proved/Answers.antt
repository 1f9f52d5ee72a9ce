use Rattle.std.proofs.Common.{◌++◌, ◌∷◌, codes, sym, append_assoc}
use Rattle.desk_io.proofs.Writing.{first_failed, last_writes}
use Rattle.poly_text.specs.Text.{poly_text}
use Rattle.proof_log.specs.Text.{fields_text}
use Rattle.proof_log.proofs.line_writing.write_not_proved.Goals as goal

pub returns-in_err-write_worded-clause-bytes : goal.returns-in_err-write_worded-clause-bytes
returns-in_err-write_worded-clause-bytes g c =
    first_failed _ _ _ _ _ (codes "not-proved" ++ fields_text c.args.fields.now) (32 ∷ poly_text c.args.vars.now c.args.r.now) _ c.from_residual.ensures.0 c.in_err-write_worded.ensures.bytes (sym (append_assoc (codes "not-proved") (fields_text c.args.fields.now) (32 ∷ poly_text c.args.vars.now c.args.r.now)))

pub returns-clause-bytes : goal.returns-clause-bytes
returns-clause-bytes g c =
    last_writes c.write_poly.result _ _ _ _ _ _ (codes "not-proved" ++ fields_text c.args.fields.now) (32 ∷ poly_text c.args.vars.now c.args.r.now) _ c.in_ok-write_worded.ensures.bytes c.write_poly.ensures.bytes (sym (append_assoc (codes "not-proved") (fields_text c.args.fields.now) (32 ∷ poly_text c.args.vars.now c.args.r.now)))
