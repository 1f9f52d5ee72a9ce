use Rattle.std.proofs.Common.{◌+◌, ◌∷◌, take, drop, arith}
use Rattle.desk_io.proofs.Growth.{Grew-more}
use Rattle.desk_io.proofs.Writing.{next_failed}
use Rattle.proof_log.specs.Text.{field_text, fields_text}
use Rattle.proof_log.proofs.Written.{item_more, item_split}
use Rattle.proof_log.proofs.line_writing.write_fields.Goals as goal

pub returns-in_err-write_behind_blank-clause-bytes : goal.returns-in_err-write_behind_blank-clause-bytes
returns-in_err-write_behind_blank-clause-bytes g c =
    next_failed _ _ _ _ _ _ _ (fields_text (take c.loop-field.field-index c.args.fields.now)) _ (fields_text (drop (c.loop-field.field-index + 1) c.args.fields.now)) _
    c.from_residual.ensures.0 c.loop-field.invariant.grew c.in_err-write_behind_blank.ensures.bytes
    (item_split (λ f. 32 ∷ field_text f) c.args.fields.now c.loop-field.field-index c.field-item.result (omega arith) c.field-item.is)

pub loop-field-preserved : goal.loop-field-preserved
loop-field-preserved g c = record {
  later = omega (arith, c.in_ok-write_behind_blank.ensures.cause.later);
  grew = Grew-more _ _ _ _ _ _ _ _ _ c.loop-field.invariant.grew c.in_ok-write_behind_blank.ensures.bytes
      (item_more (λ f. 32 ∷ field_text f) c.args.fields.now c.loop-field.field-index c.field-item.result (omega arith) c.field-item.is);
}
