use Rattle.std.proofs.Common.{◌++◌, ◌∷◌, [], ◌∙◌, append_assoc}
use Rattle.desk_io.proofs.Growth.{Grew-then}
use Rattle.desk_io.proofs.Writing.{first_failed, next_failed, last_writes}
use Rattle.proof_log.specs.Text.{fields_text, rest_text}
use Rattle.proof_log.specs.Writing.{lent}
use Rattle.proof_log.proofs.Written as rows
use Rattle.proof_log.proofs.line_writing.write_row.Goals as goal

pub returns-in_err-write_worded-clause-bytes : goal.returns-in_err-write_worded-clause-bytes
returns-in_err-write_worded-clause-bytes g c =
    first_failed _ _ _ _ _ (c.word_text.result.now ++ fields_text c.args.fields.now) ((rest_text c.args.vars.now (lent c.args.rest)) ++ (10 ∷ [])) _ c.from_residual.ensures.0 c.in_err-write_worded.ensures.bytes ((rows.by_parts c.word_text.result.now _ (fields_text c.args.fields.now) (rest_text c.args.vars.now (lent c.args.rest)) c.word_text.ensures) ∙ append_assoc (c.word_text.result.now ++ fields_text c.args.fields.now) (rest_text c.args.vars.now (lent c.args.rest)) (10 ∷ []))

pub returns-in_err-write_rest-clause-bytes : goal.returns-in_err-write_rest-clause-bytes
returns-in_err-write_rest-clause-bytes g c =
    next_failed _ _ _ _ _ _ _ (c.word_text.result.now ++ fields_text c.args.fields.now) (rest_text c.args.vars.now (lent c.args.rest)) (10 ∷ []) _ c.from_residual-in_err-write_rest.ensures.0
    c.in_ok-write_worded.ensures.bytes c.in_err-write_rest.ensures.bytes (rows.by_parts c.word_text.result.now _ (fields_text c.args.fields.now) (rest_text c.args.vars.now (lent c.args.rest)) c.word_text.ensures)

pub returns-clause-bytes : goal.returns-clause-bytes
returns-clause-bytes g c =
    last_writes c.push.result _ _ _ _ _ _ ((c.word_text.result.now ++ fields_text c.args.fields.now) ++ (rest_text c.args.vars.now (lent c.args.rest))) (10 ∷ []) _ (Grew-then _ _ _ _ _ _ _ _ c.in_ok-write_worded.ensures.bytes c.in_ok-write_rest.ensures.bytes) c.push.ensures.bytes (rows.by_parts c.word_text.result.now _ (fields_text c.args.fields.now) (rest_text c.args.vars.now (lent c.args.rest)) c.word_text.ensures)
