use Rattle.std.proofs.Common.{ap, append_assoc, sym, ◌++◌}
use Rattle.desk_io.proofs.Growth.{Grew-then}
use Rattle.desk_io.proofs.Writing.{first_failed, next_failed, last_writes}
use Rattle.std.specs.List.{flat_map}
use Rattle.proof_log.specs.declared.line.LogLine.TheVariants as line
use Rattle.proof_log.specs.Writing.{whole_line, step_text, outcome_text}
use Rattle.proof_log.proofs.writing.write_piece.Goals as goal

pub returns-in_err-write_row-clause-bytes : goal.returns-in_err-write_row-clause-bytes
returns-in_err-write_row-clause-bytes g c =
    let names = c.args.vars.now in
    let piece = c.args.piece.now in
    first_failed _ _ _ _ _ (whole_line names (line.Node piece.path)) ((flat_map (step_text names) piece.steps) ++ (outcome_text names piece piece.outcome)) _ c.from_residual.ensures.0 c.in_err-write_row.ensures.bytes
    (append_assoc (whole_line names (line.Node piece.path)) (flat_map (step_text names) piece.steps) (outcome_text names piece piece.outcome))

pub returns-in_err-write_steps-clause-bytes : goal.returns-in_err-write_steps-clause-bytes
returns-in_err-write_steps-clause-bytes g c =
    let names = c.args.vars.now in
    let piece = c.args.piece.now in
    next_failed _ _ _ _ _ _ _ (whole_line names (line.Node piece.path)) (flat_map (step_text names) c.as_slice.result.now) (outcome_text names piece piece.outcome) _ c.from_residual-in_err-write_steps.ensures.0
    c.in_ok-write_row.ensures.bytes c.in_err-write_steps.ensures.bytes
    ((λ j. (whole_line names (line.Node piece.path)) ++ ((ap (flat_map (step_text names)) (sym c.as_slice.ensures)) j) ++ (outcome_text names piece piece.outcome)))

pub returns-clause-bytes : goal.returns-clause-bytes
returns-clause-bytes g c =
    let names = c.args.vars.now in
    let piece = c.args.piece.now in
    last_writes c.write_outcome.result _ _ _ _ _ _ ((whole_line names (line.Node piece.path)) ++ (flat_map (step_text names) c.as_slice.result.now)) (outcome_text names piece piece.outcome) _
    (Grew-then _ _ _ _ _ _ _ _ c.in_ok-write_row.ensures.bytes c.in_ok-write_steps.ensures.bytes) c.write_outcome.ensures.bytes
    ((λ j. (whole_line names (line.Node piece.path)) ++ ((ap (flat_map (step_text names)) (sym c.as_slice.ensures)) j) ++ (outcome_text names piece piece.outcome)))
