use Rattle.std.proofs.Common.{append_assoc, refl, ◌++◌, ◌∙◌}
use Rattle.desk_io.proofs.Growth.{Grew-then}
use Rattle.desk_io.proofs.Writing.{first_failed, next_failed, last_writes}
use Rattle.std.specs.List.{flat_map}
use Rattle.proof_log.specs.declared.line.LogLine.TheVariants as line
use Rattle.proof_log.specs.Lines.{status_line}
use Rattle.proof_log.specs.Writing.{whole_line, lists_text, chain_text}
use Rattle.proof_log.proofs.writing.write_system.Goals as goal

pub returns-in_err-write_row-clause-bytes : goal.returns-in_err-write_row-clause-bytes
returns-in_err-write_row-clause-bytes g c =
    let names = c.args.vars.now in
    first_failed _ _ _ _ _ (whole_line names line.System) ((lists_text names c.args.piece.now) ++ ((flat_map (chain_text names) c.args.chain.now) ++ (whole_line names (status_line c.args.status.now)))) _ c.from_residual.ensures.0 c.in_err-write_row.ensures.bytes
    (append_assoc ((whole_line names line.System) ++ (lists_text names c.args.piece.now)) (flat_map (chain_text names) c.args.chain.now) (whole_line names (status_line c.args.status.now)) ∙ append_assoc (whole_line names line.System) (lists_text names c.args.piece.now) ((flat_map (chain_text names) c.args.chain.now) ++ (whole_line names (status_line c.args.status.now))))

pub returns-in_err-write_lists-clause-bytes : goal.returns-in_err-write_lists-clause-bytes
returns-in_err-write_lists-clause-bytes g c =
    let names = c.args.vars.now in
    next_failed _ _ _ _ _ _ _ (whole_line names line.System) (lists_text names c.args.piece.now) ((flat_map (chain_text names) c.args.chain.now) ++ (whole_line names (status_line c.args.status.now))) _ c.from_residual-in_err-write_lists.ensures.0
    c.in_ok-write_row.ensures.bytes c.in_err-write_lists.ensures.bytes
    (append_assoc ((whole_line names line.System) ++ (lists_text names c.args.piece.now)) (flat_map (chain_text names) c.args.chain.now) (whole_line names (status_line c.args.status.now)))

pub returns-in_err-write_chain-clause-bytes : goal.returns-in_err-write_chain-clause-bytes
returns-in_err-write_chain-clause-bytes g c =
    let names = c.args.vars.now in
    next_failed _ _ _ _ _ _ _ ((whole_line names line.System) ++ (lists_text names c.args.piece.now)) (flat_map (chain_text names) c.args.chain.now) (whole_line names (status_line c.args.status.now)) _ c.from_residual-in_err-write_chain.ensures.0
    (Grew-then _ _ _ _ _ _ _ _ c.in_ok-write_row.ensures.bytes c.in_ok-write_lists.ensures.bytes) c.in_err-write_chain.ensures.bytes
    refl

pub returns-clause-bytes : goal.returns-clause-bytes
returns-clause-bytes g c =
    let names = c.args.vars.now in
    last_writes c.write_status.result _ _ _ _ _ _ ((whole_line names line.System) ++ (lists_text names c.args.piece.now) ++ (flat_map (chain_text names) c.args.chain.now)) (whole_line names (status_line c.args.status.now)) _
    (Grew-then _ _ _ _ _ _ _ _ (Grew-then _ _ _ _ _ _ _ _ c.in_ok-write_row.ensures.bytes c.in_ok-write_lists.ensures.bytes) c.in_ok-write_chain.ensures.bytes) c.write_status.ensures.bytes
    refl
