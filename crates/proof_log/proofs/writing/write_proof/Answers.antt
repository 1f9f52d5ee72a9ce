use Rattle.std.proofs.Common.{ap, append_assoc, sym, ◌++◌, ◌∙◌}
use Rattle.desk_io.proofs.Growth.{Grew-then}
use Rattle.desk_io.proofs.Writing.{first_failed, next_failed, last_writes}
use Rattle.std.specs.List.{flat_map}
use Rattle.proof_log.specs.declared.line.LineWord.TheVariants as word
use Rattle.proof_log.specs.declared.line.LogLine.TheVariants as line
use Rattle.proof_log.specs.Writing.{count_text, problem_text, piece_text, whole_line}
use Rattle.proof_log.proofs.writing.write_proof.Goals as goal

pub returns-in_err-write_count-clause-bytes : goal.returns-in_err-write_count-clause-bytes
returns-in_err-write_count-clause-bytes g c =
    let p = c.args.proof.now in
    first_failed _ _ _ _ _ (count_text word.Prove c.args.number) ((problem_text p.problem) ++ ((flat_map (piece_text p.problem.vars) p.tree.pieces) ++ (whole_line p.problem.vars (line.Verdict p.verdict)))) _ c.from_residual.ensures.0 c.in_err-write_count.ensures.bytes
    (append_assoc ((count_text word.Prove c.args.number) ++ (problem_text p.problem)) (flat_map (piece_text p.problem.vars) p.tree.pieces) (whole_line p.problem.vars (line.Verdict p.verdict)) ∙ append_assoc (count_text word.Prove c.args.number) (problem_text p.problem) ((flat_map (piece_text p.problem.vars) p.tree.pieces) ++ (whole_line p.problem.vars (line.Verdict p.verdict))))

pub returns-in_err-write_problem-clause-bytes : goal.returns-in_err-write_problem-clause-bytes
returns-in_err-write_problem-clause-bytes g c =
    let p = c.args.proof.now in
    next_failed _ _ _ _ _ _ _ (count_text word.Prove c.args.number) (problem_text p.problem) ((flat_map (piece_text p.problem.vars) p.tree.pieces) ++ (whole_line p.problem.vars (line.Verdict p.verdict))) _ c.from_residual-in_err-write_problem.ensures.0
    c.in_ok-write_count.ensures.bytes c.in_err-write_problem.ensures.bytes
    (append_assoc ((count_text word.Prove c.args.number) ++ (problem_text p.problem)) (flat_map (piece_text p.problem.vars) p.tree.pieces) (whole_line p.problem.vars (line.Verdict p.verdict)))

pub returns-in_err-write_pieces-clause-bytes : goal.returns-in_err-write_pieces-clause-bytes
returns-in_err-write_pieces-clause-bytes g c =
    let p = c.args.proof.now in
    next_failed _ _ _ _ _ _ _ ((count_text word.Prove c.args.number) ++ (problem_text p.problem)) (flat_map (piece_text p.problem.vars) c.as_slice.result.now) (whole_line p.problem.vars (line.Verdict p.verdict)) _ c.from_residual-in_err-write_pieces.ensures.0
    (Grew-then _ _ _ _ _ _ _ _ c.in_ok-write_count.ensures.bytes c.in_ok-write_problem.ensures.bytes) c.in_err-write_pieces.ensures.bytes
    ((λ j. (count_text word.Prove c.args.number) ++ (problem_text p.problem) ++ ((ap (flat_map (piece_text p.problem.vars)) (sym c.as_slice.ensures)) j) ++ (whole_line p.problem.vars (line.Verdict p.verdict))))

pub returns-clause-bytes : goal.returns-clause-bytes
returns-clause-bytes g c =
    let p = c.args.proof.now in
    last_writes c.write_row.result _ _ _ _ _ _ ((count_text word.Prove c.args.number) ++ (problem_text p.problem) ++ (flat_map (piece_text p.problem.vars) c.as_slice.result.now)) (whole_line p.problem.vars (line.Verdict p.verdict)) _
    (Grew-then _ _ _ _ _ _ _ _ (Grew-then _ _ _ _ _ _ _ _ c.in_ok-write_count.ensures.bytes c.in_ok-write_problem.ensures.bytes) c.in_ok-write_pieces.ensures.bytes) c.write_row.ensures.bytes
    ((λ j. (count_text word.Prove c.args.number) ++ (problem_text p.problem) ++ ((ap (flat_map (piece_text p.problem.vars)) (sym c.as_slice.ensures)) j) ++ (whole_line p.problem.vars (line.Verdict p.verdict))))
