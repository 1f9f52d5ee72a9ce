use Rattle.std.proofs.Common.{ap, append_assoc, sym, ◌++◌}
use Rattle.desk_io.proofs.Growth.{Grew-then}
use Rattle.desk_io.proofs.Writing.{first_failed, next_failed, last_writes}
use Rattle.proof_log.specs.declared.line.LineWord.TheVariants as word
use Rattle.proof_log.specs.declared.line.LogLine.TheVariants as line
use Rattle.proof_log.specs.Writing.{whole_line, polynomials_text}
use Rattle.proof_log.proofs.writing.write_problem.Goals as goal

pub returns-in_err-write_row-clause-bytes : goal.returns-in_err-write_row-clause-bytes
returns-in_err-write_row-clause-bytes g c =
    let p = c.args.problem.now in
    first_failed _ _ _ _ _ (whole_line p.vars (line.Vars p.vars)) ((polynomials_text word.Hyp p.vars p.hyps) ++ (polynomials_text word.Con p.vars p.cons)) _ c.from_residual.ensures.0 c.in_err-write_row.ensures.bytes
    (append_assoc (whole_line p.vars (line.Vars p.vars)) (polynomials_text word.Hyp p.vars p.hyps) (polynomials_text word.Con p.vars p.cons))

pub returns-in_err-write_polynomials-clause-bytes : goal.returns-in_err-write_polynomials-clause-bytes
returns-in_err-write_polynomials-clause-bytes g c =
    let p = c.args.problem.now in
    next_failed _ _ _ _ _ _ _ (whole_line p.vars (line.Vars p.vars)) (polynomials_text word.Hyp p.vars c.as_slice.result.now) (polynomials_text word.Con p.vars p.cons) _ c.from_residual-in_err-write_polynomials.ensures.0
    c.in_ok-write_row.ensures.bytes c.in_err-write_polynomials.ensures.bytes
    ((λ j. (whole_line p.vars (line.Vars p.vars)) ++ ((ap (polynomials_text word.Hyp p.vars) (sym c.as_slice.ensures)) j) ++ (polynomials_text word.Con p.vars p.cons)))

pub returns-clause-bytes : goal.returns-clause-bytes
returns-clause-bytes g c =
    let p = c.args.problem.now in
    last_writes c.write_polynomials-2.result _ _ _ _ _ _ ((whole_line p.vars (line.Vars p.vars)) ++ (polynomials_text word.Hyp p.vars c.as_slice.result.now)) (polynomials_text word.Con p.vars c.as_slice-2.result.now) _
    (Grew-then _ _ _ _ _ _ _ _ c.in_ok-write_row.ensures.bytes c.in_ok-write_polynomials.ensures.bytes) c.write_polynomials-2.ensures.bytes
    ((λ j. (whole_line p.vars (line.Vars p.vars)) ++ ((ap (polynomials_text word.Hyp p.vars) (sym c.as_slice.ensures)) j) ++ ((ap (polynomials_text word.Con p.vars) (sym c.as_slice-2.ensures)) j)))
