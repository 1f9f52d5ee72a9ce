use Rattle.std.proofs.Common.{ap, sym, ◌++◌}
use Rattle.desk_io.proofs.Writing.{first_failed, last_writes}
use Rattle.proof_log.specs.declared.line.LineWord.TheVariants as word
use Rattle.proof_log.specs.Writing.{polynomials_text}
use Rattle.proof_log.proofs.writing.write_lists.Goals as goal

pub returns-in_err-write_polynomials-clause-bytes : goal.returns-in_err-write_polynomials-clause-bytes
returns-in_err-write_polynomials-clause-bytes g c =
    let names = c.args.vars.now in
    let piece = c.args.piece.now in
    first_failed _ _ _ _ _ (polynomials_text word.Eq names c.as_slice.result.now) (polynomials_text word.Ne names piece.nes) _ c.from_residual.ensures.0 c.in_err-write_polynomials.ensures.bytes
    ((λ j. ((ap (polynomials_text word.Eq names) (sym c.as_slice.ensures)) j) ++ (polynomials_text word.Ne names piece.nes)))

pub returns-clause-bytes : goal.returns-clause-bytes
returns-clause-bytes g c =
    let names = c.args.vars.now in
    let piece = c.args.piece.now in
    last_writes c.write_polynomials-2.result _ _ _ _ _ _ (polynomials_text word.Eq names c.as_slice.result.now) (polynomials_text word.Ne names c.as_slice-2.result.now) _
    c.in_ok-write_polynomials.ensures.bytes c.write_polynomials-2.ensures.bytes
    ((λ j. ((ap (polynomials_text word.Eq names) (sym c.as_slice.ensures)) j) ++ ((ap (polynomials_text word.Ne names) (sym c.as_slice-2.ensures)) j)))
