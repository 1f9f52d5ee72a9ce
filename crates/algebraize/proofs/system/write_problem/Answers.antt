use Rattle.std.proofs.Common.{◌++◌, length, codes, append_assoc, sym, ◌∙◌, ap, IsTrue, subst}
use Rattle.desk_io.proofs.Growth.{Grew-then}
use Rattle.desk_io.proofs.Writing.{first_failed, next_failed, last_writes}
use Rattle.algebraize.specs.Formed.{equations}
use Rattle.algebraize.specs.System.{line_end, polynomial_lines}
use Rattle.std.specs.List.{list_all}
use Rattle.std.proofs.lemmas.Bool.{and_parts}
use Rattle.poly_model.specs.Polynomial.{is_over}
use Rattle.algebraize.proofs.Texts as lines
use Rattle.algebraize.proofs.system.write_problem.Goals as goal

pub write_polynomials-requires : goal.write_polynomials-requires
write_polynomials-requires g c =
    let n = length c.args.problem.now.vars in
    subst (λ l. IsTrue (list_all (is_over n) l)) (sym c.as_slice.ensures)
    (and_parts (list_all (is_over n) c.args.problem.now.hyps) (list_all (is_over n) c.args.problem.now.cons) c.requires).0

pub write_polynomials-requires-2 : goal.write_polynomials-requires-2
write_polynomials-requires-2 g c =
    let n = length c.args.problem.now.vars in
    subst (λ l. IsTrue (list_all (is_over n) l)) (sym c.as_slice-2.ensures)
    (and_parts (list_all (is_over n) c.args.problem.now.hyps) (list_all (is_over n) c.args.problem.now.cons) c.requires).1

pub returns-in_err-write_head-clause-bytes : goal.returns-in_err-write_head-clause-bytes
returns-in_err-write_head-clause-bytes g c =
    let names = c.args.problem.now.vars in
    let head = lines.head_text c.args.number names in
    let hyps = polynomial_lines (codes "hyp ") names c.args.problem.now.hyps in
    let cons = polynomial_lines (codes "con ") names c.args.problem.now.cons in
    let pieces = lines.problem_pieces c.args.number (equations c.args.problem.now) in
    first_failed _ _ _ _ _ head (line_end ++ (hyps ++ cons)) _ c.from_residual.ensures.0 c.in_err-write_head.ensures.bytes (pieces ∙ lines.four_right head line_end hyps cons)

pub returns-in_err-push-clause-bytes : goal.returns-in_err-push-clause-bytes
returns-in_err-push-clause-bytes g c =
    let names = c.args.problem.now.vars in
    let head = lines.head_text c.args.number names in
    let hyps = polynomial_lines (codes "hyp ") names c.args.problem.now.hyps in
    let cons = polynomial_lines (codes "con ") names c.args.problem.now.cons in
    let pieces = lines.problem_pieces c.args.number (equations c.args.problem.now) in
    next_failed _ _ _ _ _ _ _ head line_end (hyps ++ cons) _ c.from_residual-in_err-push.ensures.0
    c.in_ok-write_head.ensures.bytes c.in_err-push.ensures.bytes (pieces ∙ append_assoc (head ++ line_end) hyps cons)

pub returns-in_err-write_polynomials-clause-bytes : goal.returns-in_err-write_polynomials-clause-bytes
returns-in_err-write_polynomials-clause-bytes g c =
    let names = c.args.problem.now.vars in
    let head = lines.head_text c.args.number names in
    let hyps = polynomial_lines (codes "hyp ") names c.args.problem.now.hyps in
    let cons = polynomial_lines (codes "con ") names c.args.problem.now.cons in
    let pieces = lines.problem_pieces c.args.number (equations c.args.problem.now) in
    next_failed _ _ _ _ _ _ _ (head ++ line_end) (polynomial_lines (codes "hyp ") names c.as_slice.result.now) cons _ c.from_residual-in_err-write_polynomials.ensures.0
    (Grew-then _ _ _ _ _ _ _ _ c.in_ok-write_head.ensures.bytes c.in_ok-push.ensures.bytes) c.in_err-write_polynomials.ensures.bytes
    (pieces ∙ ap (λ l. head ++ line_end ++ polynomial_lines (codes "hyp ") names l ++ cons) (sym c.as_slice.ensures))

pub returns-clause-bytes : goal.returns-clause-bytes
returns-clause-bytes g c =
    let names = c.args.problem.now.vars in
    let head = lines.head_text c.args.number names in
    let hyps = polynomial_lines (codes "hyp ") names c.args.problem.now.hyps in
    let cons = polynomial_lines (codes "con ") names c.args.problem.now.cons in
    let pieces = lines.problem_pieces c.args.number (equations c.args.problem.now) in
    last_writes c.write_polynomials-2.result _ _ _ _ _ _ (head ++ line_end ++ polynomial_lines (codes "hyp ") names c.as_slice.result.now) (polynomial_lines (codes "con ") names c.as_slice-2.result.now) _
    (Grew-then _ _ _ _ _ _ _ _ (Grew-then _ _ _ _ _ _ _ _ c.in_ok-write_head.ensures.bytes c.in_ok-push.ensures.bytes) c.in_ok-write_polynomials.ensures.bytes)
    c.write_polynomials-2.ensures.bytes
    (pieces ∙ (λ i. head ++ line_end ++ polynomial_lines (codes "hyp ") names (sym c.as_slice.ensures i) ++ polynomial_lines (codes "con ") names (sym c.as_slice-2.ensures i)))
