use Rattle.std.proofs.Common.{◌+◌, ◌++◌, ◌∷◌, take, drop, sym, ◌∙◌, ap, arith, ℕ, List}
use Rattle.desk_io.proofs.Growth.{Grew-more}
use Rattle.desk_io.proofs.Writing.{next_failed, pieces_more, pieces_split}
use Rattle.poly_model.specs.declared.vars.VarName.{VarName}
use Rattle.poly_text.specs.Text.{variable_text}
use Rattle.proof_log.specs.Text.{names_text}
use Rattle.proof_log.proofs.line_writing.write_names.Goals as goal

piece : VarName → List ℕ
piece n = 32 ∷ variable_text n

pub returns-in_err-write_name-clause-bytes : goal.returns-in_err-write_name-clause-bytes
unfolding piece
returns-in_err-write_name-clause-bytes g c =
    let names = c.args.vars.now in
    let rest = names_text (drop (c.loop-i.i + 1) names) in
    next_failed _ _ _ _ _ _ _ (names_text (take c.loop-i.i names)) _ rest _ c.from_residual.ensures.0 c.loop-i.invariant.grew c.in_err-write_name.ensures.bytes
    (pieces_split piece names c.loop-i.i c.at.result (omega arith) ∙ ap (λ n. names_text (take c.loop-i.i names) ++ piece n ++ rest) (sym c.at.ensures))

pub loop-i-preserved : goal.loop-i-preserved
unfolding piece
loop-i-preserved g c = record {
  later = omega (arith, c.in_ok-write_name.ensures.cause.later);
  grew = Grew-more _ _ _ _ _ _ _ _ _ c.loop-i.invariant.grew c.in_ok-write_name.ensures.bytes
      (pieces_more piece c.args.vars.now c.loop-i.i c.at.result (omega arith) ∙ ap (λ n. names_text (take c.loop-i.i c.args.vars.now) ++ piece n) (sym c.at.ensures));
}
