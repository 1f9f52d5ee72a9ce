use Rattle.std.proofs.Common.{◌++◌, decimal, sym, ◌∙◌, ap, arith}
use Rattle.std.specs.Prelude.{unsigned_abs}
use Rattle.std.proofs.lemmas.Int.{ints, to_z-of_z}
use mir.Syntax.{w128}
use Rattle.desk_io.proofs.Writing.{first_failed, last_writes}
use Rattle.poly_model.specs.Content.{is_negative}
use Rattle.proof_log.specs.Text.{minus_where}
use Rattle.proof_log.proofs.line_writing.write_multiplier.Goals as goal

pub returns-in_err-push-clause-bytes : goal.returns-in_err-push-clause-bytes
returns-in_err-push-clause-bytes g c =
    let sign = c.sign.ensures ∙ ap (λ m. minus_where (is_negative m)) (to_z-of_z w128 c.args.m (omega (arith, ints, c.ranges.m.sfits))) in
    first_failed _ _ _ _ _ c.sign.result.now (decimal (unsigned_abs c.args.m)) _ c.from_residual.ensures.0 c.in_err-push.ensures.bytes
    (ap (λ l. l ++ decimal (unsigned_abs c.args.m)) (sym sign))

pub returns-clause-bytes : goal.returns-clause-bytes
returns-clause-bytes g c =
    let sign = c.sign.ensures ∙ ap (λ m. minus_where (is_negative m)) (to_z-of_z w128 c.args.m (omega (arith, ints, c.ranges.m.sfits))) in
    let size = c.unsigned_abs.ensures.value ∙ ap unsigned_abs (to_z-of_z w128 c.args.m (omega (arith, ints, c.ranges.m.sfits))) in
    last_writes c.write_number.result _ _ _ _ _ _ c.sign.result.now (decimal c.unsigned_abs.result) _ c.in_ok-push.ensures.bytes c.write_number.ensures.bytes
    (λ i. sym sign i ++ decimal (sym size i))
