use Rattle.std.proofs.Common.{◌++◌, ◌∙◌, sym, ap, refl}
use Rattle.desk_io.proofs.Writing.{first_failed, last_writes}
use Rattle.proof_steps.specs.Rules.{has_second}
use Rattle.proof_log.specs.declared.line.LineWord.TheVariants as word
use Rattle.proof_log.specs.Writing.{count_text, fuel_text}
use Rattle.proof_log.proofs.writing.write_heading.Goals as goal

pub returns-in_err-write_count-clause-bytes : goal.returns-in_err-write_count-clause-bytes
returns-in_err-write_count-clause-bytes g c =
    first_failed _ _ _ _ _ (count_text word.Head c.args.version) (fuel_text (has_second c.args.version) c.args.fuel) _ c.from_residual.ensures.0 c.in_err-write_count.ensures.bytes refl

pub returns-then-has_second-clause-bytes : goal.returns-then-has_second-clause-bytes
returns-then-has_second-clause-bytes g c =
    last_writes c.write_count-then-has_second.result _ _ _ _ _ _ (count_text word.Head c.args.version) (count_text word.Fuel c.args.fuel) _
    c.in_ok-write_count.ensures.bytes c.write_count-then-has_second.ensures.bytes
    (ap (λ b. count_text word.Head c.args.version ++ fuel_text b c.args.fuel) (sym c.has_second.ensures ∙ c.if-has_second.true))
