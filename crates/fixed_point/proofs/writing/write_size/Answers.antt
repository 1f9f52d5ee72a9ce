use Rattle.std.proofs.Common.{◌≡◌, ◌/◌, decimal, ◌∙◌}
use Rattle.desk_io.proofs.Writing.{first_failed, last_writes}
use Rattle.fixed_point.proofs.Places.{size-parts}
use Rattle.fixed_point.proofs.writing.write_size.Goals as goal

pub returns-in_err-push-clause-bytes : goal.returns-in_err-push-clause-bytes
returns-in_err-push-clause-bytes g c =
    let text : c.as_bytes.result.now ≡ decimal (c.args.units / c.power_of_ten-one.result) = c.as_bytes.ensures.value ∙ c.format.ensures.text in
    first_failed _ _ _ _ _ _ _ _ c.from_residual.ensures.0 c.in_err-push.ensures.bytes (size-parts _ _ _ _ c.power_of_ten-one.ensures.value text)

pub returns-clause-bytes : goal.returns-clause-bytes
returns-clause-bytes g c =
    let text : c.as_bytes.result.now ≡ decimal (c.args.units / c.power_of_ten-one.result) = c.as_bytes.ensures.value ∙ c.format.ensures.text in
    last_writes c.write_decimals.result _ _ _ _ _ _ _ _ _ c.in_ok-push.ensures.bytes c.write_decimals.ensures.bytes
    (size-parts _ _ _ _ c.power_of_ten-one.ensures.value text)
