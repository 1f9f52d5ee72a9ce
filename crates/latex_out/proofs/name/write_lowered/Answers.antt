use Rattle.std.proofs.Common.{◌++◌, List, ℕ, codes, append_assoc, refl}
use Rattle.std.specs.List.{flat_map}
use Rattle.desk_io.proofs.Growth.{Grew-then}
use Rattle.desk_io.proofs.Writing.{first_failed, next_failed, last_writes}
use Rattle.latex_out.specs.Latex.{lower_text}
use Rattle.latex_out.proofs.name.write_lowered.Goals as goal

pub returns-in_err-write_boxed-clause-bytes : goal.returns-in_err-write_boxed-clause-bytes
returns-in_err-write_boxed-clause-bytes g c =
    let lower : List ℕ = flat_map lower_text c.args.name.1.now in
    first_failed _ _ _ _ _ _ (lower ++ codes "}$}}\n") _ c.from_residual.ensures.0 c.in_err-write_boxed.ensures.bytes
    (append_assoc _ lower (codes "}$}}\n"))

pub returns-in_err-write_lower-clause-bytes : goal.returns-in_err-write_lower-clause-bytes
returns-in_err-write_lower-clause-bytes g c =
    next_failed _ _ _ _ _ _ _ _ _ (codes "}$}}\n") _
    c.from_residual-in_err-write_lower.ensures.0 c.in_ok-write_boxed.ensures.bytes c.in_err-write_lower.ensures.bytes refl

pub returns-clause-bytes : goal.returns-clause-bytes
returns-clause-bytes g c =
    last_writes c.push.result _ _ _ _ _ _ _ (codes "}$}}\n") _
    (Grew-then _ _ _ _ _ _ _ _ c.in_ok-write_boxed.ensures.bytes c.in_ok-write_lower.ensures.bytes) c.push.ensures.bytes refl
