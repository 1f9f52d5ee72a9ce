use Rattle.std.proofs.Common.{◌∙◌}
use Rattle.proof_steps.proofs.Paths.{same_letters}
use Rattle.proof_steps.proofs.path.Path.is.Goals as goal

pub returns : goal.returns
returns c = rw (← c.letters.ensures, ← c.letters-2.ensures) (c.eq.ensures ∙ same_letters c.letters.result.now c.letters-2.result.now)
