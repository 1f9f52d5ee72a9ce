use Rattle.branch_core.proofs.Conserved.{conserves}
use Rattle.branch_core.proofs.laws.pieces_are_conserved.Goals as goal

pub returns : goal.returns
returns g c t history = conserves t history
