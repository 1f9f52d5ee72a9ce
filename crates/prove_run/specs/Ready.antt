-- The nodes that the work may begin with, by one thread or by workers.
use Rattle.std.specs.Prelude.{◌+◌, ◌≤◌, length}
use Rattle.poly_model.specs.declared.limits.TheConstants.{MOST_FUEL, MOST_HYPOTHESES, MOST_LETTERS}
use Rattle.proof_steps.specs.Rules.{size_of}
use Rattle.proof_steps.specs.declared.piece.Node.{Node}

-- A node with fuel for its size, and with at most one equation or condition for each letter beside as many hypotheses as a
-- problem may have.
pub record IsReady (n : Node) : Type 0 where
  pub pays : size_of n ≤ n.fuel
  pub most : n.fuel ≤ MOST_FUEL
  pub few : length n.eqs + length n.nes ≤ MOST_HYPOTHESES + length n.path

-- A node that waits for a worker: it is ready, at a path of at most as many letters as a path may have.
pub record IsWaiting (n : Node) : Type 0 where
  pub ready : IsReady n
  pub letters : length n.path ≤ MOST_LETTERS
