-- A place of a small figure is small.
use Rattle.std.proofs.Common.{ℕ, zero, suc, List, [], ◌∷◌, get_or, arith}
use Rattle.std.specs.Prelude.{ℤ, pos}
use Rattle.gcl_reader.specs.Figure.{IsSmall, AreSmall}
use Rattle.gcl_reader.specs.declared.limits.TheConstants.{MOST_COORDINATE}

pub small-or : (ps : List (ℤ × ℤ)) (i : ℕ) → AreSmall ps → IsSmall MOST_COORDINATE (get_or ps i (pos 0, pos 0))
small-or [] i h = (omega arith, omega arith)
small-or (p ∷ ps) zero h = h.0
small-or (p ∷ ps) (suc i) h = small-or ps i h.1
