-- A tree for tests: of a depth, whose nodes have the depth of the tree and their own height as pieces, added up.
use Rattle.std.specs.Prelude.{ℕ, zero, suc, ◌+◌}
use Rattle.branch_core.specs.Trees.{Tree, Leaf, Fork}

abbrev pub halves : ℕ → ℕ → Tree ℕ
halves top zero = Leaf top
halves top (suc n) = Fork (top + suc n) (halves top n) (halves top n)
