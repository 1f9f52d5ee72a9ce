use Rattle.std.proofs.Common.{◌≡◌, ◌≤◌, length}
use Rattle.poly_model.specs.declared.limits.TheConstants.{MOST_VARIABLES}
use Rattle.algebraize.specs.Layout.{layout_from, layout_of}
use Rattle.algebraize.proofs.layout.lay_out.Given as goal

abbrev pub invariant-loop-act : goal.invariant-loop-act
invariant-loop-act l = record {
  value : layout_from l.layout l.rest ≡ layout_of l.fn.before;
  within : length l.layout.variables ≤ MOST_VARIABLES;
}

abbrev pub decreases-loop-act : goal.decreases-loop-act
decreases-loop-act l = length l.rest
