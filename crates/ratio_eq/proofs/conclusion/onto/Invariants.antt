use Rattle.std.proofs.Common.{◌≡◌, length}
use Rattle.ratio_eq.specs.Bounded.{bounded_onto}
use Rattle.ratio_eq.proofs.conclusion.onto.Given as goal

abbrev pub invariant-loop-q : goal.invariant-loop-q
invariant-loop-q l = bounded_onto l.product l.rest ≡ bounded_onto l.fn.p l.fn.qs

abbrev pub decreases-loop-q : goal.decreases-loop-q
decreases-loop-q l = length l.rest
