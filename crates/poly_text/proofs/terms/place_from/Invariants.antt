use Rattle.poly_text.specs.Reading.{Lacks}
use Rattle.poly_text.proofs.terms.place_from.Given as goal

abbrev pub invariant-loop-i : goal.invariant-loop-i
invariant-loop-i l = Lacks l.from l.i l.name l.vars
