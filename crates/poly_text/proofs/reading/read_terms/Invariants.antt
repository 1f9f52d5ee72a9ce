use Rattle.std.proofs.Common.{◌≤◌, ◌-◌, length}
use Rattle.poly_model.specs.Standard.{polynomial_of}
use Rattle.poly_model.specs.declared.limits.TheConstants.{MOST_TERMS}
use Rattle.poly_text.proofs.Progress.{TermsRead}
use Rattle.poly_text.proofs.reading.read_terms.Given as goal

abbrev pub invariant-loop-rest : goal.invariant-loop-rest
invariant-loop-rest l = record {
  few : length l.terms.items ≤ MOST_TERMS;
  read : TermsRead l.vars l.text l.rest (polynomial_of l.terms.items);
}

abbrev pub decreases-loop-rest : goal.decreases-loop-rest
decreases-loop-rest l = MOST_TERMS - length l.terms.items
