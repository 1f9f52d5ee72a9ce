use Rattle.std.proofs.Common.{◌-◌, arith, sym, ◌∙◌}
use Rattle.poly_model.specs.declared.limits.TheConstants.{MOST_VARIABLES}
use Rattle.polynomials.proofs.Reading as reading
use Rattle.polynomials.proofs.reads.end_of_used.Goals as goal

pub loop-end-init : goal.loop-end-init
loop-end-init c = record { within = omega arith; whole = omega arith; none = reading.class-end MOST_VARIABLES c.args.exps.now (omega arith) }

pub loop-end-preserved : goal.loop-end-preserved
loop-end-preserved c =
    record {
      within = omega arith;
      whole = omega arith;
      none = reading.class-unused_run c.loop-end.end (c.loop-end.end - 8) 8 c.args.exps.now (omega arith) (sym c.eight_exponents.ensures ∙ c.if-eight_exponents-eq0.true) c.loop-end.invariant.none;
    }
