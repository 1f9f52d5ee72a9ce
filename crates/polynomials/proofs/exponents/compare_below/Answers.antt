use Rattle.std.proofs.Common.{◌-◌, arith, sym, ◌∙◌, Equal}
use Rattle.std.specs.Ordering.{nat_cmp}
use Rattle.std.specs.Cmp.{nat_cmp_is}
use Rattle.poly_model.proofs.Places.{decided, from_numbers}
use Rattle.polynomials.proofs.Reading as reading
use Rattle.polynomials.proofs.exponents.compare_below.Goals as goal

pub loop-i-init : goal.loop-i-init
loop-i-init c = record {
  within = omega (arith, c.requires.within);
  whole = c.requires.whole;
  same = reading.unused-equal c.args.end c.args.a.now c.args.b.now (c.told-a ∙ sym c.told-b) c.requires.a c.requires.b;
}

pub returns-then-x-y : goal.returns-then-x-y
returns-then-x-y c =
    decided c.loop-i.i (c.loop-i.i - 8) 8 c.args.a.now c.args.b.now c.cmp.result (c.told-a ∙ sym c.told-b) c.fits-a c.fits-b (omega arith) c.loop-i.invariant.same
    (c.cmp.ensures ∙ (λ k. nat_cmp (c.eight_exponents-x.ensures k) (c.eight_exponents-y.ensures k)))
    (λ e. c.if-x-y.true (c.eight_exponents-x.ensures ∙ e ∙ sym c.eight_exponents-y.ensures))

pub loop-i-preserved : goal.loop-i-preserved
loop-i-preserved c =
    record {
      within = omega arith;
      whole = omega arith;
      same = from_numbers c.loop-i.i (c.loop-i.i - 8) 8 c.args.a.now c.args.b.now (c.told-a ∙ sym c.told-b) c.fits-a c.fits-b (omega arith) c.loop-i.invariant.same
          ∙ sym (nat_cmp_is _ _ Equal (sym c.eight_exponents-x.ensures ∙ c.if-x-y.false ∙ c.eight_exponents-y.ensures));
    }
