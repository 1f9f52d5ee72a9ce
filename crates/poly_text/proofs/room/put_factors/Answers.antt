use Rattle.std.proofs.Common.{◌++◌, take, sym, ◌∙◌, ap, arith}
use Rattle.poly_model.specs.declared.vars.VarName.TheVariants.{U}
use Rattle.poly_text.proofs.Parts.{factor_skipped}
use Rattle.poly_text.proofs.room.put_factors.Goals as goal

pub loop-i-preserved-then-e-eq0 : goal.loop-i-preserved-then-e-eq0
loop-i-preserved-then-e-eq0 c = record {
  within = omega (arith, c.loop-i.invariant.within);
  text =
      ap (λ l. take c.loop-i.n c.loop-i.room ++ l)
      (sym (factor_skipped c.loop-i.joined c.args.vars.now c.args.exps.now c.loop-i.i (U 0) (omega arith) (omega (arith, c.told-exps)) c.if-e-eq0.true))
      ∙ c.loop-i.invariant.text;
}
